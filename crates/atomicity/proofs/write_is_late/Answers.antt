use Rattle.model.specs.Axioms.{write_is_late}
use Rattle.atomicity.proofs.write_is_late.Goals as goal

pub returns : goal.returns
unfolding write_is_late
returns c = rw (c.before-2.ensures, c.returned_from-f.ensures)
