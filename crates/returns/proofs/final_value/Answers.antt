use Rattle.model.specs.Returns.{final_value}
use Rattle.returns.specs.Writers.{writes_to}
use Rattle.returns.proofs.final_value.Goals as goal

pub returns : goal.returns
unfolding final_value writes_to
returns c = rw c.last_writer.ensures at c.written_value.ensures
