use Rattle.refusals.specs.TableLines.{not_applied}
use Rattle.record_lines.proofs.not_applied.Goals as goal

pub returns : goal.returns
unfolding not_applied
returns c = cc
