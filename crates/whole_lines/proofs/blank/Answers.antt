use Rattle.refusals.specs.TableLines.{blank}
use Rattle.whole_lines.proofs.blank.Goals as goal

pub returns : goal.returns
unfolding blank
returns c = cc
