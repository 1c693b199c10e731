use mathlib.Core.Path.{ap, ap₂, ◌∙◌}
use mathlib.Core.Bool.{◌||◌}
use native.Mathlib.Omega.{arith}
use Rattle.suite_part.proofs.PartLaws.{part_length}
use Rattle.block.specs.Reading.{line2}
use Rattle.block.proofs.ReadingLaws.{two-later}
use Rattle.block.proofs.later_check_wrong.Goals as goal

pub check_wrong-requires : goal.check_wrong-requires
check_wrong-requires c = part_length _ 1 _ (omega (arith, c.requires)) c.block.ensures

pub check_wrong-requires-2 : goal.check_wrong-requires-2
check_wrong-requires-2 c = part_length _ 2 _ (omega (arith, c.requires)) c.block-2.ensures

pub returns : goal.returns
returns c = ap₂ ◌||◌ (c.check_wrong.ensures ∙ ap line2 c.block.ensures) (c.check_wrong-2.ensures ∙ ap line2 c.block-2.ensures)
    ∙ two-later c.args.s.now
