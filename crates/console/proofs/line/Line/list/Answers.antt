use native.Mathlib.Omega.{arith}
use Rattle.console.specs.Texts.{spaced}
use Rattle.console.proofs.LineLaws.{then, same_text, nothing}
use Rattle.console.proofs.TextLaws.{one_more}
use Rattle.console.proofs.line.Line.list.Goals as goal

pub loop-b-init : goal.loop-b-init
unfolding spaced
loop-b-init c = nothing _

pub loop-b-preserved : goal.loop-b-preserved
loop-b-preserved c = let v = c.loop-b in
    same_text _ _ (one_more _ v.b-index _ (omega arith) c.from.ensures) (then _ _ _ _ _ v.invariant c.spaced-self.ensures)
