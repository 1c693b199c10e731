use Prim.Native.Nat.{◌-◌}
use mathlib.Core.Path.{sym, ◌∙◌}
use native.Mathlib.Omega.{arith}
use Rattle.lists.proofs.LastLaws.{last-hit, last-skip, last_end}
use Rattle.returns.proofs.last_writer.Goals as goal
use Rattle.returns.proofs.last_writer.Goals.{then-writes_to, else-writes_to}

pub loop-w-preserved : goal.loop-w-preserved
loop-w-preserved c = let v = c.loop-w in (
  omega arith,
  v.invariant.1 ∙ elim c.if-writes_to.branch [ then-writes_to w ↦ rw w.latest-is (last-hit _ v.latest _ v.w-index (omega arith) c.writes_to.ensures w.if-writes_to.true) | else-writes_to w ↦ rw w.latest-is (last-skip _ v.latest _ v.w-index (omega arith) c.writes_to.ensures w.if-writes_to.false) ],
)

pub returns : goal.returns
returns c = let v = c.loop-w in
    sym (v.invariant.1 ∙ last_end _ v.latest _ v.w-index (omega arith))
