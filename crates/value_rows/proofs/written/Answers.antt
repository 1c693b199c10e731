use Prim.Native.Nat.{◌-◌}
use native.Mathlib.Omega.{arith}
use borrow.Author.Count.{below_none, below_more}
use Rattle.lists.proofs.PaddedLaws.{pad-start, pad-more, pad-end}
use Rattle.table.specs.Events.{event}
use Rattle.value_rows.proofs.written.Goals as goal

pub loop-e-init : goal.loop-e-init
loop-e-init c = (pad-start _ _ _, below_none _)

pub loop-e-preserved : goal.loop-e-preserved
unfolding event
loop-e-preserved c = let v = c.loop-e in
    let room = c.requires.events in (
      pad-more _ _ _ _ _ _ (omega (arith, room)) v.invariant.0 (omega arith) c.value.ensures.0,
      below_more _ _ v.invariant.1 c.value.ensures.1,
    )

pub returns : goal.returns
returns c = let v = c.loop-e.invariant in record { value = pad-end _ _ _ _ _ v.0 (omega arith); narrow_written = λ k l. v.1 k (omega arith) }
