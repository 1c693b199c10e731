use Prim.Native.Nat.{◌-◌}
use native.Mathlib.Omega.{arith}
use borrow.Author.Count.{below_none, below_more}
use Rattle.lists.proofs.PaddedLaws.{pad-start, pad-more, pad-end}
use Rattle.model.specs.Returns.{initial_value}
use Rattle.value_rows.proofs.initial.Goals as goal

pub loop-x-init : goal.loop-x-init
loop-x-init c = (pad-start _ _ _, below_none _)

pub loop-x-preserved : goal.loop-x-preserved
unfolding initial_value
loop-x-preserved c = let v = c.loop-x in
    let room = c.requires.locations in (
      pad-more _ _ _ _ _ _ (omega (arith, room)) v.invariant.0 (omega arith) c.value.ensures.0,
      below_more _ _ v.invariant.1 c.value.ensures.1,
    )

pub returns : goal.returns
returns c = let v = c.loop-x.invariant in record { value = pad-end _ _ _ _ _ v.0 (omega arith); narrow_initial = λ k l. v.1 k (omega arith) }
