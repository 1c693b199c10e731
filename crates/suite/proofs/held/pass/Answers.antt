use mathlib.Core.Path.{sym}
use native.Mathlib.Omega.{arith}
use lib.ListN.{take}
use lib.Seq.{length-take-le}
use Rattle.suite_walk.proofs.WalkLaws.{near}
use Rattle.suite.proofs.held.pass.Goals as goal

pub slice_bounds-next-end-2 : goal.slice_bounds-next-end-2
slice_bounds-next-end-2 c = sym (length-take-le _ _ c.requires)

pub overflow_mul-blocks : goal.overflow_mul-blocks
overflow_mul-blocks c = let given = c.args in
    omega (arith, c.next-blocks.ensures, near (take given.held given.buffer.now) 0)

pub returns : goal.returns
returns c = let down = c.move_down-left in
    record {
      moved = c.next-blocks.ensures;
      left = down.ensures.buffer_after;
      within = omega (arith, down.ensures.value, length-take-le c.args.held c.args.buffer.now c.requires);
    }
