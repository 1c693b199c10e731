use Prim.Native.Nat.{◌+◌, ◌*◌, ◌≤◌}
use native.Mathlib.Omega.{arith}
use lib.ListN.{length}
use Rattle.edition.specs.Limits.{block_length}
use Rattle.suite_walk.proofs.TestLaws.{test-one, test-part, test-last, test-whole, whole-block}
use Rattle.suite_walk.proofs.test.Goals as goal
use Rattle.suite_walk.proofs.test.Goals.{Else-not-begins_two}

-- an edition 2 test begins: block k is whole
whole : (c : Else-not-begins_two) →
    let given = c.args in block_length * given.k + block_length ≤ length given.suite.now
whole c = whole-block _ _ _ c.block-first.ensures c.if-first-lt-BLOCK.false

pub returns-then-first-lt-BLOCK : goal.returns-then-first-lt-BLOCK
returns-then-first-lt-BLOCK c = test-part _ _ _ c.block-first.ensures c.if-first-lt-BLOCK.true

pub returns-then-not-begins_two : goal.returns-then-not-begins_two
returns-then-not-begins_two c = test-one _ _ _ _ c.block-first.ensures c.begins_two.ensures c.if-not-begins_two.true

pub overflow_mul-from : goal.overflow_mul-from
overflow_mul-from c = omega (arith, whole c, c.ranges)

pub overflow_sub-suite : goal.overflow_sub-suite
overflow_sub-suite c = omega (arith, whole c)

pub slice_bounds-result-count : goal.slice_bounds-result-count
slice_bounds-result-count c = omega (arith, whole (goal.at.slice_bounds-result-count c).Else-not-begins_two)

pub slice_bounds-result-start : goal.slice_bounds-result-start
slice_bounds-result-start c = omega (arith, whole (goal.at.slice_bounds-result-start c).Else-not-begins_two)

pub returns-then-suite-from-lt-TEST : goal.returns-then-suite-from-lt-TEST
returns-then-suite-from-lt-TEST c = test-last _ _ _ _ c.block-first.ensures
    c.begins_two.ensures c.if-not-begins_two.false c.if-suite-from-lt-TEST.true

pub returns : goal.returns
returns c = test-whole _ _ _ _ c.block-first.ensures
    c.begins_two.ensures c.if-not-begins_two.false
