use Prim.Native.Nat.{ℕ, ◌+◌, ◌-◌, ◌*◌, ◌/◌, ◌≤◌}
use native.Mathlib.Omega.{arith}
use mathlib.Core.Path.{◌≡◌, refl, sym, ap, ◌∙◌}
use mathlib.Core.List.{List}
use lib.ListN.{length, take, drop}
use Rattle.lists.specs.Ascending.{less}
use Rattle.sorted_rows.proofs.RowsLaws.{row_within, row-part}
use Rattle.sorted_rows.proofs.PlaceLaws.{halves-start, halves-behind, halves-before, halves-end}
use Rattle.sorted_rows.proofs.place.Goals as goal
use Rattle.sorted_rows.proofs.place.Goals.{After-comes_before, In-loop-low}

-- the row in the middle is one of the array's
room : (c : In-loop-low) →
    let a = c.args in
    let v = c.loop-low in
    a.width * (v.low + (v.high - v.low) / 2) + a.width ≤ length a.kept.now
room c =
    let v = c.loop-low in
    let a = c.args in
    row_within a.width (v.low + (v.high - v.low) / 2) a.n (length a.kept.now) (omega (arith, v.invariant.within))
    c.requires

-- what the comparison of it tells
compared : (c : After-comes_before) →
    let a = c.args in
    let v = c.loop-low in
    c.comes_before.result
    ≡ less (take a.width (drop (a.width * (v.low + (v.high - v.low) / 2)) a.kept.now)) a.value.now
compared c =
    let a = c.args in
    let v = c.loop-low in
    let middle = v.low + (v.high - v.low) / 2 in
    c.comes_before.ensures
    ∙ ap (λ (r : List ℕ). less r a.value.now) (row-part a.width middle (a.width * middle) a.kept.now refl)

pub loop-low-init : goal.loop-low-init
loop-low-init c = halves-start _ _ _ _

pub overflow_mul-start : goal.overflow_mul-start
overflow_mul-start c = omega (arith, room c)

pub overflow_add-start : goal.overflow_add-start
overflow_add-start c = omega (arith, room c)

pub offset_bounds-kept-start : goal.offset_bounds-kept-start
offset_bounds-kept-start c = omega (arith, room c)

pub slice_bounds-comes_before-end : goal.slice_bounds-comes_before-end
slice_bounds-comes_before-end c = omega (arith, room c)

pub loop-low-preserved-then-comes_before : goal.loop-low-preserved-then-comes_before
loop-low-preserved-then-comes_before c = let v = c.loop-low in
    halves-behind _ _ _ _ v.low v.high _ v.invariant (omega arith) (omega arith) (sym (compared (goal.at.loop-low-preserved-then-comes_before c).After-comes_before) ∙ c.if-comes_before.true)

pub loop-low-preserved : goal.loop-low-preserved
loop-low-preserved c = let v = c.loop-low in
    halves-before _ _ _ _ v.low v.high _ v.invariant (omega arith) (omega arith) (sym (compared (goal.at.loop-low-preserved c).After-comes_before) ∙ c.if-comes_before.false)

pub returns : goal.returns
returns c = let v = c.loop-low in halves-end _ _ _ _ v.low v.high v.invariant (omega arith)
