use Prim.Native.Nat.{◌+◌, ◌*◌, ◌≤◌}
use native.Mathlib.Omega.{arith}
use mathlib.Core.Path.{refl, ap, ◌∙◌}
use mathlib.Core.Bool.{not}
use lib.ListN.{length}
use borrow.Author.Tests.{lt-ltb, le-ltb}
use Rattle.lists.specs.Ascending.{less}
use Rattle.sorted_rows.proofs.RowsLaws.{row_within, row-part}
use Rattle.sorted_rows.proofs.stands_at.Goals as goal
use Rattle.sorted_rows.proofs.stands_at.Goals.{Else-n-at}

-- the row that is compared is one of the array's
room : (c : Else-n-at) →
    let a = c.args in
    a.width * a.at + a.width ≤ length a.kept.now
room c =
    let a = c.args in
    row_within a.width a.at a.n (length a.kept.now) (omega arith) c.requires

pub returns-then-n-at : goal.returns-then-n-at
returns-then-n-at c = rw (le-ltb c.args.at c.args.n c.if-n-at.true) refl

pub overflow_mul-start : goal.overflow_mul-start
overflow_mul-start c = omega (arith, room c)

pub overflow_add-start : goal.overflow_add-start
overflow_add-start c = omega (arith, room c)

pub offset_bounds-kept-start : goal.offset_bounds-kept-start
offset_bounds-kept-start c = omega (arith, room c)

pub slice_bounds-comes_before-end : goal.slice_bounds-comes_before-end
slice_bounds-comes_before-end c = omega (arith, room c)

pub returns : goal.returns
returns c = let a = c.args in
    let row = row-part a.width a.at (a.width * a.at) a.kept.now refl in
    rw (lt-ltb a.at a.n (omega arith)) (ap not (c.comes_before.ensures ∙ ap (less a.value.now) row))
