use Prim.Native.Nat.{ℕ, ◌+◌, ◌-◌, ◌*◌, ◌≤◌, ◌<◌}
use native.Mathlib.Omega.{arith}
use mathlib.Core.Path.{◌≡◌, refl, sym, ap, ◌∙◌}
use mathlib.Core.Bool.{false}
use mathlib.Core.List.{List}
use lib.ListN.{length, take}
use Rattle.sorted_rows.specs.Sorted.{rows}
use Rattle.sorted_rows.specs.Places.{PlacedAt}
use lib.Seq.{length-take-le}
use Rattle.sorted_rows.proofs.RowsLaws.{rows-within}
use Rattle.sorted_rows.proofs.InsertLaws.{stands, insert-full, insert-stands, insert-more, insert-drops}
use borrow.Author.Rules.{rules}
use Rattle.sorted_rows.proofs.insert.Goals as goal
use Rattle.sorted_rows.proofs.insert.Goals.{Else-stands_at, Start}

-- the n rows are the array's
room : (c : Start) → c.args.width * c.args.n ≤ length c.args.kept.now
room c = rows-within c.args.width c.args.n c.args.room (length c.args.kept.now) c.requires.0 c.requires.1

module _ (c : Else-stands_at) where
  abbrev value : List ℕ
  value = take c.args.width c.args.value.now

  abbrev at : ℕ
  at = c.place-at.result

  abbrev found : PlacedAt value (rows c.args.width c.args.n c.args.kept.now) at
  found = c.place-at.ensures.1

  -- its place is among the rows or behind them, and there is room for it
  placed : (at ≤ c.args.n) × (at < c.args.room)
  placed =
      let within = c.place-at.ensures.0 in
      (within, omega (arith, within, c.requires.0, c.if-at-room.false))

  -- it isn't a row
  absent : stands value c.args.kept.now c.args.width c.args.n at ≡ false
  absent = sym c.stands_at.ensures ∙ c.if-stands_at.false

pub slice_bounds-row-end : goal.slice_bounds-row-end
slice_bounds-row-end c = sym (length-take-le _ _ c.requires.2)

pub place-at-requires : goal.place-at-requires
place-at-requires c = room (goal.at.place-at-requires c).Start

pub returns-then-at-room : goal.returns-then-at-room
returns-then-at-room c = let h = c.requires.0 in
    record { puts = λ u. insert-full _ _ _ _ _ (c.place-at.ensures.1 u) _ h c.if-at-room.true; upper_bound = (h, refl) }

pub stands_at-requires : goal.stands_at-requires
stands_at-requires c = room (goal.at.stands_at-requires c).Start

pub returns-then-stands_at : goal.returns-then-stands_at
returns-then-stands_at c = let h = c.requires.0 in
    let found = c.place-at.ensures.1 in
    record { puts = λ u. insert-stands _ _ _ _ _ (found u) _ h (sym c.stands_at.ensures ∙ c.if-stands_at.true); upper_bound = (h, refl) }

pub put-requires : goal.put-requires
put-requires c =
    let e = (goal.at.put-requires c).Else-stands_at in
    let fits = rows-within c.args.width (c.args.n + 1) c.args.room _ (omega arith) c.requires.1 in
    ((placed e).0, fits, c.requires.2)

pub returns-then-n-room : goal.returns-then-n-room
returns-then-n-room c =
    let e = (goal.at.returns-then-n-room c).Else-stands_at in
    let room = c.if-n-room.true in record {
      puts = λ u. c.put.ensures ∙ insert-more _ _ _ _ _ (found e u) _ c.requires.0 (absent e) room;
      upper_bound = (omega arith, search rules);
    }

pub overflow_sub-n : goal.overflow_sub-n
overflow_sub-n c = omega (arith, placed (goal.at.overflow_sub-n c).Else-stands_at, c.requires.0)

pub put-requires-2 : goal.put-requires-2
put-requires-2 c =
    let p = placed (goal.at.put-requires-2 c).Else-stands_at in
    let fits = rows-within c.args.width (c.args.n - 1 + 1) c.args.room _ (omega (arith, p, c.requires.0)) c.requires.1 in
    (omega (arith, p, c.requires.0), fits, c.requires.2)

pub returns : goal.returns
returns c =
    let e = (goal.at.returns c).Else-stands_at in
    let n : c.args.n ≡ c.args.n - 1 + 1 = omega (arith, placed e, c.requires.0) in
    let full = c.if-n-room.false in record {
      puts = λ u. ap (λ (k : ℕ). rows c.args.width k c.put-2.new.kept) n ∙ c.put-2.ensures
          ∙ insert-drops _ _ _ _ _ (found e u) _ c.requires.0 (absent e) full (placed e).1;
      upper_bound = (c.requires.0, search rules);
    }
