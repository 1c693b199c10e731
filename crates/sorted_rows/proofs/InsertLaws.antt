-- What putting one more in among n rows gives, by what the code finds: its place p, and whether the row there is it.
use Prim.Native.Nat.{ℕ, suc, ◌-◌, ◌*◌, ◌≤◌, ◌<◌}
use native.Mathlib.Omega.{arith}
use mathlib.Core.Path.{◌≡◌, refl, sym, ap, ◌∙◌}
use mathlib.Core.Bool.{Bool, true, false, not, ◌&&◌}
use mathlib.Core.List.{List, [], ◌∷◌}
use lib.Dec.{ltb}
use lib.ListN.{length, get_or, take, drop}
use lib.Seq.{take_at, take_all, length-take-le}
use borrow.Author.Tests.{ltb-true, ltb-false, not-true, not-false}
use Rattle.lists.specs.Ascending.{less}
use Rattle.lists.proofs.BoolLaws.{and_l, and_r}
use Rattle.sorted_rows.specs.Sorted.{insert, rows}
use Rattle.sorted_rows.specs.Places.{place_of, put_at}
use Rattle.sorted_rows.proofs.PlaceLaws.{place-most, place-last, place-between, place-there}
use Rattle.sorted_rows.proofs.PutLaws.{put-length, put-within}
use Rattle.sorted_rows.proofs.RowsLaws.{rows-length, rows_at, rows_take}

-- the row at p is o, if p isn't behind all: at o's place none comes before it
abbrev pub stands : List ℕ → List ℕ → ℕ → ℕ → ℕ → Bool
stands o l w n p = ltb p n && not (less o (take w (drop (w * p) l)))

module _ (o l : List ℕ) (w n p : ℕ) (e : p ≡ place_of o (rows w n l)) where
  place-row : p < n → get_or (rows w n l) (place_of o (rows w n l)) [] ≡ take w (drop (w * p) l)
  place-row k = ap (λ (i : ℕ). get_or (rows w n l) i []) (sym e) ∙ rows_at w n p l k

  -- it is put in where it isn't a row
  insert-put : stands o l w n p ≡ false → insert o (rows w n l) ≡ put_at p o (rows w n l)
  insert-put s = go (ltb p n) refl s ∙ ap (λ (i : ℕ). put_at i o (rows w n l)) (sym e)
    where
      go : (b : Bool) → ltb p n ≡ b → (b && not (less o (take w (drop (w * p) l)))) ≡ false →
          insert o (rows w n l) ≡ put_at (place_of o (rows w n l)) o (rows w n l)
      go true k f =
          let k' = ltb-true p n k in
          place-between o (rows w n l) (omega (arith, e, rows-length w n l, k'))
          (ap (less o) (place-row k') ∙ not-false (less o (take w (drop (w * p) l))) f)
      go false k f =
          place-last o (rows w n l) (omega (arith, e, rows-length w n l, place-most o (rows w n l), ltb-false p n k))

  module _ (room : ℕ) (h : n ≤ room) where
    -- it goes behind all, and there is no room
    pub insert-full : p ≡ room → rows w n l ≡ take room (insert o (rows w n l))
    insert-full q =
        let r = rows w n l in
        let i = place_of o r in
        let all : i ≡ length r = omega (arith, e, q, place-most o r, rows-length w n l) in
        sym
        (ap (take room) (place-last o r all)
        ∙ take_at (take i r) (o ∷ drop i r) room (length-take-le i r (omega (arith, all)) ∙ sym e ∙ q)
        ∙ take_all i r (omega (arith, all)))

    -- it is a row
    pub insert-stands : stands o l w n p ≡ true → rows w n l ≡ take room (insert o (rows w n l))
    insert-stands s =
        let r = rows w n l in
        let q = less o (take w (drop (w * p) l)) in
        let k = ltb-true p n (and_l (ltb p n) (not q) s) in
        let f = not-true q (and_r (ltb p n) (not q) s) in
        sym
        (ap (take room) (place-there o r (omega (arith, e, rows-length w n l, k)) (ap (less o) (place-row k) ∙ f))
        ∙ take_all room r (omega (arith, rows-length w n l)))

    -- it isn't, and there is room for one more
    pub insert-more : stands o l w n p ≡ false → n < room → put_at p o (rows w n l) ≡ take room (insert o (rows w n l))
    insert-more s k =
        let r = rows w n l in
        sym
        (ap (take room) (insert-put s)
        ∙ take_all room (put_at p o r) (omega (arith, put-length p o r (omega (arith, e, place-most o r)), rows-length w n l)))

    -- it isn't, and there is none: the last row is dropped
    pub insert-drops : stands o l w n p ≡ false → room ≤ n → p < room →
        put_at p o (rows w (n - 1) l) ≡ take room (insert o (rows w n l))
    insert-drops s k q =
        let c : suc (n - 1) ≡ room = omega arith in
        ap (put_at p o) (sym (rows_take w (n - 1) n l (omega arith)))
        ∙ sym (put-within p (n - 1) o (rows w n l) (omega arith))
        ∙ ap (λ (i : ℕ). take i (put_at p o (rows w n l))) c
        ∙ ap (take room) (sym (insert-put s))
