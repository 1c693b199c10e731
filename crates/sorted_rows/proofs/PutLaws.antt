-- Laws of rows when one more is put in between.
use Prim.Native.Nat.{ℕ, zero, suc, ◌+◌, ◌-◌, ◌*◌, ◌≤◌}
use native.Mathlib.Nat.{mul-suc, mul-add}
use native.Mathlib.Numerals.{add-one}
use native.Mathlib.Omega.{arith}
use mathlib.Core.Path.{◌≡◌, refl, sym, ap, ap₂, ◌∙◌}
use mathlib.Core.List.{List, [], ◌∷◌, ◌++◌, append_assoc}
use lib.ListN.{length, take, drop, length-append, length-drop}
use lib.Seq.{take-take, take-append-le, take_all, drop_at, length-take-le, paste}
use Rattle.sorted_rows.specs.Sorted.{rows, flat}
use Rattle.sorted_rows.specs.Places.{put_at}
use Rattle.sorted_rows.proofs.RowsLaws.{Wide, rows-length, rows_take, rows_drop, rows-wide, rows-joined}
use Rattle.sorted_rows.proofs.RowsLaws.{flat_append, flat_rows, wide-append}

-- a list with one more has one entry more
pub put-length : (k : ℕ) (o : List ℕ) (l : List (List ℕ)) → k ≤ length l → length (put_at k o l) ≡ suc (length l)
put-length k o l h =
    omega (arith, length-append (take k l) (o ∷ drop k l), length-take-le k l h, length-drop k l)

-- the first entries of a list with one more: one is put in among one fewer
pub put-within : (p k : ℕ) (o : List ℕ) (l : List (List ℕ)) → p ≤ k → take (suc k) (put_at p o l) ≡ put_at p o (take k l)
put-within zero k o l h = refl
put-within (suc p) zero o l h = absurd (omega arith)
put-within (suc p) (suc k) o [] h = refl
put-within (suc p) (suc k) o (q ∷ l) h = ap (λ (r : List (List ℕ)). q ∷ r) (put-within p k o l (omega arith))

-- the places from row a up to row b
places-between : (w a b : ℕ) → a ≤ b → w * b ≡ w * a + w * (b - a)
places-between w a b h =
    let e : b ≡ a + (b - a) = omega arith in
    ap (λ (k : ℕ). w * k) e ∙ mul-add w a (b - a)

-- the rows from `at` to the last, and one behind them
pub put-places : (w at last k : ℕ) → at ≤ last → w * (last + 1) ≤ k → (w * at ≤ w * last) × (w * last + w ≤ k)
put-places w at last k h fits =
    (omega (arith, places-between w at last h), omega (arith, ap (λ (i : ℕ). w * i) (add-one last), mul-suc w last))

module _ (w at last : ℕ) (o l : List ℕ) (h : at ≤ last) (fits : w * (last + 1) ≤ length l) (wide : length o ≡ w) where
  rest : List ℕ
  rest = drop (w * last + w) l

  -- the rows up to `at`, and those from there to the last
  front : List (List ℕ)
  front = rows w at l

  back : List (List ℕ)
  back = rows w (last - at) (drop (w * at) l)

  -- the rows from there on, moved back by one
  moved : List ℕ
  moved = take (w * last - w * at) (drop (w * at) l) ++ rest

  front-within : w * at + w ≤ length l
  front-within = omega (arith, put-places w at last (length l) h fits)

  back-within : w * (last - at) ≤ length (drop (w * at) l)
  back-within = omega (arith, put-places w at last (length l) h fits, places-between w at last h, length-drop (w * at) l)

  fronts : flat front ≡ take (w * at) l
  unfolding front
  fronts = flat_rows w at l (omega (arith, front-within))

  backs : flat back ≡ take (w * last - w * at) (drop (w * at) l)
  unfolding back
  backs =
      let e : w * (last - at) ≡ w * last - w * at = omega (arith, places-between w at last h) in
      flat_rows w (last - at) (drop (w * at) l) back-within
      ∙ ap (λ (k : ℕ). take k (drop (w * at) l)) e

  -- the rows with one more, joined
  joined : take (w * at) l ++ o ++ moved ≡ flat (front ++ (o ∷ back)) ++ rest
  unfolding flat moved
  joined = rw (flat_append front (o ∷ back), fronts, backs) (simp append_assoc)

  all-wide : Wide w (front ++ (o ∷ back))
  unfolding front back
  all-wide =
      wide-append w front (o ∷ back) (rows-wide w at l (omega (arith, front-within)))
      (wide, rows-wide w (last - at) (drop (w * at) l) back-within)

  count : last + 1 ≡ length (front ++ (o ∷ back))
  unfolding front back
  count =
      omega (arith, length-append front (o ∷ back), rows-length w at l, rows-length w (last - at) (drop (w * at) l))

  -- the rows from `at` on are moved back by one, and the new one is written there
  pub put-rows :
      let m = paste l (w * at + w) (drop (w * at) l) (w * last - w * at) in
      rows w (last + 1) (paste m (w * at) o w) ≡ put_at at o (rows w last l)
  unfolding front back moved rest
  put-rows =
      let k = w * at + w in
      let size = length-take-le k l front-within in
      let end : k + (w * last - w * at) ≡ w * last + w = omega (arith, put-places w at last (length l) h fits) in
      rw (end, take_all w o (omega (arith, wide)), append_assoc (take k l) (take (w * last - w * at) (drop (w * at) l)) rest)
      (ap₂ (λ (x y : List ℕ). rows w (last + 1) (x ++ o ++ y))
      (take-append-le (w * at) (take k l) moved (omega (arith, size)) ∙ take-take (w * at) k l (omega arith))
      (drop_at (take k l) moved k size)
      ∙ ap₂ (rows w) count joined
      ∙ rows-joined w (front ++ (o ∷ back)) rest all-wide
      ∙ ap₂ (λ (x y : List (List ℕ)). x ++ (o ∷ y)) (sym (rows_take w at last l h)) (sym (rows_drop w at last l h)))
