-- Laws of the place at which one more row is put in.
use Prim.Native.Nat.{ℕ, zero, suc, ◌+◌, ◌*◌, ◌≤◌, ◌<◌}
use native.Mathlib.Omega.{arith}
use mathlib.Core.Path.{◌≡◌, refl, sym, ap, ◌∙◌}
use mathlib.Core.Bool.{Bool, true, false}
use mathlib.Core.List.{List, [], ◌∷◌, ◌++◌}
use lib.ListN.{length, get_or, take, drop, take-append-drop}
use lib.Seq.{drop-cons, drop-length}
use Rattle.lists.specs.Ascending.{less, AllAbove, Ascending}
use Rattle.lists.proofs.AscendingLaws.{less-trans}
use Rattle.sorted_rows.specs.Sorted.{insert, rows}
use Rattle.sorted_rows.specs.Places.{place_of, put_at, PlacedAt}
use Rattle.sorted_rows.proofs.SortedLaws.{insert-front, insert-there, insert-behind}
use Rattle.sorted_rows.proofs.RowsLaws.{rows-length, rows_at}

-- an entry of a list whose entries are all greater than q
above_entry : (q : List ℕ) (l : List (List ℕ)) (i : ℕ) → AllAbove q l → i < length l → less q (get_or l i []) ≡ true
above_entry q [] i a k = absurd (omega arith)
above_entry q (r ∷ l) zero a k = a.0
above_entry q (r ∷ l) (suc i) a k = above_entry q l i a.1 (omega arith)

module _ (o : List ℕ) where
  place_here : (q : List ℕ) (l : List (List ℕ)) → less q o ≡ false → place_of o (q ∷ l) ≡ 0
  place_here q l h = rw h refl

  place-later : (q : List ℕ) (l : List (List ℕ)) → less q o ≡ true → place_of o (q ∷ l) ≡ suc (place_of o l)
  place-later q l h = rw h refl

  -- the place is within the list or behind it
  pub place-most : (l : List (List ℕ)) → place_of o l ≤ length l
  place-most [] = omega arith
  place-most (q ∷ l) = go (less q o) refl (place-most l)
    where
      go : (b : Bool) → less q o ≡ b → place_of o l ≤ length l → place_of o (q ∷ l) ≤ suc (length l)
      go true h m = omega (arith, place-later q l h)
      go false h m = omega (arith, place_here q l h)

  -- entry i comes before it, and so do those before i: the place is behind
  place-past : (l : List (List ℕ)) (i : ℕ) → Ascending l → i < length l → less (get_or l i []) o ≡ true → i < place_of o l
  place-past [] i a k h = absurd (omega arith)
  place-past (q ∷ l) zero a k h = omega (arith, place-later q l h)
  place-past (q ∷ l) (suc i) a k h =
      let before = less-trans q (get_or l i []) o (above_entry q l i a.0 (omega arith)) h in
      omega (arith, place-later q l before, place-past l i a.1 (omega arith) h)

  -- entry i doesn't: the place isn't behind
  place-upto : (l : List (List ℕ)) (i : ℕ) → i < length l → less (get_or l i []) o ≡ false → place_of o l ≤ i
  place-upto [] i k h = absurd (omega arith)
  place-upto (q ∷ l) zero k h = omega (arith, place_here q l h)
  place-upto (q ∷ l) (suc i) k h = go (less q o) refl (place-upto l i (omega arith) h)
    where
      go : (b : Bool) → less q o ≡ b → place_of o l ≤ i → place_of o (q ∷ l) ≤ suc i
      go true e m = omega (arith, place-later q l e)
      go false e m = omega (arith, place_here q l e)

  module _ (w n : ℕ) (l : List ℕ) where
    -- the place is between low and high, if the rows ascend
    pub record Between (low high : ℕ) : Type 0 where
      pub within : (low ≤ high) × (high ≤ n)
      pub found : Ascending (rows w n l) → (low ≤ place_of o (rows w n l)) × (place_of o (rows w n l) ≤ high)

    pub halves-start : Between 0 n
    halves-start = record {
      within = (omega arith, omega arith);
      found = λ a. (omega arith, omega (arith, place-most (rows w n l), rows-length w n l));
    }

    -- A row between is compared.
    module _ (low high i : ℕ) (s : Between low high) (from : low ≤ i) (upto : i < high) where
      inside : i < length (rows w n l)
      inside = omega (arith, s.within, upto, rows-length w n l)

      same : get_or (rows w n l) i [] ≡ take w (drop (w * i) l)
      same = rows_at w n i l (omega (arith, s.within, upto))

      pub halves-behind : less (take w (drop (w * i) l)) o ≡ true → Between (i + 1) high
      halves-behind h = record {
        within = (omega arith, s.within.1);
        found = λ a.
            (omega (arith, place-past (rows w n l) i a inside (ap (λ (r : List ℕ). less r o) same ∙ h)), (s.found a).1);
      }

      pub halves-before : less (take w (drop (w * i) l)) o ≡ false → Between low i
      halves-before h = record {
        within = (from, omega (arith, s.within, upto));
        found = λ a. ((s.found a).0, place-upto (rows w n l) i inside (ap (λ (r : List ℕ). less r o) same ∙ h));
      }

    -- none is left
    pub halves-end : (low high : ℕ) → Between low high → high ≤ low → (low ≤ n) × PlacedAt o (rows w n l) low
    halves-end low high s h =
        (omega (arith, s.within), λ a. let f = s.found a in omega (arith, s.within, f.0, f.1))

  -- the entry at the place doesn't come before it
  place-not : (l : List (List ℕ)) → place_of o l < length l → less (get_or l (place_of o l) []) o ≡ false
  place-not [] k = absurd (omega arith)
  place-not (q ∷ l) k = go (less q o) refl (place-not l)
    where
      go : (b : Bool) → less q o ≡ b → (place_of o l < length l → less (get_or l (place_of o l) []) o ≡ false) →
          less (get_or (q ∷ l) (place_of o (q ∷ l)) []) o ≡ false
      go true h later = rw (place-later q l h) (later (omega (arith, place-later q l h)))
      go false h later = rw (place_here q l h) h

  -- what is before the place stays before it
  place-splits : (l : List (List ℕ)) → insert o l ≡ take (place_of o l) l ++ insert o (drop (place_of o l) l)
  place-splits [] = refl
  place-splits (q ∷ l) = go (less q o) refl (place-splits l)
    where
      go : (b : Bool) → less q o ≡ b → insert o l ≡ take (place_of o l) l ++ insert o (drop (place_of o l) l) →
          insert o (q ∷ l) ≡ take (place_of o (q ∷ l)) (q ∷ l) ++ insert o (drop (place_of o (q ∷ l)) (q ∷ l))
      go true h later = insert-behind o q l h ∙ rw (place-later q l h) (ap (λ (r : List (List ℕ)). q ∷ r) later)
      go false h later = rw (place_here q l h) refl

  -- it is put in behind all
  pub place-last : (l : List (List ℕ)) → place_of o l ≡ length l → insert o l ≡ put_at (place_of o l) o l
  unfolding insert
  place-last l e = place-splits l ∙ rw (e, drop-length l) refl

  -- it comes before the entry at the place: it is put in there
  pub place-between : (l : List (List ℕ)) → place_of o l < length l → less o (get_or l (place_of o l) []) ≡ true →
      insert o l ≡ put_at (place_of o l) o l
  place-between l h k =
      let p = place_of o l in
      let q = get_or l p [] in
      let e = drop-cons l p [] h in
      place-splits l
      ∙ ap (λ (r : List (List ℕ)). take p l ++ insert o r) e
      ∙ ap (λ (r : List (List ℕ)). take p l ++ r) (insert-front o q (drop (suc p) l) (place-not l h) k)
      ∙ ap (λ (r : List (List ℕ)). take p l ++ (o ∷ r)) (sym e)

  -- it is the entry at the place
  pub place-there : (l : List (List ℕ)) → place_of o l < length l → less o (get_or l (place_of o l) []) ≡ false → insert o l ≡ l
  place-there l h k =
      let p = place_of o l in
      let e = drop-cons l p [] h in
      place-splits l
      ∙ ap (λ (r : List (List ℕ)). take p l ++ insert o r) e
      ∙ ap (λ (r : List (List ℕ)). take p l ++ r) (insert-there o (get_or l p []) (drop (suc p) l) (place-not l h) k ∙ sym e)
      ∙ take-append-drop p l
