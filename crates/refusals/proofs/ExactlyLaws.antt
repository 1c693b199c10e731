-- The first line that holds is exactly the one that refuses.
use Prim.Native.Nat.{ℕ}
use mathlib.Core.Path.{◌≡◌, refl, ap, ◌∙◌}
use mathlib.Core.Bool.{Bool, true, false}
use mathlib.Core.List.Memᴰ
use mathlib.Core.List.{List, [], ◌∷◌}
use mathlib.Core.Logic.{⊎_elim}
use Rattle.lists.specs.Below.{lowest, some}
use Rattle.lists.specs.Lists.{◌∈◌}
use Rattle.lists.proofs.SomeLaws.{is-lowest}
use Rattle.refusals.specs.Lines.{Refused, accepted, by_line, by_record, by_place}
use Rattle.refusals.specs.Lines.{Line, whole, record_of, place-of, refused_if, first_line}
use Rattle.refusals.specs.Exactly.{holds, NoneHolds, Exactly}

none : (n : ℕ) → NoneHolds n []
none n l m = absurd (Memᴰ.not-nil m)

one_more : (n : ℕ) (l : Line) (ls : List Line) → holds n l ≡ false → NoneHolds n ls → NoneHolds n (l ∷ ls)
one_more n l ls e h x m = ⊎_elim (λ (q : x ≡ l). ap (holds n) q ∙ e) (λ k. h x k) (Memᴰ.cases_cons m)

-- a line that doesn't hold, put before the others
later : (n : ℕ) (l : Line) (ls : List Line) → holds n l ≡ false → (r : Refused) → Exactly n ls r → Exactly n (l ∷ ls) r
later n l ls e accepted h = one_more n l ls e h
later n l ls e (by_line k) h = (l ∷ h.0, h.1, ap (λ (m : List Line). l ∷ m) h.2, one_more n l h.0 e h.3)
later n l ls e (by_record k i) h = (l ∷ h.0, h.1, h.2, ap (λ (m : List Line). l ∷ m) h.3, one_more n l h.0 e h.4, h.5)
later n l ls e (by_place k p) h = (l ∷ h.0, h.1, ap (λ (m : List Line). l ∷ m) h.2, one_more n l h.0 e h.3)

pub first-exactly : (n : ℕ) (ls : List Line) → Exactly n ls (first_line n ls)
unfolding first_line
first-exactly n [] = none n
first-exactly n (whole k b ∷ ls) = go b refl (first-exactly n ls)
  where
    go : (c : Bool) → b ≡ c → Exactly n ls (first_line n ls) → Exactly n (whole k b ∷ ls) (refused_if c (by_line k) (first_line n ls))
    go true e h = ([], ls, ap (λ (x : Bool). whole k x ∷ ls) e, none n)
    go false e h = later n (whole k b) ls e (first_line n ls) h
first-exactly n (record_of k f ∷ ls) = go (some n f) refl (first-exactly n ls)
  where
    go : (c : Bool) → some n f ≡ c → Exactly n ls (first_line n ls) →
        Exactly n (record_of k f ∷ ls) (refused_if c (by_record k (lowest n f)) (first_line n ls))
    go true e h = ([], ls, f, refl, none n, is-lowest n f e)
    go false e h = later n (record_of k f) ls e (first_line n ls) h
first-exactly n (place-of k p b ∷ ls) = go b refl (first-exactly n ls)
  where
    go : (c : Bool) → b ≡ c → Exactly n ls (first_line n ls) →
        Exactly n (place-of k p b ∷ ls) (refused_if c (by_place k p) (first_line n ls))
    go true e h = ([], ls, ap (λ (x : Bool). place-of k p x ∷ ls) e, none n)
    go false e h = later n (place-of k p b) ls e (first_line n ls) h
