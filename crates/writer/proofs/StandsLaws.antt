-- Bytes that stand in a block at a place.
use Prim.Native.Nat.{ℕ, zero, suc, ◌+◌, ◌*◌, ◌-◌, ◌<◌}
use mathlib.Core.Path.{◌≡◌, refl, sym, ap, ◌∙◌}
use mathlib.Core.Bool.{Bool, true, false, not}
use mathlib.Core.List.{List, [], ◌∷◌, ◌++◌}
use mathlib.Core.Logic.{⊎_elim}
use native.Mathlib.Nat.{zero-add, add-zero, le_of_suc-le-suc, eq-or-lt_of_le}
use native.Mathlib.Omega.{arith}
use lib.Dec.{ltb}
use lib.ListN.{length, length-append, get_or-replicate, length-replicate, get_or-append}
use lib.Seq.{get_or-append-add, ext_get_or}
use borrow.Author.Tests.{ltb-true, ltb-false, eqb-true, eq-eqb, not-false}
use Rattle.lists.proofs.SomeLaws.{some-none, none-at}
use Rattle.decode.specs.Layout.{byte_at}
use Rattle.zero_bytes.specs.ZeroBytes.{not_zero, some_not_zero}
use Rattle.encode.specs.Encoded.{zeros, joined}
use Rattle.encode.proofs.PutLaws.{length-joined}

-- the bytes of s from `at` on are those of l
abbrev pub Stands : List ℕ → ℕ → List ℕ → Type 0
Stands s at l = (i : ℕ) → i < length l → byte_at s (at + i) ≡ byte_at l i

-- a list stands in itself
pub stands_self : (s : List ℕ) → Stands s 0 s
stands_self s i h = ap (byte_at s) (zero-add i)

-- a list that stands in one of its length is that list
pub stands-all : (s l : List ℕ) → length s ≡ length l → Stands s 0 l → s ≡ l
stands-all s l e h = ext_get_or 0 s l e (λ i k. ap (byte_at s) (sym (zero-add i)) ∙ h i (omega (arith, e)))

-- the first part of what stands
pub stands-left : (s a b : List ℕ) (at : ℕ) → Stands s at (a ++ b) → Stands s at a
stands-left s a b at h i k = h i (omega (arith, length-append a b)) ∙ get_or-append a b 0 i k

-- the second part stands behind it
pub stands-right : (s a b : List ℕ) (at n : ℕ) → n ≡ at + length a → Stands s at (a ++ b) → Stands s n b
stands-right s a b at n e h i k =
    let q : n + i ≡ at + (length a + i) = omega arith in
    ap (byte_at s) q ∙ h (length a + i) (omega (arith, length-append a b)) ∙ get_or-append-add a b i 0

-- both parts
pub stands-both : (s a b : List ℕ) (at n : ℕ) → n ≡ at + length a → Stands s at a → Stands s n b → Stands s at (a ++ b)
stands-both s a b at n e h g i k = go (ltb i (length a)) refl
  where
    go : (c : Bool) → ltb i (length a) ≡ c → byte_at s (at + i) ≡ byte_at (a ++ b) i
    go true l = let m = ltb-true i (length a) l in h i m ∙ sym (get_or-append a b 0 i m)
    go false l =
        let m = ltb-false i (length a) l in
        let p : at + i ≡ n + (i - length a) = omega (arith, m) in
        let q : i ≡ length a + (i - length a) = omega (arith, m) in
        ap (byte_at s) p
        ∙ g (i - length a) (omega (arith, m, k, length-append a b))
        ∙ sym (get_or-append-add a b (i - length a) 0)
        ∙ ap (byte_at (a ++ b)) (sym q)

module _ (s : List ℕ) (at w : ℕ) (f : ℕ → List ℕ) (long : (k : ℕ) → length (f k) ≡ w) where
  -- each of some lists of one length that stand one behind the other
  pub stands-each : (n k : ℕ) → k < n → Stands s at (joined n f) → Stands s (at + w * k) (f k)
  unfolding joined
  stands-each zero k l h = absurd (omega arith)
  stands-each (suc n) k l h =
      ⊎_elim
      (λ (e : k ≡ n).
      rw e
      (stands-right s (joined n f) (f n) at (at + w * n) (ap (λ (m : ℕ). at + m) (sym (length-joined w n f long))) h))
      (λ m. stands-each n k m (stands-left s (joined n f) (f n) at h))
      (eq-or-lt_of_le (le_of_suc-le-suc l))

  -- all of them
  pub stands-joined : (n : ℕ) → ((k : ℕ) → k < n → Stands s (at + w * k) (f k)) → Stands s at (joined n f)
  unfolding joined
  stands-joined zero h = λ i k. absurd (omega arith)
  stands-joined (suc n) h =
      stands-both s (joined n f) (f n) at (at + w * n) (ap (λ (m : ℕ). at + m) (sym (length-joined w n f long)))
      (stands-joined n (λ k l. h k (omega arith))) (h n (omega arith))

-- zeros stand where no byte isn't zero
pub stands-zeros : (s : List ℕ) (at n : ℕ) → some_not_zero s at n ≡ false → Stands s at (zeros n)
unfolding not_zero
stands-zeros s at n h i k =
    let l : i < n = omega (arith, length-replicate {A = ℕ} n 0) in
    eqb-true _ _ (not-false _ (none-at n (not_zero s at) i h l)) ∙ sym (get_or-replicate n i 0 0 l)

-- no byte isn't zero where zeros stand
pub zeros-stand : (s : List ℕ) (at n : ℕ) → Stands s at (zeros n) → some_not_zero s at n ≡ false
unfolding not_zero
zeros-stand s at n h =
    some-none n (not_zero s at)
    (λ i l. ap not (eq-eqb _ _ (h i (omega (arith, length-replicate {A = ℕ} n 0)) ∙ get_or-replicate n i 0 0 l)))

-- the bytes of s from at + k on, one equation each
abbrev pub Entries : List ℕ → ℕ → ℕ → List ℕ → Type 0
Entries s at k [] = Unit {0}
Entries s at k (b ∷ l) = (byte_at s (at + k) ≡ b) × Entries s at (suc k) l

entries_at : (s : List ℕ) (at k : ℕ) (l : List ℕ) → Entries s at k l → (i : ℕ) → i < length l → byte_at s (at + (k + i)) ≡ byte_at l i
entries_at s at k [] h i m = absurd (omega arith)
entries_at s at k (b ∷ l) h zero m = ap (λ (j : ℕ). byte_at s (at + j)) (add-zero k) ∙ h.0
entries_at s at k (b ∷ l) h (suc i) m =
    let e : k + suc i ≡ suc k + i = omega arith in
    ap (λ (j : ℕ). byte_at s (at + j)) e ∙ entries_at s at (suc k) l h.1 i (le_of_suc-le-suc m)

-- a list stands where each of its bytes does
pub entries-stand : (s : List ℕ) (at : ℕ) (l : List ℕ) → Entries s at 0 l → Stands s at l
entries-stand s at l h i m = ap (λ (j : ℕ). byte_at s (at + j)) (sym (zero-add i)) ∙ entries_at s at 0 l h i m
