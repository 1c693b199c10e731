-- Laws of the mask of the numbers below n that pass a test, and for a loop that gathers it.
use Prim.Native.Nat.{ℕ, ◌+◌, ◌^◌, ◌≤◌, ◌<◌}
use mathlib.Core.Path.{◌≡◌, refl, sym, ap, ap₂, subst, ◌∙◌}
use mathlib.Core.Bool.{Bool, true, false, cond, ◌&&◌, ◌||◌, and-true, and-false, or-false}
use native.Mathlib.Omega.{arith}
use lib.Dec.{eqb, ltb}
use lib.Bits.{bit_or, or_zero_r}
use borrow.Author.Tests.{ltb-true, lt-ltb, le-ltb, eqb-true, eqb-false}
use Rattle.lists.specs.Below.{up_from, below}
use Rattle.lists.specs.Lists.{keep}
use Rattle.lists.proofs.BoolLaws.{bool-ext}
use Rattle.masks.specs.Bit.{bit}
use Rattle.masks.specs.MaskOf.{mask_of}
use Rattle.masks.proofs.BitLaws.{bit-or, bit-zero, bit-pow}
use Rattle.masks.proofs.PowerLaws.{bits-same}
use Rattle.masks.proofs.MaskOfLaws.{mask_below}

-- one bit, if it passes
pub bit-if : (b : Bool) (k j : ℕ) → bit (cond b (2 ^ k) 0) j ≡ (b && eqb k j)
bit-if true k j = bit-pow k j
bit-if false k j = bit-zero j

-- the numbers below k + 1 that pass are those below k, and k if it does
one_more : (f : ℕ → Bool) (k j : ℕ) → (ltb j (k + 1) && f j) ≡ (ltb j k && f j || f k && eqb k j)
one_more f k j = go (eqb k j) refl
  where
    go : (b : Bool) → eqb k j ≡ b → (ltb j (k + 1) && f j) ≡ (ltb j k && f j || f k && b)
    go true e =
        let q : k ≡ j = eqb-true k j e in
        rw (lt-ltb j (k + 1) (omega arith), le-ltb j k (omega arith), q) (sym (and-true (f j)))
    go false e =
        let same : ltb j (k + 1) ≡ ltb j k =
        bool-ext (ltb j (k + 1)) (ltb j k)
        (λ h. lt-ltb j k (omega (arith, ltb-true j (k + 1) h, eqb-false k j e)))
        (λ h. lt-ltb j (k + 1) (omega (arith, ltb-true j k h))) in
        rw (same, and-false (f k)) (sym (or-false (ltb j k && f j)))

-- of the numbers below n those below k are tested: m is the mask of those that pass
abbrev pub Gathered : (ℕ → Bool) → ℕ → ℕ → ℕ → Type 0
Gathered f n k m = (k ≤ n) × (m ≡ mask_of (keep f (below k)))

-- nothing is tested yet
pub gather-start : (f : ℕ → Bool) (n : ℕ) → Gathered f n 0 0
unfolding mask_of up_from
gather-start f n = (omega arith, refl)

-- k is tested: v is its bit if it passes
pub gather-more : (f : ℕ → Bool) (n k m v : ℕ) → Gathered f n k m → k < n → v ≡ cond (f k) (2 ^ k) 0 → Gathered f n (k + 1) (bit_or m v)
gather-more f n k m v s l q = (
  omega arith,
  bits-same (bit_or m v) (mask_of (keep f (below (k + 1))))
      (λ j. bit-or m v j
      ∙ ap₂ (λ (a b : Bool). a || b) (ap (λ (x : ℕ). bit x j) s.1 ∙ mask_below f k j) (ap (λ (x : ℕ). bit x j) q ∙ bit-if (f k) k j)
      ∙ sym (one_more f k j) ∙ sym (mask_below f (k + 1) j)),
)

-- it doesn't pass
pub gather-skip : (f : ℕ → Bool) (n k m : ℕ) → Gathered f n k m → k < n → f k ≡ false → Gathered f n (k + 1) m
gather-skip f n k m s l h =
    subst (Gathered f n (k + 1)) (or_zero_r m) (gather-more f n k m 0 s l (sym (ap (λ (b : Bool). cond b (2 ^ k) 0) h)))

-- all are tested
pub gather-end : (f : ℕ → Bool) (n k m : ℕ) → Gathered f n k m → n ≤ k → m ≡ mask_of (keep f (below n))
gather-end f n k m s l = let e : k ≡ n = omega arith in s.1 ∙ ap (λ (j : ℕ). mask_of (keep f (below j))) e

-- none passes: no bit is set
pub mask-none : (f : ℕ → Bool) (n : ℕ) → ((k : ℕ) → f k ≡ false) → mask_of (keep f (below n)) ≡ 0
mask-none f n h =
    bits-same (mask_of (keep f (below n))) 0
    (λ k. mask_below f n k ∙ ap (λ (b : Bool). ltb k n && b) (h k) ∙ and-false (ltb k n) ∙ sym (bit-zero k))

-- k passes: its bit is set
pub mask-with : (f : ℕ → Bool) (k : ℕ) → f k ≡ true → bit_or (mask_of (keep f (below k))) (2 ^ k) ≡ mask_of (keep f (below (k + 1)))
mask-with f k h =
    (gather-more f (k + 1) k (mask_of (keep f (below k))) (2 ^ k) (omega arith, refl) (omega arith)
    (sym (ap (λ (b : Bool). cond b (2 ^ k) 0) h))).1

-- it doesn't: nothing changes
pub mask-without : (f : ℕ → Bool) (k : ℕ) → f k ≡ false → mask_of (keep f (below k)) ≡ mask_of (keep f (below (k + 1)))
mask-without f k h = (gather-skip f (k + 1) k (mask_of (keep f (below k))) (omega arith, refl) (omega arith) h).1
