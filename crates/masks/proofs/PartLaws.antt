-- Laws of a mask's bits from one on, and of those below it.
use Prim.Native.Nat.{ℕ, suc, ◌^◌, ◌<◌}
use native.Mathlib.Omega.{arith}
use mathlib.Core.Path.{◌≡◌, refl, sym, ap, ap₂, ◌∙◌}
use mathlib.Core.Bool.{Bool, true, false, not, ◌&&◌, ◌||◌, xor, and-true, and-false, or-false}
use lib.Bits.{bit_and, bit_or}
use lib.Count.{count_trailing_zeros}
use lib.Dec.{eqb, ltb, leb}
use borrow.Author.Tests.{lt-ltb, le-ltb, ltb-true, ltb-false, eqb-true, eqb-false, le-leb, lt-leb}
use Rattle.lists.proofs.BoolLaws.{bool-ext}
use Rattle.masks.specs.Bit.{bit}
use Rattle.masks.specs.Parts.{from, under}
use Rattle.masks.proofs.BitLaws.{bit-and, bit-or, bit-xor, bit-pow}
use Rattle.masks.proofs.PowerLaws.{bits-same, bit_high, trailing-lowest}

-- k is below n or not
pub below_or : (n k : ℕ) → not (leb n k) ≡ ltb k n
below_or n k = go (ltb k n) refl
  where
    go : (b : Bool) → ltb k n ≡ b → not (leb n k) ≡ b
    go true h = ap not (lt-leb n k (ltb-true k n h))
    go false h = ap not (le-leb n k (ltb-false k n h))

xor-not : (s b : Bool) → xor s (b && s) ≡ (not b && s)
unfolding xor
xor-not true true = refl
xor-not true false = refl
xor-not false true = refl
xor-not false false = refl

pub bit-under : (n m k : ℕ) → bit (under n m) k ≡ (ltb k n && bit m k)
bit-under n m k =
    bit-xor m (from n m) k ∙ ap (xor (bit m k)) (bit_high m n k) ∙ xor-not (bit m k) (leb n k)
    ∙ ap (λ (b : Bool). b && bit m k) (below_or n k)

-- a mask's bits up to bit s
pub up_to : (s m : ℕ) → bit_or (under s m) (bit_and m (2 ^ s)) ≡ under (suc s) m
up_to s m = bits-same _ _ (λ k.
    bit-or (under s m) (bit_and m (2 ^ s)) k
    ∙ ap₂ (λ (x y : Bool). x || y) (bit-under s m k) (bit-and m (2 ^ s) k ∙ ap (λ (x : Bool). bit m k && x) (bit-pow s k))
    ∙ go k (eqb s k) refl ∙ sym (bit-under (suc s) m k))
  where
    go : (k : ℕ) (b : Bool) → eqb s k ≡ b → (ltb k s && bit m k || bit m k && b) ≡ (ltb k (suc s) && bit m k)
    go k true q =
        let e : s ≡ k = eqb-true s k q in
        rw (le-ltb k s (omega arith), lt-ltb k (suc s) (omega arith)) (and-true (bit m k))
    go k false q =
        rw (and-false (bit m k), or-false (ltb k s && bit m k)) (ap (λ (x : Bool). x && bit m k)
        (bool-ext (ltb k s) (ltb k (suc s)) (λ h. lt-ltb k (suc s) (omega (arith, ltb-true k s h)))
        (λ h. lt-ltb k s (omega (arith, ltb-true k (suc s) h, eqb-false s k q)))))

-- the lowest bit of a mask of 32
pub lowest-room : (m : ℕ) → (m ≡ 0 → ⊥) → m < 2 ^ 32 → count_trailing_zeros 32 m < 32
lowest-room m z l = (trailing-lowest 32 m (omega (arith, z)) l).0
