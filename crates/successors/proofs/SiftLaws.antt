-- Laws for a loop that takes the bits of a mask one after the other and gathers those that pass a test.
use Prim.Native.Nat.{ℕ, ◌^◌, ◌<◌}
use native.Mathlib.Omega.{arith}
use mathlib.Core.Path.{◌≡◌, refl, sym, ap, ap₂, ◌∙◌}
use mathlib.Core.Bool.{Bool, true, false, ◌&&◌, ◌||◌, xor, or-false, or-true, and-false}
use lib.Dec.{eqb}
use lib.Bits.{bit_or, bit_xor}
use borrow.Author.Tests.{eqb-true}
use Rattle.masks.specs.Bit.{bit}
use Rattle.masks.specs.Ones.{Taken}
use Rattle.successors.specs.CleanMasks.{slots}
use Rattle.lists.proofs.BoolLaws.{xor-false}
use Rattle.masks.proofs.BitLaws.{bit-or, bit-xor, bit-zero, bit-pow}
use Rattle.masks.proofs.PowerLaws.{xor-pow, trailing-lowest}

-- a bit that is set, by the power that the code has
pub bit-with : (m j b k : ℕ) → b ≡ 2 ^ j → bit (bit_or m b) k ≡ (bit m k || eqb j k)
bit-with m j b k e = bit-or m b k ∙ ap (λ (t : Bool). bit m k || t) (ap (λ (x : ℕ). bit x k) e ∙ bit-pow j k)

-- and one that is flipped
pub bit-flipped : (m j b k : ℕ) → b ≡ 2 ^ j → bit (bit_xor m b) k ≡ xor (bit m k) (eqb j k)
bit-flipped m j b k e = bit-xor m b k ∙ ap (xor (bit m k)) (ap (λ (x : ℕ). bit x k) e ∙ bit-pow j k)

-- found has the bits of all that pass f, but for those left
pub record Sifted (f : ℕ → Bool) (all left found : ℕ) : Type 0 where
  pub fits : left < 2 ^ slots
  pub passed : (k : ℕ) → (bit found k || (bit left k && f k)) ≡ (bit all k && f k)

-- at the start all are left
pub sift-start : (f : ℕ → Bool) {all : ℕ} → all < 2 ^ slots → Sifted f all all 0
sift-start f {all} h = record { fits = h; passed = λ k. ap (λ (t : Bool). t || (bit all k && f k)) (bit-zero k) }

module _ {f : ℕ → Bool} {all left found : ℕ} (sifted : Sifted f all left found) where
  -- at the end none is
  pub sift-end : left ≡ 0 → (k : ℕ) → bit found k ≡ (bit all k && f k)
  sift-end e k =
      sym (or-false (bit found k)) ∙ ap (λ (t : Bool). bit found k || (t && f k)) (sym (ap (λ (m : ℕ). bit m k) e ∙ bit-zero k))
      ∙ sifted.passed k

  -- The lowest bit that is left is taken.
  module _ {j after : ℕ} (taken : Taken left j after) where
    pub taken-set : bit left j ≡ true
    taken-set = rw taken.lowest (trailing-lowest slots left taken.some sifted.fits).1

    bit-rest : (k : ℕ) → bit after k ≡ xor (bit left k) (eqb j k)
    bit-rest k = ap (λ (m : ℕ). bit m k) taken.rest ∙ bit-flipped left j (2 ^ j) k refl

    sift-fits : after < 2 ^ slots
    sift-fits = rw taken.rest (omega (arith, sifted.fits, xor-pow left j taken-set))

    -- it passes
    pub sift-take : {b : ℕ} → b ≡ 2 ^ j → f j ≡ true → Sifted f all after (bit_or found b)
    sift-take {b} power p = record {
      fits = sift-fits;
      passed = λ k.
          ap₂ (λ (x y : Bool). x || (y && f k)) (bit-with found j b k power) (bit-rest k) ∙ go k (eqb j k) refl;
    }
      where
        go : (k : ℕ) (t : Bool) → eqb j k ≡ t → ((bit found k || t) || (xor (bit left k) t && f k)) ≡ (bit all k && f k)
        go k true q =
            let i = eqb-true j k q in
            ap (λ (x : Bool). x || (xor (bit left k) true && f k)) (or-true (bit found k))
            ∙ sym (or-true (bit found k))
            ∙ ap₂ (λ (x y : Bool). bit found k || (x && y)) (sym taken-set ∙ ap (bit left) i) (sym p ∙ ap f i)
            ∙ sifted.passed k
        go k false q = ap₂ (λ (x y : Bool). x || (y && f k)) (or-false (bit found k)) (xor-false (bit left k)) ∙ sifted.passed k

    -- it fails
    pub sift-skip : f j ≡ false → Sifted f all after found
    sift-skip p = record {
      fits = sift-fits;
      passed = λ k. ap (λ (y : Bool). bit found k || (y && f k)) (bit-rest k) ∙ go k (eqb j k) refl;
    }
      where
        none : (k : ℕ) (x : Bool) → j ≡ k → (x && f k) ≡ false
        none k x i = ap (λ (y : Bool). x && y) (sym (ap f i) ∙ p) ∙ and-false x

        go : (k : ℕ) (t : Bool) → eqb j k ≡ t → (bit found k || (xor (bit left k) t && f k)) ≡ (bit all k && f k)
        go k true q =
            let i = eqb-true j k q in
            ap (λ (y : Bool). bit found k || y) (none k (xor (bit left k) true) i ∙ sym (none k (bit left k) i)) ∙ sifted.passed k
        go k false q = ap (λ (y : Bool). bit found k || (y && f k)) (xor-false (bit left k)) ∙ sifted.passed k
