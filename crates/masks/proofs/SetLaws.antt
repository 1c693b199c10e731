-- Laws of sets of the numbers below n, as masks: what the operations on masks make of the tests that the numbers pass.
use Prim.Native.Nat.{ℕ, ◌<◌}
use mathlib.Core.Path.{◌≡◌, refl, sym, ap, ap₂, ◌∙◌}
use mathlib.Core.Bool.{Bool, true, false, cond, ◌&&◌, ◌||◌, not, xor, and_assoc, and-or_distrib_left}
use lib.Dec.{ltb}
use lib.Bits.{bit_and, bit_or, bit_xor}
use borrow.Author.Tests.{ltb-true, lt-ltb}
use Rattle.lists.specs.Below.{below}
use Rattle.lists.specs.Lists.{keep}
use Rattle.masks.specs.Bit.{bit}
use Rattle.masks.specs.MaskOf.{mask_of}
use Rattle.masks.proofs.BitLaws.{bit-and, bit-or, bit-xor, bit-zero}
use Rattle.masks.proofs.PowerLaws.{bits-same}
use Rattle.masks.proofs.MaskOfLaws.{mask_below}
use Rattle.masks.proofs.GatherLaws.{mask-none}

-- a bit of a mask that is taken if a test passes
pub bit-taken : (b : Bool) (m k : ℕ) → bit (cond b m 0) k ≡ (b && bit m k)
bit-taken true m k = refl
bit-taken false m k = bit-zero k

-- a bit of what is left of a mask without those of another
pub bit-without : (a b k : ℕ) → bit (bit_xor a (bit_and a b)) k ≡ (bit a k && not (bit b k))
unfolding xor
bit-without a b k = bit-xor a (bit_and a b) k ∙ ap (xor (bit a k)) (bit-and a b k) ∙ rest (bit a k) (bit b k)
  where
    rest : (s t : Bool) → xor s (s && t) ≡ (s && not t)
    rest true true = refl
    rest true false = refl
    rest false t = refl

-- below n the mask has those that pass; what it has past n is left open
pub record Marks (n m : ℕ) (f : ℕ → Bool) : Type 0 where
  pub each : (k : ℕ) → k < n → bit m k ≡ f k

module _ {n : ℕ} where
  -- any mask has those that it has
  pub marks-own : (m : ℕ) → Marks n m (bit m)
  marks-own m = record { each = λ k l. refl }

  -- so has what is the mask
  pub marks-as : {a b : ℕ} {f : ℕ → Bool} → a ≡ b → Marks n b f → Marks n a f
  marks-as e p = record { each = λ k l. ap (λ (m : ℕ). bit m k) e ∙ p.each k l }

  -- the union of two masks
  pub marks-or : {a b : ℕ} {f g : ℕ → Bool} → Marks n a f → Marks n b g → Marks n (bit_or a b) (λ k. f k || g k)
  marks-or {a} {b} p q = record { each = λ k l. bit-or a b k ∙ ap₂ (λ (x y : Bool). x || y) (p.each k l) (q.each k l) }

  -- a mask that is taken if a test passes
  pub marks-if : (b : Bool) {m : ℕ} {f : ℕ → Bool} → Marks n m f → Marks n (cond b m 0) (λ k. b && f k)
  marks-if b {m} p = record { each = λ k l. bit-taken b m k ∙ ap (λ (x : Bool). b && x) (p.each k l) }

module _ (n : ℕ) where
  -- the set of the numbers below n that pass
  abbrev set : (ℕ → Bool) → ℕ
  set f = mask_of (keep f (below n))

  -- it has those that pass
  pub marks-set : (f : ℕ → Bool) → Marks n (set f) f
  marks-set f = record { each = λ k l. mask_below f n k ∙ ap (λ (b : Bool). b && f k) (lt-ltb k n l) }

  -- a mask with these bits is the set
  pub set_is : (m : ℕ) (f : ℕ → Bool) → ((k : ℕ) → bit m k ≡ (ltb k n && f k)) → m ≡ set f
  set_is m f h = bits-same m (set f) (λ k. h k ∙ sym (mask_below f n k))

  -- tests that agree below n have one set
  pub set_same : (f g : ℕ → Bool) → ((k : ℕ) → k < n → f k ≡ g k) → set f ≡ set g
  set_same f g h = set_is (set f) g (λ k. mask_below f n k ∙ go k (ltb k n) refl)
    where
      go : (k : ℕ) (b : Bool) → ltb k n ≡ b → (b && f k) ≡ (b && g k)
      go k true e = h k (ltb-true k n e)
      go k false e = refl

  -- the numbers of a set that a mask has
  pub set-within : (f : ℕ → Bool) {m : ℕ} {g : ℕ → Bool} → Marks n m g → bit_and (set f) m ≡ set (λ k. f k && g k)
  set-within f {m} {g} p =
      set_is (bit_and (set f) m) (λ k. f k && bit m k)
      (λ k. bit-and (set f) m k ∙ ap (λ (a : Bool). a && bit m k) (mask_below f n k) ∙ and_assoc (ltb k n) (f k) (bit m k))
      ∙ set_same (λ k. f k && bit m k) (λ k. f k && g k) (λ k l. ap (λ (b : Bool). f k && b) (p.each k l))

  -- the union of two sets
  pub set-or : (f g : ℕ → Bool) → bit_or (set f) (set g) ≡ set (λ k. f k || g k)
  set-or f g =
      set_is (bit_or (set f) (set g)) (λ k. f k || g k)
      (λ k. bit-or (set f) (set g) k ∙ ap₂ (λ (a b : Bool). a || b) (mask_below f n k) (mask_below g n k)
      ∙ sym (and-or_distrib_left (ltb k n) (f k) (g k)))

  -- the set, if a test passes
  pub set_if : (b : Bool) (f : ℕ → Bool) → cond b (set f) 0 ≡ set (λ k. b && f k)
  set_if true f = refl
  set_if false f = sym (mask-none (λ k. false) n (λ k. refl))
