-- Masks of the numbers below n that pass: within another mask, meeting it, less it.
use Prim.Native.Nat.{ℕ, ◌<◌}
use native.Mathlib.Omega.{arith}
use native.Mathlib.Nat.{lt_of_le_of_lt}
use mathlib.Core.Path.{◌≡◌, sym, ap, ◌∙◌}
use mathlib.Core.Bool.{Bool, not, ◌&&◌, ◌||◌, and_assoc}
use lib.Bits.{bit_and, bit_xor, and_le_l}
use lib.Dec.{eqb, ltb}
use borrow.Author.Tests.{lt-ltb}
use Rattle.lists.specs.Below.{below, some, every}
use Rattle.lists.specs.Lists.{keep}
use Rattle.lists.proofs.SomeLaws.{some_same}
use Rattle.lists.proofs.TakeLaws.{kept-every}
use Rattle.masks.specs.Bit.{bit}
use Rattle.masks.specs.MaskOf.{mask_of}
use Rattle.masks.proofs.BitLaws.{bit-and}
use Rattle.masks.proofs.SubsetLaws.{none-set}
use Rattle.masks.proofs.PowerLaws.{bits-same}
use Rattle.masks.proofs.MaskOfLaws.{mask_below, mask-below-lt, mask-subset}
use Rattle.masks.proofs.SetLaws.{bit-without}

module _ (f : ℕ → Bool) (n : ℕ) where
  abbrev mask : ℕ
  mask = mask_of (keep f (below n))

  -- it is within another
  pub mask-within : (b : ℕ) → every n (λ a. not (f a) || bit b a) ≡ eqb (bit_and mask b) mask
  mask-within b = sym (mask-subset (keep f (below n)) b ∙ kept-every f n (bit b))

  -- the bit of a number below n
  pub mask_at : (k : ℕ) → k < n → bit mask k ≡ f k
  mask_at k l = mask_below f n k ∙ ap (λ (s : Bool). s && f k) (lt-ltb k n l)

  -- it isn't empty
  pub mask-some : some n f ≡ not (eqb mask 0)
  mask-some = some_same n f (bit mask) (λ a l. sym (mask_at a l)) ∙ none-set n mask (mask-below-lt f n n (omega arith))

  -- it meets another
  pub mask-meets : (b : ℕ) → some n (λ a. f a && bit b a) ≡ not (eqb (bit_and mask b) 0)
  mask-meets b =
      some_same n (λ a. f a && bit b a) (bit (bit_and mask b))
      (λ a l. sym (bit-and mask b a ∙ ap (λ (s : Bool). s && bit b a) (mask_at a l)))
      ∙ none-set n (bit_and mask b) (lt_of_le_of_lt (and_le_l mask b) (mask-below-lt f n n (omega arith)))

  -- what is left of it
  pub mask-less : (b : ℕ) → bit_xor mask (bit_and mask b) ≡ mask_of (keep (λ a. f a && not (bit b a)) (below n))
  mask-less b =
      bits-same _ _
      (λ k. bit-without mask b k ∙ ap (λ (s : Bool). s && not (bit b k)) (mask_below f n k)
      ∙ and_assoc (ltb k n) (f k) (not (bit b k)) ∙ sym (mask_below (λ a. f a && not (bit b a)) n k))
