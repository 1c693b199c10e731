-- Laws of the union of masks.
use Prim.Native.Nat.{ℕ, ◌^◌}
use mathlib.Core.Path.{◌≡◌, sym, ap, ◌∙◌}
use mathlib.Core.Bool.{Bool, ◌||◌, or_assoc}
use mathlib.Core.List.{List, [], ◌∷◌, ◌++◌}
use lib.Bits.{bit_or, or_comm, or_zero_l}
use Rattle.masks.specs.Bit.{bit}
use Rattle.masks.specs.MaskOf.{mask_of}
use Rattle.masks.proofs.BitLaws.{bit-or}
use Rattle.masks.proofs.PowerLaws.{bits-same}

-- the union of three masks, bracketed either way
pub union_assoc : (a b c : ℕ) → bit_or (bit_or a b) c ≡ bit_or a (bit_or b c)
union_assoc a b c =
    bits-same (bit_or (bit_or a b) c) (bit_or a (bit_or b c))
    (λ k. bit-or (bit_or a b) c k ∙ ap (λ (t : Bool). t || bit c k) (bit-or a b k)
    ∙ or_assoc (bit a k) (bit b k) (bit c k)
    ∙ ap (λ (t : Bool). bit a k || t) (sym (bit-or b c k)) ∙ sym (bit-or a (bit_or b c) k))

-- the mask of two lists joined is the union of their masks
pub mask_append : (p q : List ℕ) → mask_of (p ++ q) ≡ bit_or (mask_of p) (mask_of q)
unfolding mask_of
mask_append [] q = sym (or_zero_l (mask_of q))
mask_append (e ∷ p) q =
    ap (λ (m : ℕ). bit_or m (2 ^ e)) (mask_append p q) ∙ union_assoc (mask_of p) (mask_of q) (2 ^ e)
    ∙ ap (bit_or (mask_of p)) (or_comm (mask_of q) (2 ^ e)) ∙ sym (union_assoc (mask_of p) (2 ^ e) (mask_of q))
