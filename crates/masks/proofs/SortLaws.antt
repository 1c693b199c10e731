-- Laws for a loop that sorts numbers into n masks: number w, if it passes p, goes to mask g w, if there is one.
use Prim.Native.Nat.{ℕ, ◌+◌, ◌^◌, ◌≤◌, ◌<◌}
use mathlib.Core.Path.{◌≡◌, refl, sym, ap, ap₂, ◌∙◌}
use mathlib.Core.Bool.{Bool, true, false, ◌&&◌, and-false}
use mathlib.Core.List.{List}
use native.Mathlib.Omega.{arith}
use lib.Dec.{eqb, ltb}
use lib.ListN.{get_or, set, replicate}
use lib.Bits.{bit_or}
use borrow.Author.Tests.{ltb-true, lt-ltb, eqb-true, eq-eqb}
use Rattle.lists.specs.Below.{up_from, below}
use Rattle.lists.specs.Lists.{keep}
use Rattle.lists.specs.Filled.{up_to}
use Rattle.lists.proofs.BoolLaws.{and_l, and_r}
use Rattle.lists.proofs.FilledLaws.{get_or-up_to}
use Rattle.lists.proofs.PaddedLaws.{zeros-same, up_to-as, up_to-set}
use Rattle.masks.specs.MaskOf.{mask_of}
use Rattle.masks.proofs.GatherLaws.{mask-with, mask-without}

module _ (p : ℕ → Bool) (g : ℕ → ℕ) (n m : ℕ) where
  -- number w goes to mask x
  abbrev pub goes : ℕ → ℕ → Bool
  goes x w = p w && eqb (g w) x

  -- mask x, once the numbers below w are sorted
  abbrev pub mask_at : ℕ → ℕ → ℕ
  mask_at w x = mask_of (keep (goes x) (below w))

  -- of the numbers below m those below w are sorted
  abbrev pub Sorted : ℕ → List ℕ → Type 0
  Sorted w l = (w ≤ m) × (l ≡ up_to n (mask_at w))

  -- none is yet
  pub sort-start : Sorted 0 (replicate n 0)
  unfolding mask_of up_from
  sort-start = (omega arith, zeros-same n (mask_at 0) (λ x i. refl))

  module _ (w : ℕ) (l : List ℕ) (s : Sorted w l) (h : w < m) where
    -- w goes to a mask
    pub sort-one : (b : ℕ) → (p w && ltb (g w) n) ≡ true → b ≡ 2 ^ w → Sorted (w + 1) (set l (g w) (bit_or (get_or l (g w) 0) b))
    sort-one b t q = (
      omega arith,
      up_to-set n (mask_at w) (mask_at (w + 1)) l (g w) (bit_or (get_or l (g w) 0) b) s.1 room
          (ap₂ bit_or (ap (λ (k : List ℕ). get_or k (g w) 0) s.1 ∙ get_or-up_to n (mask_at w) (g w) 0 room) q
          ∙ mask-with (goes (g w)) w (rw (eq-eqb (g w) (g w) refl, and_l (p w) (ltb (g w) n) t)))
          (λ x i z. mask-without (goes x) w (rw z (and-false (p w)))),
    )
      where
        room : g w < n
        room = ltb-true (g w) n (and_r (p w) (ltb (g w) n) t)

    -- it goes to none
    pub sort-none : (p w && ltb (g w) n) ≡ false → Sorted (w + 1) l
    sort-none t = (
      omega arith,
      up_to-as n (mask_at w) (mask_at (w + 1)) l s.1 (λ x i. mask-without (goes x) w (away x i (eqb (g w) x) refl)),
    )
      where
        away : (x : ℕ) → x < n → (b : Bool) → eqb (g w) x ≡ b → (p w && b) ≡ false
        away x i true z =
            sym (ap (λ (b : Bool). p w && b) (lt-ltb (g w) n (omega (arith, eqb-true (g w) x z)))) ∙ t
        away x i false z = and-false (p w)

  -- all are
  pub sort-end : (w : ℕ) (l : List ℕ) → Sorted w l → m ≤ w → l ≡ up_to n (mask_at m)
  sort-end w l s h = let e : w ≡ m = omega arith in s.1 ∙ ap (λ (k : ℕ). up_to n (mask_at k)) e
