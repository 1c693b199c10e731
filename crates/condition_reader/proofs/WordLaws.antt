-- The reader of fixed bytes, at a place of a text and of the bytes.
use Prim.Native.Nat.{ℕ, ◌+◌, ◌≤◌, ◌<◌}
use native.Mathlib.Omega.{arith}
use mathlib.Core.Path.{◌≡◌, refl, sym, ◌∙◌}
use mathlib.Core.Bool.{Bool, true, false, not}
use mathlib.Core.List.{List, []}
use lib.Dec.{eqb, ltb}
use lib.ListN.{length, get_or, drop}
use denote.Bor.{Bor}
use borrow.Author.Tests.{eq-eqb, ne_eqb, eqb-true, eqb-false, ltb-true, ltb-false}
use Rattle.std.specs.Prelude.{Option, Some, None}
use Rattle.std.specs.Option.{option_eq}
use Rattle.std.specs.Slice.{IsItemAt}
use Rattle.text_format.specs.Reading.{word, got, breach}
use Rattle.condition_reader.proofs.NumberLaws.{here, none}

module _ (s w : List ℕ) (k i : ℕ) where
  pub word-done : length w ≤ i → word (drop i w) (drop k s) ≡ got [] (drop k s)
  unfolding word
  word-done h = rw (none w i h)

  module _ (l : i < length w) where
    pub word_same : k < length s → get_or s k 0 ≡ get_or w i 0 → word (drop i w) (drop k s) ≡ word (drop (i + 1) w) (drop (k + 1) s)
    unfolding word
    word_same h e = rw (here w i l, here s k h, eq-eqb (get_or s k 0) (get_or w i 0) e)

    pub word-other : (k < length s → get_or s k 0 ≡ get_or w i 0 → ⊥) → word (drop i w) (drop k s) ≡ breach 19 (drop k s)
    unfolding word
    word-other d = go (ltb k (length s)) refl
      where
        go : (b : Bool) → ltb k (length s) ≡ b → word (drop i w) (drop k s) ≡ breach 19 (drop k s)
        go true q = let h = ltb-true k (length s) q in rw (here w i l, here s k h, ne_eqb _ _ (d h))
        go false q = rw (here w i l, none s k (ltb-false k (length s) q))

-- a byte that `get` gives, or none
module _ (s : List ℕ) (k : ℕ) (b : Bor ℕ) where
  pub get-same : (r : Option (Bor ℕ)) → IsItemAt s k r → option_eq (λ x y. eqb x.now y.now) r (Some b) ≡ true →
      (k < length s) × (get_or s k 0 ≡ b.now)
  get-same (Some a) g e = (g.3.0, sym (g.4 (omega arith) 0) ∙ eqb-true a.now b.now e)
  get-same None g e = cc

  pub get-other : (r : Option (Bor ℕ)) → IsItemAt s k r → option_eq (λ x y. eqb x.now y.now) r (Some b) ≡ false →
      k < length s → get_or s k 0 ≡ b.now → ⊥
  get-other (Some a) g e h q = eqb-false a.now b.now e (g.4 (omega arith) 0 ∙ q)
  get-other None g e h q = omega (arith, g.3)

pub not-so : (b : Bool) → not b ≡ true → b ≡ false
not-so true e = sym e
not-so false e = refl

pub not-other : (b : Bool) → not b ≡ false → b ≡ true
not-other true e = refl
not-other false e = sym e
