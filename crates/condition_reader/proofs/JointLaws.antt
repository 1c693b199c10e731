-- The reader of a connective, from the readers of its bytes.
use Prim.Native.Nat.{ℕ, ◌<◌}
use mathlib.Core.Path.{◌≡◌, refl}
use mathlib.Core.Bool.{Bool, true, false}
use mathlib.Core.List.{List, [], ◌∷◌}
use lib.ListN.{length, get_or, drop}
use lib.Dec.{eqb, ltb}
use borrow.Author.Tests.{eq-eqb, ne_eqb, ltb-true, ltb-false}
use Rattle.text_format.specs.Bytes.{space, letter_o, and_word, or_word}
use Rattle.text_format.specs.Reading.{word, joint, got, breach}
use Rattle.condition_reader.proofs.NumberLaws.{here, none}

-- whether the next byte is an `o`
module _ (s : List ℕ) (k : ℕ) where
  pub next-o : k < length s → get_or s k 0 ≡ letter_o → eqb (get_or (drop k s) 0 0) letter_o ≡ true
  next-o h e = rw (here s k h) (eq-eqb (get_or s k 0) letter_o e)

  pub next-other : (k < length s → get_or s k 0 ≡ letter_o → ⊥) → eqb (get_or (drop k s) 0 0) letter_o ≡ false
  next-other d = go (ltb k (length s)) refl
    where
      go : (b : Bool) → ltb k (length s) ≡ b → eqb (get_or (drop k s) 0 0) letter_o ≡ false
      go true q = let h = ltb-true k (length s) q in rw (here s k h) (ne_eqb (get_or s k 0) letter_o (d h))
      go false q = rw (none s k (ltb-false k (length s) q)) refl

module _ (s r : List ℕ) where
  pub joint-space : (n : ℕ) → word (space ∷ []) s ≡ breach n r → joint s ≡ breach n r
  unfolding joint
  joint-space n e = rw e

  module _ (e : word (space ∷ []) s ≡ got [] r) (t : List ℕ) where
    module _ (o : eqb (get_or r 0 0) letter_o ≡ true) where
      pub joint-or : word or_word r ≡ got [] t → joint s ≡ got false t
      unfolding joint
      joint-or f = rw (e, o, f)

      pub joint-not-or : (n : ℕ) → word or_word r ≡ breach n t → joint s ≡ breach n t
      unfolding joint
      joint-not-or n f = rw (e, o, f)

    module _ (o : eqb (get_or r 0 0) letter_o ≡ false) where
      pub joint-and : word and_word r ≡ got [] t → joint s ≡ got true t
      unfolding joint
      joint-and f = rw (e, o, f)

      pub joint-not-and : (n : ℕ) → word and_word r ≡ breach n t → joint s ≡ breach n t
      unfolding joint
      joint-not-and n f = rw (e, o, f)
