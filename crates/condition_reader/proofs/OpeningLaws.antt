-- A condition by what it begins with.
use Prim.Native.Nat.{ℕ, zero, suc, ◌<◌, ◌-◌}
use native.Mathlib.Omega.{arith}
use mathlib.Core.Path.{◌≡◌, refl, sym, ap, ◌∙◌}
use mathlib.Core.Bool.{true, Bool, false, cond}
use mathlib.Core.List.{List, [], ◌∷◌}
use lib.ListN.{length, drop}
use lib.Dec.{eqb, ltb}
use borrow.Author.Tests.{ltb-true, ltb-false}
use Rattle.text_format.specs.Bytes.{letter_r, letter_x, letter_n, open_bracket}
use Rattle.text_format.specs.Condition.{Condition, returns, ends}
use Rattle.text_format.specs.Reading.{Read, atom, opening, negation, bracket, condition, breach}
use Rattle.condition_reader.specs.Steps.{opening_of, lettered}
use Rattle.condition_reader.proofs.NumberLaws.{none}
use Rattle.condition_reader.specs.declared.Opening.{Opening}
use Rattle.condition_reader.specs.declared.Opening.TheVariants.{Returns, Ends, Not, Bracket, Other}

-- the reader of each beginning
abbrev by_opening : Opening → (onNot onBracket : List ℕ → Read Condition) → List ℕ → Read Condition
by_opening Returns onNot onBracket r = lettered true r
by_opening Ends onNot onBracket r = lettered false r
by_opening Not onNot onBracket r = onNot r
by_opening Bracket onNot onBracket r = onBracket r
by_opening Other onNot onBracket r = breach 19 r

opening-is : (onNot onBracket : List ℕ → Read Condition) (r : List ℕ) → opening onNot onBracket r ≡ by_opening (opening_of r) onNot onBracket r
unfolding opening lettered
opening-is onNot onBracket [] = refl
opening-is onNot onBracket (b ∷ r) = go (eqb b letter_r) (eqb b letter_x) (eqb b letter_n) (eqb b open_bracket)
  where
    go : (p q m k : Bool) →
        cond p (atom returns r) (cond q (atom ends r) (cond m (onNot (b ∷ r)) (cond k (onBracket (b ∷ r)) (breach 19 (b ∷ r)))))
        ≡ by_opening (cond p Returns (cond q Ends
        (cond m Not (cond k Bracket Other)))) onNot onBracket (b ∷ r)
    go true q m k = refl
    go false true m k = refl
    go false false true k = refl
    go false false false true = refl
    go false false false false = refl

module _ (r : List ℕ) (o : Opening) (e : o ≡ opening_of r) where
  at_zero : condition 0 r ≡ by_opening o (breach 20) (breach 20) r
  unfolding condition
  at_zero = opening-is (breach 20) (breach 20) r ∙ ap (λ (p : Opening). by_opening p (breach 20) (breach 20) r) (sym e)

  at_suc : (d : ℕ) → condition (suc d) r ≡ by_opening o (negation (condition d)) (bracket (condition d)) r
  unfolding condition
  at_suc d =
      opening-is (negation (condition d)) (bracket (condition d)) r
      ∙ ap (λ (p : Opening). by_opening p (negation (condition d)) (bracket (condition d)) r) (sym e)

-- the atoms and the other bytes are read alike at every depth
module _ (r : List ℕ) where
  pub begins-other : (d : ℕ) → Other ≡ opening_of r → condition d r ≡ breach 19 r
  begins-other zero e = at_zero r Other e
  begins-other (suc d) e = at_suc r Other e d

  pub begins-returns : (d : ℕ) → Returns ≡ opening_of r → condition d r ≡ lettered true r
  begins-returns zero e = at_zero r Returns e
  begins-returns (suc d) e = at_suc r Returns e d

  pub begins-ends : (d : ℕ) → Ends ≡ opening_of r → condition d r ≡ lettered false r
  begins-ends zero e = at_zero r Ends e
  begins-ends (suc d) e = at_suc r Ends e d

  pub deep-not : (d : ℕ) → d ≡ 0 → Not ≡ opening_of r → condition d r ≡ breach 20 r
  deep-not zero z e = at_zero r Not e
  deep-not (suc d) z e = absurd (omega arith)

  pub deep-bracket : (d : ℕ) → d ≡ 0 → Bracket ≡ opening_of r → condition d r ≡ breach 20 r
  deep-bracket zero z e = at_zero r Bracket e
  deep-bracket (suc d) z e = absurd (omega arith)

  pub begins-not : (d : ℕ) → (d ≡ 0 → ⊥) → Not ≡ opening_of r → condition d r ≡ negation (condition (d - 1)) r
  begins-not zero z e = absurd (z refl)
  begins-not (suc d) z e =
      let m : d ≡ suc d - 1 = omega arith in
      at_suc r Not e d ∙ ap (λ (n : ℕ). negation (condition n) r) m

  pub begins-bracket : (d : ℕ) → (d ≡ 0 → ⊥) → Bracket ≡ opening_of r → condition d r ≡ bracket (condition (d - 1)) r
  begins-bracket zero z e = absurd (z refl)
  begins-bracket (suc d) z e =
      let m : d ≡ suc d - 1 = omega arith in
      at_suc r Bracket e d ∙ ap (λ (n : ℕ). bracket (condition n) r) m

-- what begins with one of the letters isn't at the end
pub inside : (s : List ℕ) (at : ℕ) (o : Opening) → o ≡ opening_of (drop at s) → (o ≡ Other → ⊥) → at < length s
inside s at o e h = go (ltb at (length s)) refl
  where
    go : (b : Bool) → ltb at (length s) ≡ b → at < length s
    go true q = ltb-true at (length s) q
    go false q = absurd (h (e ∙ ap opening_of (none s at (ltb-false at (length s) q))))
