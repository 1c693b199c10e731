-- Conditions: where their reader stops, with one level more as well.
use Prim.Native.Nat.{ℕ, suc, zero}
use mathlib.Core.Path.{◌≡◌, refl, sym, ap, subst, ◌∙◌}
use mathlib.Core.Bool.{true, Bool, false, cond}
use mathlib.Core.Logic.{◌⊎◌, inl, inr}
use mathlib.Core.List.{List, [], ◌∷◌, ◌++◌}
use native.Mathlib.Omega.{arith}
use lib.ListN.{get_or, drop}
use lib.Dec.{eqb}
use borrow.Author.Tests.{eqb-true}
use Rattle.text_format.specs.Bytes.{space, letter_r, letter_x, letter_n, open_bracket, letter_o, and_word, or_word}
use Rattle.text_format.specs.Condition.{Condition, joined, decimal_in, printed, returns, ends, negated, both}
use Rattle.text_format.specs.Reading.{Read, and_then, word, not_digit, atom, joint, negation, bracket, opening, condition, got, breach}
use Rattle.text_format.proofs.BackLaws.{condition-back}
use Rattle.text_format.proofs.PartLaws.{Any, NoDigit, Part, part_then, part-done, as-reads, part-word, part-any, part-atom}
use Rattle.text_format.proofs.SoundLaws.{breach-not-got, through, word_sound}
use Rattle.text_format.proofs.StopLaws.{SameFirst, same-cons, Mend, Halted, Reads, Next, breach-number, breach-rest, stop-both}

same-get : (s u : List ℕ) → SameFirst s u → get_or u 0 0 ≡ get_or s 0 0
same-get [] u h = absurd h
same-get (b ∷ s) [] h = absurd h
same-get (b ∷ s) (c ∷ u) h = h

-- one reader or another, by the first byte
module _ {B : Type 0} (F : List ℕ → Type 0) (k : ℕ) (X X⁺ Y Y⁺ : List ℕ → Read B)
    (x : (u : List ℕ) (a : B) (r : List ℕ) → X u ≡ got a r → eqb (get_or u 0 0) k ≡ true)
    (x⁺ : (u : List ℕ) (a : B) (r : List ℕ) → X⁺ u ≡ got a r → eqb (get_or u 0 0) k ≡ true)
    (y : (u : List ℕ) (a : B) (r : List ℕ) → Y u ≡ got a r → eqb (get_or u 0 0) k ≡ false)
    (y⁺ : (u : List ℕ) (a : B) (r : List ℕ) → Y⁺ u ≡ got a r → eqb (get_or u 0 0) k ≡ false) where
  pub pick-reads : (s : List ℕ) → (eqb (get_or s 0 0) k ≡ true → Reads F X X⁺ s) → (eqb (get_or s 0 0) k ≡ false → Reads F Y Y⁺ s)
      → Reads F (λ s. cond (eqb (get_or s 0 0) k) (X s) (Y s)) (λ s. cond (eqb (get_or s 0 0) k) (X⁺ s) (Y⁺ s)) s
  pick-reads s p q = go (eqb (get_or s 0 0) k) refl
    where
      yes : (P Q : List ℕ → Read B) (u : List ℕ) → eqb (get_or u 0 0) k ≡ true → cond (eqb (get_or u 0 0) k) (P u) (Q u) ≡ P u
      yes P Q u e = ap (λ (t : Bool). cond t (P u) (Q u)) e

      not : (P Q : List ℕ → Read B) (u : List ℕ) → eqb (get_or u 0 0) k ≡ false → cond (eqb (get_or u 0 0) k) (P u) (Q u) ≡ Q u
      not P Q u e = ap (λ (t : Bool). cond t (P u) (Q u)) e

      on : (t : Bool) (u : List ℕ) → eqb (get_or s 0 0) k ≡ t → SameFirst s u → eqb (get_or u 0 0) k ≡ t
      on t u e h = ap (λ (z : ℕ). eqb z k) (same-get s u h) ∙ e

      go : (t : Bool) → eqb (get_or s 0 0) k ≡ t → Reads F (λ s. cond (eqb (get_or s 0 0) k) (X s) (Y s))
          (λ s. cond (eqb (get_or s 0 0) k) (X⁺ s) (Y⁺ s)) s
      go true e = as-reads F (λ s. cond (eqb (get_or s 0 0) k) (X s) (Y s)) (λ s. cond (eqb (get_or s 0 0) k) (X⁺ s) (Y⁺ s)) X X⁺ s
          (yes X Y s e)
          (λ u h. yes X Y u (on true u e h)) (λ u h. yes X⁺ Y⁺ u (on true u e h)) (λ u a r g. yes X Y u (x u a r g) ∙ g)
          (λ u a r g. yes X⁺ Y⁺ u (x⁺ u a r g) ∙ g) (p e)
      go false e = as-reads F (λ s. cond (eqb (get_or s 0 0) k) (X s) (Y s)) (λ s. cond (eqb (get_or s 0 0) k) (X⁺ s) (Y⁺ s)) Y Y⁺ s
          (not X Y s e)
          (λ u h. not X Y u (on false u e h)) (λ u h. not X⁺ Y⁺ u (on false u e h)) (λ u a r g. not X Y u (y u a r g) ∙ g)
          (λ u a r g. not X⁺ Y⁺ u (y⁺ u a r g) ∙ g) (q e)

-- what begins with fixed bytes
pub word_first : {B : Type 0} (c : ℕ) (w : List ℕ) (f : List ℕ → List ℕ → Read B) (u : List ℕ) (b : B) (r : List ℕ)
    → and_then (word (c ∷ w) u) f ≡ got b r
    → (t : List ℕ) × (u ≡ c ∷ t)
word_first c w f u b r h = let a = through (word (c ∷ w) u) f b r h in (w ++ a.1, word_sound (c ∷ w) u a.0 a.1 a.2)

abbrev or_joint : List ℕ → Read Bool
or_joint r = and_then (word or_word r) (λ _ t. got false t)

abbrev and_joint : List ℕ → Read Bool
and_joint r = and_then (word and_word r) (λ _ t. got true t)

part-or : Part NoDigit Any or_joint or_joint
part-or = part_then (part-word letter_o (letter_r ∷ space ∷ []) refl) (λ _. part-done Any false)

part-and : Part NoDigit Any and_joint and_joint
part-and = part_then (part-word 97 (letter_n ∷ 100 ∷ space ∷ []) refl) (λ _. part-done Any true)

abbrev either_joint : List ℕ → Read Bool
either_joint r = cond (eqb (get_or r 0 0) letter_o) (or_joint r) (and_joint r)

part-either : Part Any Any either_joint either_joint
unfolding word
part-either =
    let n : Next Any Any either_joint = record {
      sample = record { tail = or_word; value = false; reads = λ s h. refl };
      leads =
          λ u b s h e. tt;
    } in
    let o : (u : List ℕ) (a : Bool) (r : List ℕ) → or_joint u ≡ got a r → eqb (get_or u 0 0) letter_o ≡ true =
    (λ u a r e. let w = word_first letter_o (letter_r ∷ space ∷ []) (λ _ t. got false t) u a r e in
    ap (λ (l : List ℕ). eqb (get_or l 0 0) letter_o) w.1) in
    let d : (u : List ℕ) (a : Bool) (r : List ℕ) → and_joint u ≡ got a r → eqb (get_or u 0 0) letter_o ≡ false =
    (λ u a r e. let w = word_first 97 (letter_n ∷ 100 ∷ space ∷ []) (λ _ t. got true t) u a r e in
    ap (λ (l : List ℕ). eqb (get_or l 0 0) letter_o) w.1) in
    record {
      next = n;
      next⁺ = n;
      reads = λ s. pick-reads Any letter_o or_joint or_joint and_joint and_joint o o d d s
          (λ _. part-or.reads s) (λ _. part-and.reads s);
    }

pub part-joint : Part NoDigit Any joint joint
unfolding joint
part-joint = part_then (part-word space [] refl) (λ _. part-either)

module _ (inner inner⁺ : List ℕ → Read Condition) (x : Part Any NoDigit inner inner⁺) where
  part-not : Part NoDigit NoDigit (negation inner) (negation inner⁺)
  unfolding negation
  part-not = part_then (part-word letter_n (letter_o ∷ 116 ∷ space ∷ []) refl)
      (λ _. part_then x (λ c. part-done NoDigit (negated c)))

  part-bracket : Part NoDigit NoDigit (bracket inner) (bracket inner⁺)
  unfolding bracket
  part-bracket = part_then (part-word open_bracket (space ∷ []) refl) (λ _. part_then x
      (λ l. part_then part-joint (λ b. part_then x (λ r.
      part_then (part-word space (41 ∷ []) refl) (λ _. part-any (part-done NoDigit (joined b l r)))))))

not_first : (inner : List ℕ → Read Condition) (u : List ℕ) (c : Condition) (r : List ℕ) → negation inner u ≡ got c r
    → (t : List ℕ) × (u ≡ letter_n ∷ t)
unfolding negation
not_first inner u c r h = word_first letter_n (letter_o ∷ 116 ∷ space ∷ []) _ u c r h

bracket-first : (inner : List ℕ → Read Condition) (u : List ℕ) (c : Condition) (r : List ℕ) → bracket inner u ≡ got c r
    → (t : List ℕ) × (u ≡ open_bracket ∷ t)
unfolding bracket
bracket-first inner u c r h = word_first open_bracket (space ∷ []) _ u c r h

-- R is A where the text begins with b, as all that A reads does
module _ {B : Type 0} (F : List ℕ → Type 0) (b : ℕ) (R R⁺ A A⁺ : List ℕ → Read B) (h : (t : List ℕ) → R (b ∷ t) ≡ A (b ∷ t))
    (h⁺ : (t : List ℕ) → R⁺ (b ∷ t) ≡ A⁺ (b ∷ t))
    (k : (u : List ℕ) (a : B) (r : List ℕ) → A u ≡ got a r → (t : List ℕ) × (u ≡ b ∷ t))
    (k⁺ : (u : List ℕ) (a : B) (r : List ℕ) → A⁺ u ≡ got a r → (t : List ℕ) × (u ≡ b ∷ t)) where
  letter-reads : (s : List ℕ) → Reads F A A⁺ (b ∷ s) → Reads F R R⁺ (b ∷ s)
  letter-reads s = as-reads F R R⁺ A A⁺ (b ∷ s) (h s)
      (λ u e. let w = same-cons b s u e in subst (λ (l : List ℕ). R l ≡ A l) (sym w.1) (h w.0))
      (λ u e. let w = same-cons b s u e in subst (λ (l : List ℕ). R⁺ l ≡ A⁺ l) (sym w.1) (h⁺ w.0))
      (λ u a r e. let w = k u a r e in subst (λ (l : List ℕ). R l ≡ A l) (sym w.1) (h w.0) ∙ e)
      (λ u a r e. let w = k⁺ u a r e in subst (λ (l : List ℕ). R⁺ l ≡ A⁺ l) (sym w.1) (h⁺ w.0) ∙ e)

abbrev lettered : ℕ → (ℕ → ℕ → Condition) → List ℕ → Read Condition
lettered b made s = and_then (word (b ∷ []) s) (λ _ t. atom made t)

part-lettered : (b : ℕ) (made : ℕ → ℕ → Condition) → not_digit b ≡ true → Part NoDigit NoDigit (lettered b made) (lettered b made)
part-lettered b made h = part_then (part-word b [] h) (λ _. part-atom made)

module _ (n n⁺ b b⁺ : List ℕ → Read Condition) (m : Mend NoDigit (opening n b) [])
    (x : (s : List ℕ) → Reads NoDigit (opening n b) (opening n⁺ b⁺) (letter_n ∷ s))
    (y : (s : List ℕ) → Reads NoDigit (opening n b) (opening n⁺ b⁺) (open_bracket ∷ s)) where
  bad : (n b : List ℕ → Read Condition) (c : ℕ) (s : List ℕ) → eqb c letter_r ≡ false → eqb c letter_x ≡ false
      → eqb c letter_n ≡ false → eqb c open_bracket ≡ false → opening n b (c ∷ s) ≡ breach 19 (c ∷ s)
  unfolding opening
  bad n b c s e f g h = rw (e, f, g, h)

  opening-reads : (s : List ℕ) → Reads NoDigit (opening n b) (opening n⁺ b⁺) s
  unfolding opening word
  opening-reads [] = stop-both NoDigit (opening n b) (opening n⁺ b⁺) [] refl (λ u h. absurd h) (λ u h. absurd h) m
  opening-reads (c ∷ s) = go (eqb c letter_r) refl (eqb c letter_x) refl (eqb c letter_n) refl (eqb c open_bracket) refl
    where
      go : (t₁ : Bool) → eqb c letter_r ≡ t₁ → (t₂ : Bool) → eqb c letter_x ≡ t₂ → (t₃ : Bool) → eqb c letter_n ≡ t₃ → (t₄ : Bool)
          → eqb c open_bracket ≡ t₄
          → Reads NoDigit (opening n b) (opening n⁺ b⁺) (c ∷ s)
      go true e t₂ f t₃ g t₄ h = subst (λ (z : ℕ). Reads NoDigit (opening n b) (opening n⁺ b⁺) (z ∷ s))
          (sym (eqb-true c letter_r e))
          (letter-reads NoDigit letter_r (opening n b) (opening n⁺ b⁺) (lettered letter_r returns) (lettered letter_r returns)
          (λ t. refl) (λ t. refl)
          (λ u a r. word_first letter_r [] _ u a r) (λ u a r. word_first letter_r [] _ u a r) s
          ((part-lettered letter_r returns refl).reads (letter_r ∷ s)))
      go false e true f t₃ g t₄ h = subst (λ (z : ℕ). Reads NoDigit (opening n b) (opening n⁺ b⁺) (z ∷ s))
          (sym (eqb-true c letter_x f))
          (letter-reads NoDigit letter_x (opening n b) (opening n⁺ b⁺) (lettered letter_x ends) (lettered letter_x ends)
          (λ t. refl) (λ t. refl)
          (λ u a r. word_first letter_x [] _ u a r) (λ u a r. word_first letter_x [] _ u a r) s
          ((part-lettered letter_x ends refl).reads (letter_x ∷ s)))
      go false e false f true g t₄ h = subst (λ (z : ℕ). Reads NoDigit (opening n b) (opening n⁺ b⁺) (z ∷ s))
          (sym (eqb-true c letter_n g)) (x s)
      go false e false f false g true h = subst (λ (z : ℕ). Reads NoDigit (opening n b) (opening n⁺ b⁺) (z ∷ s))
          (sym (eqb-true c open_bracket h)) (y s)
      go false e false f false g false h = stop-both NoDigit (opening n b) (opening n⁺ b⁺) (c ∷ s) (bad n b c s e f g h)
          (λ u i. let w = same-cons c s u i in subst (λ (l : List ℕ). opening n b l ≡ breach 19 l) (sym w.1)
          (bad n b c w.0 e f g h))
          (λ u i. let w = same-cons c s u i in subst (λ (l : List ℕ). opening n⁺ b⁺ l ≡ breach 19 l) (sym w.1)
          (bad n⁺ b⁺ c w.0 e f g h)) m

-- a ninth level
deep-reads : (c : ℕ) → (c ≡ letter_n) ⊎ (c ≡ open_bracket) → (R R⁺ : List ℕ → Read Condition)
    → ((t : List ℕ) → R (c ∷ t) ≡ breach 20 (c ∷ t)) → Mend NoDigit R [] → Mend NoDigit R⁺ (c ∷ []) → (s : List ℕ)
    → Reads NoDigit R R⁺ (c ∷ s)
deep-reads c k R R⁺ e m m⁺ s = record {
  held = λ a r h. breach-not-got (sym (e s) ∙ h);
  halts = λ n r h. let i : n ≡ 20 = sym (breach-number (sym (e s) ∙ h)) in let j : c ∷ s ≡ r = breach-rest (sym (e s) ∙ h) in
      subst (λ (m : ℕ). Halted NoDigit R R⁺ m (c ∷ s) r) (sym i) (subst (λ (t : List ℕ). Halted NoDigit R R⁺ 20 (c ∷ s) t) j
      (record {
        front = [];
        text = refl;
        mark = inr (refl, k);
        again = λ u f. let w = same-cons c s u f in subst (λ (l : List ℕ). R l ≡ breach 20 l) (sym w.1) (e w.0);
        again⁺ = λ z. absurd (omega (arith, z));
        mend = m;
        mend⁺ = λ _. m⁺;
      }));
}

sample : (d : ℕ) → Mend NoDigit (condition d) []
sample d = record {
  tail = printed (returns 0 0);
  value = returns 0 0;
  reads =
      λ s h. condition-back (returns 0 0) d s (omega arith) refl h;
}

condition-next : (d : ℕ) → Next Any NoDigit (condition d)
condition-next d = record { sample = sample d; leads = λ u b s h e. tt }

deep-not : Mend NoDigit (condition 1) (letter_n ∷ [])
unfolding printed decimal_in
deep-not = record {
  tail = drop 1 (printed (negated (returns 0 0)));
  value = negated (returns 0 0);
  reads = λ s h. condition-back (negated (returns 0 0)) 1 s (omega arith) refl h;
}

deep-bracket : Mend NoDigit (condition 1) (open_bracket ∷ [])
unfolding printed decimal_in
deep-bracket = record {
  tail = drop 1 (printed (both (returns 0 0) (returns 0 0)));
  value = both (returns 0 0) (returns 0 0);
  reads = λ s h. condition-back (both (returns 0 0) (returns 0 0)) 1 s (omega arith) refl h;
}

-- a condition's reader, beside the one with a level more
pub part-condition : (d : ℕ) → Part Any NoDigit (condition d) (condition (suc d))
unfolding condition opening
part-condition zero = record {
  next = condition-next zero;
  next⁺ = condition-next 1;
  reads = opening-reads (breach 20) (negation (λ r. condition zero r)) (breach 20) (bracket (λ r. condition zero r)) (sample zero)
      (deep-reads letter_n (inl refl) (condition zero) (condition 1) (λ t. refl) (sample zero) deep-not)
      (deep-reads open_bracket (inr refl) (condition zero) (condition 1) (λ t. refl) (sample zero) deep-bracket);
}
part-condition (suc d) = let i = part-condition d in record {
  next = condition-next (suc d);
  next⁺ = condition-next (suc (suc d));
  reads = opening-reads (negation (λ r. condition d r)) (negation (λ r. condition (suc d) r)) (bracket (λ r. condition d r))
      (bracket (λ r. condition (suc d) r)) (sample (suc d))
      (λ s. letter-reads NoDigit letter_n (condition (suc d)) (condition (suc (suc d))) (negation (λ r. condition d r))
      (negation (λ r. condition (suc d) r)) (λ t. refl) (λ t. refl)
      (not_first (λ r. condition d r)) (not_first (λ r. condition (suc d) r)) s
      ((part-not (λ r. condition d r) (λ r. condition (suc d) r) i).reads (letter_n ∷ s)))
      (λ s. letter-reads NoDigit open_bracket (condition (suc d)) (condition (suc (suc d))) (bracket (λ r. condition d r))
      (bracket (λ r. condition (suc d) r)) (λ t. refl) (λ t. refl)
      (bracket-first (λ r. condition d r)) (bracket-first (λ r. condition (suc d) r)) s
      ((part-bracket (λ r. condition d r) (λ r. condition (suc d) r) i).reads (open_bracket ∷ s)));
}
