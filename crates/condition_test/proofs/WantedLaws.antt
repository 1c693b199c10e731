-- What is looked for by the words of a condition, and the test of it.
use Prim.Native.Nat.{ℕ}
use mathlib.Core.Path.{◌≡◌, refl, sym, ap, ◌∙◌}
use mathlib.Core.Bool.{Bool, true, false, ◌&&◌, and-true}
use mathlib.Core.List.{List, [], ◌∷◌, ◌++◌, cons-ne-nil}
use mathlib.Core.Logic.{inl, inr, ⊎_elim}
use native.Mathlib.Omega.{arith}
use lib.ListN.{length, get_or}
use Rattle.lists.proofs.BoolLaws.{and_right}
use Rattle.table.specs.declared.Table.{Table}
use Rattle.text_format.specs.Condition.{Condition, returns, ends, negated, both, either, fits}
use Rattle.condition_reader.specs.Words.{code}
use Rattle.model.specs.Following.{meets, names_unknown}
use Rattle.model.specs.Witness.{is_order, lawful, witness, witness_for}
use Rattle.model.specs.Prefixes.{clean}
use Rattle.fact_rows.specs.FactRows.{Facts}
use Rattle.fact_rows.specs.ValueRows.{Values}
use Rattle.order_test.specs.Testing.{Judges}
use Rattle.condition_test.specs.Kept.{Keeps, Meets}
use Rattle.condition_test.specs.Wanted.{Conditioned, any_node, any_words, any_order, Wants, Witnesses}

append-some : (l : List ℕ) (x : ℕ) (m : List ℕ) → l ++ (x ∷ m) ≡ [] → ⊥
append-some [] x m e = cons-ne-nil x m e
append-some (y ∷ l) x m e = cons-ne-nil y (l ++ (x ∷ m)) e

-- a condition has words
pub code-some : (c : Condition) → code c ≡ [] → ⊥
unfolding code
code-some (returns e v) h = append-some [] _ [] h
code-some (ends x v) h = append-some [] _ [] h
code-some (negated c) h = append-some (code c) _ [] h
code-some (both l r) h = append-some (code l) _ (code r) h
code-some (either l r) h = append-some (code l) _ (code r) h

append-first : (l m : List ℕ) → (l ≡ [] → ⊥) → get_or (l ++ m) 0 0 ≡ get_or l 0 0
append-first [] m e = absurd (e refl)
append-first (x ∷ l) m e = refl

-- the first of them is an atom
pub code-first : (c : Condition) → get_or (code c) 0 0 ≡ any_node → ⊥
unfolding code
code-first (returns e v) h = omega arith
code-first (ends x v) h = omega arith
code-first (negated c) h = code-first c (sym (append-first (code c) _ (code-some c)) ∙ h)
code-first (both l r) h = code-first l (sym (append-first (code l) _ (code-some l)) ∙ h)
code-first (either l r) h = code-first l (sym (append-first (code l) _ (code-some l)) ∙ h)

-- a condition is looked for by its words
pub code-wanted : (t : Table) (facts : List (List ℕ)) (c : Condition) → fits c ≡ true → names_unknown t c ≡ false →
    Values t facts → Wants t facts (code c) (meets t c)
code-wanted t facts c f h v = go (code c) refl
  where
    go : (ws : List ℕ) → ws ≡ code c → Wants t facts ws (meets t c)
    go [] e = absurd (code-some c (sym e))
    go (w ∷ ws) e = inl (record { condition = c; coded = e; asked = refl; fitting = f; known = h; values = v })

-- any order is looked for by the one word
pub any-wanted : (t : Table) (facts : List (List ℕ)) → Wants t facts any_words any_order
any-wanted t facts = inr (refl, refl)

-- the test of a witness
module _ (facts : List (List ℕ)) (words gmo : List ℕ) where
  pub witness-stated : length words ≡ 0 → (r : Bool) → Judges facts gmo witness r → (seen kept : List ℕ) →
      Witnesses facts words gmo seen kept r seen kept
  unfolding witness
  witness-stated e r h seen kept t outcome f w o k u = (go words e w, u)
    where
      go : (ws : List ℕ) → length ws ≡ 0 → Wants t facts ws outcome → r ≡ witness_for t outcome gmo
      go [] e q = h t f o k ∙ ap (λ (x : List ℕ → Bool). witness_for t x gmo) (sym q)
      go (v ∷ vs) e q = absurd (omega arith)

  -- Of the word for any order each lawful order is a witness.
  pub witness-any : (length words ≡ 0 → ⊥) → get_or words 0 0 ≡ any_node → (r : Bool) → Judges facts gmo lawful r →
      (seen kept : List ℕ) → Witnesses facts words gmo seen kept r seen kept
  unfolding witness_for
  witness-any e first r h seen kept t outcome f w o k u = (go words e first w, u)
    where
      go : (ws : List ℕ) → (length ws ≡ 0 → ⊥) → get_or ws 0 0 ≡ any_node → Wants t facts ws outcome → r ≡ witness_for t outcome gmo
      go [] e first w = absurd (e refl)
      go (v ∷ vs) e first w =
          ⊎_elim (λ (q : Conditioned t facts (v ∷ vs) outcome).
          absurd (code-first q.condition (ap (λ (l : List ℕ). get_or l 0 0) (sym q.coded) ∙ first)))
          (λ (q : (◌≡◌ {A = List ℕ} (v ∷ vs) any_words) × (outcome ≡ any_order)).
          h t f o k ∙ sym (and-true (lawful t gmo)) ∙ ap (λ (x : List ℕ → Bool). lawful t gmo && x gmo) (sym q.1)) w

  -- Where there are other words, the outcome is what they say.
  module _ (e : length words ≡ 0 → ⊥) (first : get_or words 0 0 ≡ any_node → ⊥) (seen kept next after : List ℕ) (b : Bool)
      (h : Meets facts words gmo seen kept b next after) where
    outcome-met : (t : Table) (outcome : List ℕ → Bool) → Facts t facts → Wants t facts words outcome → is_order t gmo ≡ true →
        clean t gmo ≡ true → Keeps t words seen kept → (b ≡ outcome gmo) × Keeps t words next after
    outcome-met t outcome f w o k u = go words e first w h u
      where
        go : (ws : List ℕ) → (length ws ≡ 0 → ⊥) → (get_or ws 0 0 ≡ any_node → ⊥) → Wants t facts ws outcome →
            Meets facts ws gmo seen kept b next after → Keeps t ws seen kept → (b ≡ outcome gmo) × Keeps t ws next after
        go [] e first q h u = absurd (e refl)
        go (v ∷ vs) e first (inl q) h u =
            let m = h t f q.values o k u in (
              m.0 q.condition q.coded q.fitting q.known ∙ ap (λ (x : List ℕ → Bool). x gmo) (sym q.asked),
              m.1,
            )
        go (v ∷ vs) e first (inr q) h u = absurd (first (ap (λ (l : List ℕ). get_or l 0 0) q.0))

    pub witness-met : b ≡ true → (r : Bool) → Judges facts gmo lawful r → Witnesses facts words gmo seen kept r next after
    unfolding witness_for
    witness-met q r l t outcome f w o k u =
        let m = outcome-met t outcome f w o k u in (
          l t f o k ∙ sym (and-true (lawful t gmo)) ∙ ap (λ (x : Bool). lawful t gmo && x) (sym q ∙ m.0),
          m.1,
        )

    pub witness-unmet : b ≡ false → Witnesses facts words gmo seen kept false next after
    unfolding witness_for
    witness-unmet q t outcome f w o k u =
        let m = outcome-met t outcome f w o k u in
        (sym (and_right (lawful t gmo) (outcome gmo) (sym m.0 ∙ q)), m.1)
