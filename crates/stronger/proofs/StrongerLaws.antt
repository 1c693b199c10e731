-- "Every witness of the second is then a witness of the first."
use Prim.Native.Nat.{ℕ}
use mathlib.Core.Path.{◌≡◌, sym, ◌∙◌}
use mathlib.Core.Bool.{Bool, true}
use mathlib.Core.List.{List}
use Rattle.lists.proofs.BoolLaws.{and_l, and_r, is_false, not-either}
use Rattle.table.specs.declared.Table.{Table}
use Rattle.model.specs.Returns.{returns}
use Rattle.model.specs.Axioms.{preserved_order, atomicity}
use Rattle.model.specs.Witness.{is_order, lawful, witness_for, witness}
use Rattle.model.proofs.VerdictLaws.{returns-load-value}
use Rattle.stronger.specs.Statements.{NoMore, StrongerTables, StrongerModel}
use Rattle.stronger.proofs.ImpliesLaws.{Implies, same-implies, and-grows}
use Rattle.stronger.proofs.SameLaws.{Same, returns-same, order_same, atomicity-same, outcome-same, returned-same, end_same, meets-same}
use Rattle.stronger.proofs.GrowthLaws.{Grows, preserved-grows}
use Rattle.stronger.proofs.RelationLaws.{stronger-grows, model-grows}

module _ {t u : Table} (g : Grows t u) where
  abbrev s : Same t u
  s = g.same

  -- every lawful order of the second is one of the first
  pub lawful-stronger : (gmo : List ℕ) → Implies (lawful u gmo) (lawful t gmo)
  unfolding lawful
  lawful-stronger gmo h = rw (order, keeps, returns-load-value t gmo) atomic
    where
      order : is_order t gmo ≡ true
      order = let q : is_order u gmo ≡ true = search (and_l, and_r) in (λ i. order_same s i gmo) ∙ q

      keeps : preserved_order t (returns t gmo) gmo ≡ true
      keeps =
          let q : preserved_order u (returns u gmo) gmo ≡ true = search (and_l, and_r) in
          (λ i. preserved_order t (returns-same s i gmo) gmo) ∙ preserved-grows g (returns u gmo) gmo q

      atomic : atomicity t (returns t gmo) gmo ≡ true
      atomic =
          let q : atomicity u (returns u gmo) gmo ≡ true = search (and_l, and_r) in
          (λ i. atomicity-same s i (returns-same s i gmo) gmo) ∙ q

  -- whatever outcome is asked for, if an order gives it in both or in neither
  pub outcome-stronger : (p q : List ℕ → Bool) → p ≡ q → (gmo : List ℕ) → Implies (witness_for u q gmo) (witness_for t p gmo)
  unfolding witness_for
  outcome-stronger p q e gmo = and-grows (lawful-stronger gmo) (same-implies (λ i. sym e i gmo))

  pub witness-stronger : (gmo : List ℕ) → Implies (witness u gmo) (witness t gmo)
  unfolding witness
  witness-stronger = outcome-stronger _ _ (outcome-same s)

  no_more : NoMore t u
  no_more = record {
    witnesses = witness-stronger;
    forbidden = λ f gmo. is_false (witness u gmo) (λ w. not-either (witness t gmo) (witness-stronger gmo w) (f gmo));
    lawful-orders = lawful-stronger;
    returns-same = λ gmo i. sym (returns-same s) i gmo;
    values-read = λ gmo e i. sym (returned-same s) i gmo e;
    end-values = λ gmo x i. sym (end_same s) i gmo x;
    conditions = λ c. outcome-stronger _ _ (meets-same s c);
  }

-- "Stronger tests never allow more."
pub stronger-tables : StrongerTables
stronger-tables t u h = no_more (stronger-grows t u h)

pub stronger-model : StrongerModel
stronger-model t = no_more (model-grows t)
