-- The list of a table's outcomes has those that some lawful order gives, ascending; a walk along the clean prefixes meets them all.
use Prim.Native.Nat.{ℕ, zero, suc, ◌+◌, ◌<◌}
use native.Mathlib.Omega.{arith}
use mathlib.Core.Path.{◌≡◌, refl, sym, ap, ap₂, ◌∙◌, subst}
use mathlib.Core.Bool.{Bool, true, and-true}
use mathlib.Core.List.Memᴰ
use mathlib.Core.List.{List, [], ◌∷◌, ◌++◌, map}
use mathlib.Core.Logic.{◌↔◌, ◌≢◌}
use lib.ListN.{length, length-append, length-map}
use Rattle.lists.specs.Below.{up_from, below, some}
use Rattle.lists.specs.Lists.{◌∈◌, keep}
use Rattle.lists.specs.Ascending.{less, AllAbove, Ascending}
use Rattle.lists.proofs.BoolLaws.{and_l, and_r}
use Rattle.lists.proofs.MemberLaws.{keep-only, keep-each}
use Rattle.lists.proofs.AscendingLaws.{at_above}
use Rattle.sorted_rows.specs.Sorted.{sorted}
use Rattle.sorted_rows.proofs.SortedLaws.{sorted-member, sorted-ascending, sorted-same}
use Rattle.table.specs.declared.Table.{Table}
use Rattle.table.specs.Events.{memory}
use Rattle.model.specs.Witness.{is_order, lawful, witness_for}
use Rattle.model.specs.Prefixes.{clean_prefixes, orders}
use Rattle.model.specs.Following.{returned_value, end_value}
use Rattle.model.proofs.PrefixLaws.{orders-each, clean-listed, witness-clean, witness-nonempty}
use Rattle.outcomes.specs.Outcomes.{readers, outcome_of, outcome_length, outcomes}
use Rattle.outcomes.specs.Listings.{IsOutcome}

-- so many numbers are below n
from-length : (k n : ℕ) → length (up_from k n) ≡ n
unfolding up_from
from-length k zero = refl
from-length k (suc n) = ap suc (from-length (suc k) n)

-- the empty list is less than any other
some-above : (o : List ℕ) → 0 < length o → less [] o ≡ true
some-above [] h = absurd (omega arith)
some-above (x ∷ o) h = refl

module _ (t : Table) where
  -- a lawful order is a witness of an outcome that every order gives
  pub lawful-any : (gmo : List ℕ) → witness_for t (λ p. true) gmo ≡ lawful t gmo
  unfolding witness_for
  lawful-any gmo = and-true (lawful t gmo)

  lawful-order : (gmo : List ℕ) → lawful t gmo ≡ true → is_order t gmo ≡ true
  unfolding lawful
  lawful-order gmo h = search (and_l, and_r)

  -- the lawful orders among all orders, and among the clean prefixes, are the same
  abbrev Lawful : List ℕ → Type 0
  Lawful gmo = (gmo ≢ []) × (lawful t gmo ≡ true)

  lawful-listed : (gmo : List ℕ) → (gmo ∈ keep (lawful t) (orders t)) ↔ Lawful gmo
  lawful-listed = orders-each t (lawful t) lawful-order

  lawful-met : (gmo : List ℕ) → (gmo ∈ keep (lawful t) (clean_prefixes t)) ↔ Lawful gmo
  lawful-met gmo = (
    λ m. let r = keep-only (lawful t) (clean_prefixes t) gmo m in (((clean-listed t gmo).0 r.0).0, r.1),
    λ h. keep-each (lawful t) (clean_prefixes t) gmo
        ((clean-listed t gmo).1 (h.0, witness-clean t (λ p. true) gmo (lawful-any gmo ∙ h.1))) h.1,
  )

  -- what such a list of orders gives
  given_by : (l : List (List ℕ)) → ((gmo : List ℕ) → (gmo ∈ l) ↔ Lawful gmo) → (o : List ℕ) →
      (o ∈ map (outcome_of t) l) ↔ ((gmo : List ℕ) × Lawful gmo × (outcome_of t gmo ≡ o))
  given_by l h o = (
    λ m. let r = Memᴰ.of_map (outcome_of t) l m in (r.0, (h r.0).0 r.1, r.2),
    λ g. subst (λ (x : List ℕ). x ∈ map (outcome_of t) l) g.2 (Memᴰ.map (outcome_of t) ((h g.0).1 g.1)),
  )

  -- a walk along the clean prefixes meets all outcomes
  pub outcomes-met : outcomes t ≡ sorted (map (outcome_of t) (keep (lawful t) (clean_prefixes t)))
  unfolding outcomes
  outcomes-met = sorted-same _ _ (λ o.
      let a = given_by (keep (lawful t) (orders t)) lawful-listed o in
      let b = given_by (keep (lawful t) (clean_prefixes t)) lawful-met o in
      (λ m. b.1 (a.0 m), λ m. a.1 (b.0 m)))

  -- "every outcome that some lawful order gives", where there is a memory event (line 11)
  pub outcomes-each : some t.count (memory t) ≡ true → (o : List ℕ) → (o ∈ outcomes t) ↔ IsOutcome t o
  unfolding outcomes
  outcomes-each some-memory o =
      let s = sorted-member (map (outcome_of t) (keep (lawful t) (orders t))) o in
      let g = given_by (keep (lawful t) (orders t)) lawful-listed o in (
        λ m. let r = g.0 (s.0 m) in (r.0, r.1.1, r.2),
        λ h. s.1 (g.1 (h.0, (witness-nonempty t (λ p. true) h.0 some-memory (lawful-any h.0 ∙ h.1), h.1), h.2)),
      )

  -- "in ascending order, each once"
  pub outcomes-ascending : Ascending (outcomes t)
  unfolding outcomes
  outcomes-ascending = sorted-ascending (map (outcome_of t) (keep (lawful t) (orders t)))

  -- an outcome has a value for each reader and each location
  pub outcome-length : (gmo : List ℕ) → length (outcome_of t gmo) ≡ outcome_length t
  unfolding outcome_of outcome_length
  outcome-length gmo =
      length-append (map (returned_value t gmo) (readers t)) (map (end_value t gmo) (below t.locations))
      ∙ ap₂ ◌+◌ (length-map (readers t) (returned_value t gmo))
      (length-map (below t.locations) (end_value t gmo) ∙ from-length 0 t.locations)

  -- none is empty, if there is a location
  pub outcomes-nonempty : some t.count (memory t) ≡ true → 0 < t.locations → AllAbove [] (outcomes t)
  unfolding outcome_length
  outcomes-nonempty m h = at_above [] (outcomes t) (λ o i. let g = (outcomes-each m o).0 i in
      some-above o (omega (arith, h, ap length g.2, outcome-length g.0)))
