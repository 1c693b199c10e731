-- The returns that an order determines, and the verdict for them.
use Prim.Native.Nat.{ℕ, ◌<◌}
use mathlib.Core.Path.{◌≡◌, refl, sym, ap, ◌∙◌}
use mathlib.Core.Logic.{◌↔◌}
use mathlib.Core.Bool.{Bool, true, false, ◌&&◌, not, and-eq-true_iff}
use mathlib.Core.List.{List}
use lib.ListN.{length}
use lib.Dec.{eqb}
use borrow.Author.Tests.{eqb-true, eq-eqb, not-true, not-false}
use Rattle.lists.proofs.SomeLaws.{some-none, none-at}
use Rattle.lists.proofs.FilledLaws.{get_or-up_to, up_to-same}
use Rattle.table.specs.declared.Table.{Table}
use Rattle.table.specs.Events.{reads}
use Rattle.model.specs.Rules.{nothing, from}
use Rattle.model.specs.Returns.{return_of, return_entry, returns}
use Rattle.model.specs.Axioms.{breaks_load_value, load_value, values_read, final_values}
use Rattle.model.specs.Witness.{is_order, lawful, witness_for, stated_outcome, witness}
use Rattle.model.specs.Verdict.{allowed, verdict}
use Rattle.model.proofs.SaysLaws.{allowed-exactly}

-- a non-reader's entry is `nothing` (refusal 14)
abbrev pub EntriesOfReaders : Table → List ℕ → Type 0
EntriesOfReaders t rf = (e : ℕ) → e < t.count → reads t e ≡ false → from rf e ≡ nothing

-- an entry that doesn't break load value is the one that the order determines
entry-is : (t : Table) (rf gmo : List ℕ) (e : ℕ) (s : Bool) → reads t e ≡ s → (s ≡ false → from rf e ≡ nothing)
    → (s && not (eqb (from rf e) (return_of t gmo e))) ≡ false → from rf e ≡ return_entry t gmo e
unfolding return_entry
entry-is t rf gmo e true q n h = rw q (eqb-true _ _ (not-false _ h))
entry-is t rf gmo e false q n h = rw q (n refl)

-- an entry that the order determines doesn't break load value
entry-keeps : (t : Table) (rf gmo : List ℕ) (e : ℕ) (s : Bool) → reads t e ≡ s → from rf e ≡ return_entry t gmo e
    → (s && not (eqb (from rf e) (return_of t gmo e))) ≡ false
unfolding return_entry
entry-keeps t rf gmo e true q h = ap not (eq-eqb _ _ (rw q at h))
entry-keeps t rf gmo e false q h = refl

-- what a reader's entry of the determined list is
pub returns-at : (t : Table) (gmo : List ℕ) (r : ℕ) → r < t.count → reads t r ≡ true → from (returns t gmo) r ≡ return_of t gmo r
unfolding from returns return_entry
returns-at t gmo r l h = get_or-up_to t.count (return_entry t gmo) r nothing l ∙ rw h

-- The returns that an order determines always meet load value.
pub returns-load-value : (t : Table) (gmo : List ℕ) → load_value t (returns t gmo) gmo ≡ true
unfolding load_value breaks_load_value returns from
returns-load-value t gmo =
    ap not (some-none _ _ (λ e h. entry-keeps t (returns t gmo) gmo e (reads t e) refl (get_or-up_to _ _ e nothing h)))

-- They alone do.
pub returns-only : (t : Table) (rf gmo : List ℕ) → length rf ≡ t.count → EntriesOfReaders t rf
    → (load_value t rf gmo ≡ true) ↔ (rf ≡ returns t gmo)
unfolding load_value breaks_load_value returns from
returns-only t rf gmo long n = (
  λ h. up_to-same _ _ nothing rf long
      (λ e l. entry-is t rf gmo e (reads t e) refl (n e l) (none-at _ _ e (not-true _ h) l)),
  λ q. ap (λ (r : List ℕ). load_value t r gmo) q ∙ returns-load-value t gmo,
)

-- An order with the returns that it determines is allowed exactly when it is a witness.
pub witness-allowed : (t : Table) (gmo : List ℕ) → is_order t gmo ≡ true → (verdict t (returns t gmo) gmo ≡ allowed) ↔ (witness t gmo ≡ true)
unfolding witness witness_for stated_outcome lawful
witness-allowed t gmo h =
    let exactly = allowed-exactly t (returns t gmo) gmo in (
      λ e. let a = exactly.0 e in rw (h, a.0.0.0.0, a.0.0.0.1, a.0.0.1, a.0.1, a.1),
      λ w.
          let o = (and-eq-true_iff (lawful t gmo) (stated_outcome t gmo)).0 w in
          let v = (and-eq-true_iff (values_read t (returns t gmo)) (final_values t gmo)).0 o.1 in
          let a = (and-eq-true_iff _ _).0 o.0 in
          let l = (and-eq-true_iff _ _).0 a.0 in
          exactly.1 ((((((and-eq-true_iff (is_order t gmo) _).0 l.0).1, l.1), a.1), v.0), v.1),
    )
