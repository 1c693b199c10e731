-- The machine of a table of model 1 that none of lines 5 to 11 refuses.
use Prim.Native.Nat.{ℕ, ◌<◌}
use mathlib.Core.Path.{◌≡◌, refl, sym, ap, ◌∙◌}
use mathlib.Core.Bool.{Bool, true, false, cond, not, ◌&&◌, ◌||◌, and-true, and_assoc}
use mathlib.Core.List.{List, [], ◌∷◌, ◌++◌, append-nil}
use lib.Dec.{eqb}
use borrow.Author.Tests.{eq-eqb, not-false}
use Rattle.table.specs.declared.Table.{Table}
use Rattle.table.specs.Events.{capacity, reads}
use Rattle.table.specs.Annotations.{rvtso}
use Rattle.refusals.proofs.InRange.{AsksRange}
use Rattle.refusals.proofs.TablePassed.{TablePassed}
use Rattle.placing.proofs.GoodTableLaws.{good-table, no-store-named}
use Rattle.machine.specs.Machine.{State, start, enter, perform, drain, is_issue, event_of, accepts, stepped, is_run, after, line24}
use Rattle.machine.specs.Statements.{state, ordered, MachineRight}
use Rattle.machine.proofs.TsoLaws.{TsoTable}
use Rattle.machine.proofs.RunLaws.{answered, sound, covers}

module _ (t : Table) where
  -- one step more at the end of a list
  pub run-snoc : (s : State) (bs : List ℕ) (b : ℕ) → is_run t s (bs ++ (b ∷ [])) ≡ (is_run t s bs && accepts t (after t s bs) b)
  unfolding is_run after
  run-snoc s [] b = and-true (accepts t s b)
  run-snoc s (c ∷ bs) b =
      ap (λ (x : Bool). accepts t s c && x) (run-snoc (stepped t s c) bs b)
      ∙ sym (and_assoc (accepts t s c) (is_run t (stepped t s c) bs) (accepts t (after t (stepped t s c) bs) b))

  pub after-snoc : (s : State) (bs : List ℕ) (b : ℕ) → after t s (bs ++ (b ∷ [])) ≡ stepped t (after t s bs) b
  unfolding after
  after-snoc s [] b = refl
  after-snoc s (c ∷ bs) b = after-snoc (stepped t s c) bs b

  -- what a step adds to the order
  pub step-order : (s : State) (b : ℕ) → (stepped t s b).gmo ≡ s.gmo ++ cond (ordered t s b) (event_of t s b ∷ []) []
  unfolding stepped enter perform drain
  step-order s b = go (is_issue b) (reads t (event_of t s b))
    where
      go : (i r : Bool) → (cond i (cond r (perform t s (event_of t s b)) (enter s (event_of t s b))) (drain s (event_of t s b))).gmo
          ≡ s.gmo ++ cond (not i || r) (event_of t s b ∷ []) []
      go true true = refl
      go true false = sym (append-nil s.gmo)
      go false r = refl

pub machine-right : {t : Table} → TsoTable t → MachineRight t
unfolding line24
machine-right {t} k = record {
  accepted = λ bs b. (
    λ h. run-snoc t (start t) bs b ∙ (rw model at (not-false (eqb t.model rvtso && is_run t (start t) bs && accepts t (state t bs) b) h)),
    λ h. rw model (ap not (sym (run-snoc t (start t) bs b) ∙ h)),
  );
  order = λ bs b. ap (λ (s : State). s.gmo) (after-snoc t (start t) bs b) ∙ step-order t (state t bs) b;
  answered = answered k;
  sound = sound k;
  covers = covers k;
}
  where
    model : eqb t.model rvtso ≡ true
    model = eq-eqb t.model rvtso k.tso

module _ (asked : ℕ → Bool) (most : ℕ) (extra : Bool) (t : Table) (range : AsksRange t asked) (room : most < capacity)
    (passed : TablePassed asked most extra t) (tso : t.model ≡ rvtso) where
  pub tso-table : TsoTable t
  tso-table = record {
    good = good-table asked most extra t range room passed;
    tso = tso;
    plain = no-store-named asked most extra t range room passed;
  }
