-- The first witness that is greater than a list, by runs.
use Prim.Native.Nat.{ℕ}
use mathlib.Core.Path.{◌≡◌, sym, ap, ◌∙◌}
use mathlib.Core.Bool.{true, false}
use mathlib.Core.List.{List}
use mathlib.Core.Option.{none, some as just}
use lib.ListN.{length}
use lib.Dec.{eqb}
use Rattle.lists.specs.Below.{some}
use Rattle.lists.specs.Lists.{◌∈◌, distinct, keep}
use Rattle.lists.specs.Ascending.{less, Ascending}
use Rattle.lists.proofs.BoolLaws.{not-either}
use Rattle.lists.proofs.AscendingLaws.{ascending-keep}
use Rattle.table.specs.declared.Table.{Table}
use Rattle.table.specs.Events.{memory_count}
use Rattle.model.specs.Witness.{witness}
use Rattle.model.specs.Prefixes.{prefixes_by, orders, witnesses}
use Rattle.model.proofs.PrefixLaws.{passing-ascending, witnesses-each}
use Rattle.placing.specs.GoodTable.{GoodTable}
use Rattle.order_facts.specs.Facts.{unmet}
use Rattle.states.specs.States.{start, runs}
use Rattle.states.specs.Completions.{LeastAbove, NoneAbove}
use Rattle.states.specs.Decisions.{first}
use Rattle.states.proofs.LeastLaws.{less-nil, first_above, none_first}
use Rattle.states.proofs.RunLaws.{witness-runs, unmet-none}

pub witnesses-ascending : (t : Table) → Ascending (witnesses t)
unfolding witnesses orders
witnesses-ascending t =
    ascending-keep (witness t) (orders t)
    (ascending-keep (λ p. eqb (length p) (memory_count t)) (prefixes_by t distinct) (passing-ascending t distinct))

module _ (t : Table) (fit : GoodTable t) (p : List ℕ) where
  module _ (met : some t.locations (unmet t) ≡ false) where
    -- a witness that is listed is a run
    listed-runs : (q : List ℕ) → q ∈ witnesses t → runs t (start t) q ≡ true
    listed-runs q m = sym (witness-runs t fit met q) ∙ ((witnesses-each t q).0 m).1

    -- a run that is greater than a list isn't empty, so it is listed
    run-listed : (q : List ℕ) → runs t (start t) q ≡ true → less p q ≡ true → q ∈ witnesses t
    run-listed q r g =
        (witnesses-each t q).1
        ((λ e. not-either _ g (ap (less p) e ∙ less-nil p)), witness-runs t fit met q ∙ r)

    pub decision-found : (w : List ℕ) → LeastAbove t (start t) p w → first (keep (less p) (witnesses t)) ≡ just w
    decision-found w h =
        first_above (witnesses t) p w (witnesses-ascending t) (run-listed w h.run h.above) h.above
        (λ q m g. h.least q (listed-runs q m) g)

    pub decision-none : NoneAbove t (start t) p → first (keep (less p) (witnesses t)) ≡ none
    decision-none h = none_first (witnesses t) p (λ q m. h q (listed-runs q m))

  -- a stated final value that can't be
  pub decision-unmet : some t.locations (unmet t) ≡ true → first (keep (less p) (witnesses t)) ≡ none
  decision-unmet h =
      none_first (witnesses t) p (λ q m. absurd (not-either _ ((witnesses-each t q).0 m).1 (unmet-none t fit h q)))
