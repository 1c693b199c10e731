-- What the words of the rows are, of a table that has these facts; what the last write to a location leaves.
use Prim.Native.Nat.{ℕ, zero, suc, ◌+◌, ◌*◌, ◌%◌, ◌^◌, ◌≤◌, ◌<◌}
use native.Mathlib.Omega.{arith}
use native.Mathlib.Nat.{mod-eq_of_lt}
use mathlib.Core.Path.{◌≡◌, refl, sym, ap, subst, ◌∙◌}
use mathlib.Core.Bool.{Bool, true, ◌&&◌}
use mathlib.Core.List.{List, [], ◌∷◌}
use mathlib.Core.Logic.{⊎_elim}
use lib.ListN.{get_or, take}
use lib.Seq.{take-take}
use lib.Dec.{eqb, ltb}
use borrow.Author.Tests.{eqb-true, ltb-true}
use Rattle.lists.specs.Lists.{all, has, last_or}
use Rattle.lists.proofs.BoolLaws.{and_l, and_r}
use Rattle.lists.proofs.ListLaws.{all-has}
use Rattle.lists.proofs.KeepLaws.{all-weaken}
use Rattle.lists.proofs.LastLaws.{last-same}
use Rattle.lists.proofs.LatestLaws.{last-either}
use Rattle.lists.proofs.PaddedLaws.{padded-at}
use Rattle.masks.specs.Bit.{bit}
use Rattle.table.specs.declared.Table.{Table}
use Rattle.table.specs.Events.{capacity, event, location, writes, memory}
use Rattle.model.specs.Rules.{initially}
use Rattle.model.specs.Returns.{initial_value, last_write}
use Rattle.model.specs.Witness.{is_memory_event, is_order}
use Rattle.placing.proofs.KeptLaws.{event-initial}
use Rattle.order_facts.specs.Facts.{mask_by}
use Rattle.fact_rows.specs.FactRows.{mask, Facts}
use Rattle.fact_rows.specs.ValueRows.{Values, written_row, action_row, writer_row, initial_row}
use Rattle.order_test.specs.Testing.{Fitting}
use Rattle.order_test.proofs.TellLaws.{mask-bit}
use Rattle.order_values.specs.ByFacts.{left_or, last_left, place_of}

-- what every entry of a list passes the first of them do
pub all_first : (p : ℕ → Bool) (l : List ℕ) (n : ℕ) → all p l ≡ true → all p (take n l) ≡ true
all_first p l zero h = refl
all_first p [] (suc n) h = refl
all_first p (x ∷ l) (suc n) h = rw (and_l (p x) (all p l) h) (all_first p l n (and_r (p x) (all p l) h))

-- fewer entries fit too
pub fitting-first : (order : List ℕ) (len n : ℕ) → Fitting order len → n ≤ len → Fitting order n
fitting-first order len n fit l = record {
  long = fit.long;
  within = omega (arith, fit.within);
  fitting =
      ap (all (λ e. ltb e capacity)) (sym (take-take n len order l))
      ∙ all_first (λ e. ltb e capacity) (take len order) n fit.fitting;
}

-- the entries of an order are events
pub order-events : (t : Table) (gmo : List ℕ) → is_order t gmo ≡ true → all (λ e. ltb e t.count) gmo ≡ true
unfolding is_order is_memory_event
order-events t gmo o =
    all-weaken (is_memory_event t) (λ e. ltb e t.count) gmo (λ e h. and_l (ltb e t.count) (memory t e) h) (and_l _ _ o)

module _ {t : Table} {facts : List (List ℕ)} (f : Facts t facts) (v : Values t facts) where
  -- Event e.
  module _ (e : ℕ) (l : e < t.count) where
    room : t.count ≤ capacity
    room = omega (arith, f.table.small.events)

    pub place_is : place_of facts e ≡ location t e
    place_is =
        ap (λ (r : List ℕ). get_or r e 0 % capacity) v.places
        ∙ ap (λ (x : ℕ). x % capacity) (padded-at (location t) capacity t.count e room l)
        ∙ mod-eq_of_lt (omega (arith, f.table.small.each-location e l))

    pub written_is : mask facts written_row e ≡ (event t e).written
    written_is =
        ap (λ (r : List ℕ). get_or r e 0) v.written ∙ padded-at (λ e. (event t e).written) capacity t.count e room l

    pub action-is : mask facts action_row e ≡ (event t e).operation + 256 * (event t e).operand
    action-is =
        ap (λ (r : List ℕ). get_or r e 0) v.actions
        ∙ padded-at (λ e. (event t e).operation + 256 * (event t e).operand) capacity t.count e room l

  -- Location x.
  module _ (x : ℕ) (l : x < t.locations) where
    wide : t.locations ≤ capacity
    wide = omega (arith, f.table.small.locations)

    pub writer-bit : (w : ℕ) → w < t.count → bit (mask facts writer_row x) w ≡ (writes t w && eqb (location t w) x)
    writer-bit w h =
        ap (λ (r : List ℕ). bit (get_or r x 0) w) v.writers
        ∙ ap (λ (m : ℕ). bit m w)
        (padded-at (λ x. mask_by t (λ w. writes t w && eqb (location t w) x)) capacity t.locations x wide l)
        ∙ mask-bit t (λ w. writes t w && eqb (location t w) x) w h

    pub initial-is : mask facts initial_row x ≡ initial_value t x
    initial-is =
        ap (λ (r : List ℕ). get_or r x 0) v.initial ∙ padded-at (initial_value t) capacity t.locations x wide l

    -- it is told by the mask
    pub last-writer : (p : List ℕ) → all (λ e. ltb e t.count) p ≡ true →
        last_or (bit (mask facts writer_row x)) initially p ≡ last_write t p x
    last-writer p events =
        last-same (λ e. ltb e t.count) (bit (mask facts writer_row x)) (λ w. writes t w && eqb (location t w) x) initially p
        events (λ w h. writer-bit w (ltb-true w t.count h))

    -- The last of some events that write to it.
    module _ (p : List ℕ) (events : all (λ e. ltb e t.count) p ≡ true) (left : List ℕ) where
      last-is : last_left facts left p x ≡ left_or left (initial_value t x) (last_write t p x)
      unfolding last_left
      last-is =
          ap (λ (d : ℕ). left_or left d (last_or (bit (mask facts writer_row x)) initially p)) initial-is
          ∙ ap (left_or left (initial_value t x)) (last-writer p events)

      inside : (w : ℕ) → has w p ≡ true → w < t.count
      inside w h = ltb-true w t.count (all-has (λ e. ltb e t.count) p w events h)

      -- it leaves a value, if the initial write and each of those does
      pub last-told : (value : ℕ → ℕ) → value initially ≡ initial_value t x →
          ((w : ℕ) → has w p ≡ true → w < t.count → writes t w ≡ true → location t w ≡ x → get_or left w 0 ≡ value w) →
          last_left facts left p x ≡ value (last_write t p x)
      last-told value i each =
          last-is ∙ ⊎_elim
          (λ (q : last_write t p x ≡ initially). ap (left_or left (initial_value t x)) q ∙ sym i ∙ ap value (sym q))
          (λ q.
          let w = last_write t p x in
          let n = inside w q.0 in
          rw (event-initial t f.table.small w n)
          (each w q.0 n (and_l (writes t w) _ q.1) (eqb-true _ x (and_r (writes t w) _ q.1))))
          (last-either (λ w. writes t w && eqb (location t w) x) initially p)

      pub last-narrow : ((w : ℕ) → w < t.count → get_or left w 0 < 2 ^ 16) → last_left facts left p x < 2 ^ 16
      last-narrow each =
          subst (λ (y : ℕ). y < 2 ^ 16) (sym last-is) (⊎_elim
          (λ (q : last_write t p x ≡ initially).
          subst (λ (w : ℕ). left_or left (initial_value t x) w < 2 ^ 16) (sym q) (v.narrow.initial x l))
          (λ q.
          let n = inside (last_write t p x) q.0 in
          rw (event-initial t f.table.small (last_write t p x) n) (each (last_write t p x) n))
          (last-either (λ w. writes t w && eqb (location t w) x) initially p))
