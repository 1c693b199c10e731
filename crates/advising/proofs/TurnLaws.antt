-- Turning the fences of a mask, event by event.
use Prim.Native.Nat.{ℕ, ◌≤◌, ◌<◌}
use mathlib.Core.Path.{◌≡◌, sym, ap, ◌∙◌}
use mathlib.Core.Bool.{Bool, ◌&&◌}
use mathlib.Core.List.{List}
use lib.ListN.{length, take}
use borrow.Author.Tests.{lt-ltb}
use Rattle.lists.specs.Lists.{has}
use Rattle.lists.specs.Filled.{up_to}
use Rattle.lists.proofs.MemberLaws.{kept-has}
use Rattle.lists.proofs.FilledLaws.{up_to-done}
use Rattle.masks.specs.Bit.{bit}
use Rattle.table.specs.declared.Event.{Event}
use Rattle.table.specs.declared.Table.{Table}
use Rattle.table.specs.Events.{capacity, event}
use Rattle.advice.specs.Advice.{turned, with_fences}
use Rattle.advising.specs.Chosen.{events_in}

module _ (t : Table) (set : ℕ) where
  -- event k is turned if its bit is set
  pub turned_as : (k : ℕ) → k < capacity → {b : Bool} {v : Event} → b ≡ bit set k → v ≡ turned b (event t k) →
      v ≡ turned (has k (events_in set)) (event t k)
  turned_as k h e q =
      q ∙ ap (λ (c : Bool). turned c (event t k)) (e ∙ sym (kept-has (bit set) capacity k ∙ ap (λ (c : Bool). c && bit set k) (lt-ltb k capacity h)))

  -- once all are, the table is the one with the fences turned
  pub with-events : (events : List Event) (k : ℕ) → take k events ≡ up_to k (λ j. turned (has j (events_in set)) (event t j)) →
      capacity ≤ k → k ≤ capacity → length events ≡ capacity → length t.events ≡ capacity →
      ◌≡◌ {A = Table} (record { harts = t.harts; locations = t.locations; count = t.count; stated = t.stated; model = t.model; initial = t.initial; events = events; finals = t.finals })
      (with_fences t (events_in set))
  unfolding with_fences
  with-events events k e h l n q =
      ap (λ (es : List Event). record { harts = t.harts; locations = t.locations; count = t.count; stated = t.stated; model = t.model; initial = t.initial; events = es; finals = t.finals })
      (up_to-done _ events k capacity e h l n ∙ ap (λ (m : ℕ). up_to m (λ j. turned (has j (events_in set)) (event t j))) (sym q))
