-- A table with the fences of a set turned: what isn't a flag stays.
use Prim.Native.Nat.{ℕ, ◌≤◌, ◌<◌}
use native.Mathlib.Omega.{arith}
use mathlib.Core.Path.{◌≡◌, refl, sym, ap, ◌∙◌, fun_ext}
use mathlib.Core.Bool.{Bool, true, false}
use mathlib.Core.List.{List}
use lib.ListN.{length, get_or-eq_default}
use lib.Dec.{ltb}
use borrow.Author.Tests.{ltb-true, ltb-false}
use Rattle.lists.specs.Lists.{has}
use Rattle.lists.specs.Below.{some}
use Rattle.lists.specs.Filled.{up_to}
use Rattle.lists.proofs.FilledLaws.{get_or-up_to, length-up_to}
use Rattle.table.specs.declared.Event.{Event}
use Rattle.table.specs.declared.Table.{Table}
use Rattle.table.specs.Events.{event, kind, reads, writes, memory, memory_kind, no_event}
use Rattle.advice.specs.Advice.{turned, with_fences}

module _ (t : Table) (s : List ℕ) where
  -- an event of the table, or past its slots
  event-turned : (k : ℕ) → k < length t.events → event (with_fences t s) k ≡ turned (has k s) (event t k)
  unfolding event with_fences
  event-turned k l = get_or-up_to (length t.events) (λ j. turned (has j s) (event t j)) k no_event l

  event-past : (k : ℕ) → length t.events ≤ k → event (with_fences t s) k ≡ event t k
  unfolding event with_fences
  event-past k l =
      get_or-eq_default (up_to (length t.events) (λ j. turned (has j s) (event t j))) no_event
      (omega (arith, length-up_to (length t.events) (λ j. turned (has j s) (event t j))))
      ∙ sym (get_or-eq_default t.events no_event l)

  -- what is told of an event without its flags stays
  pub field-stays : {A : Type 0} (field : Event → A) → ((b : Bool) (e : Event) → field (turned b e) ≡ field e) →
      (k : ℕ) → field (event (with_fences t s) k) ≡ field (event t k)
  field-stays field same k = go (ltb k (length t.events)) refl
    where
      go : (b : Bool) → ltb k (length t.events) ≡ b → field (event (with_fences t s) k) ≡ field (event t k)
      go true e = ap field (event-turned k (ltb-true k (length t.events) e)) ∙ same (has k s) (event t k)
      go false e = ap field (event-past k (omega (arith, ltb-false k (length t.events) e)))

  pub kinds-stay : kind (with_fences t s) ≡ kind t
  unfolding kind
  kinds-stay = fun_ext (field-stays (λ e. e.kind) same)
    where
      same : (b : Bool) (e : Event) → (turned b e).kind ≡ e.kind
      same true e = refl
      same false e = refl

  -- and so do the memory events
  pub memory-stays : some t.count (memory (with_fences t s)) ≡ some t.count (memory t)
  unfolding memory reads writes
  memory-stays = ap (λ (kind_of : ℕ → ℕ). some t.count (λ e. memory_kind (kind_of e))) kinds-stay
