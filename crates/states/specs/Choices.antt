-- Which events need be tried from a state. Each test is of the state alone; how a set was found is of no account.
use Rattle.std.specs.Prelude.{ℕ, Bool, ◌&&◌, ◌||◌, not, ltb}
use Rattle.lists.specs.Below.{some, every}
use Rattle.masks.specs.Bit.{bit}
use Rattle.table.specs.declared.Table.{Table}
use Rattle.table.specs.Events.{reads, writes, memory, same_location}
use Rattle.model.specs.Rules.{static_ppo}
use Rattle.model.specs.Witness.{is_memory_event}
use Rattle.placing.specs.Guards.{ready, forwarder}
use Rattle.order_facts.specs.Facts.{needed, opens, guards, right, reads_good, peers, wrong}
use Rattle.states.specs.declared.State.{State}

module _ (t : Table) (placed : ℕ → Bool) where
  -- v isn't placed, and a writer that is still to come may meet its window
  unfoldable pub watched : ℕ → Bool
  watched v = not (placed v) && some t.count (λ w. not (placed w) && guards t w v)

  -- eager reader: e only reads, and opens no window that a writer may meet
  unfoldable pub quiet_reader : ℕ → Bool
  quiet_reader e = not (writes t e) && not (some t.count (λ v. watched v && opens t v e))

  -- a is a memory event at e's location that isn't placed
  unfoldable pub beside : ℕ → ℕ → Bool
  beside e a = memory t a && same_location t a e && not (placed a)

  -- e reads, and its forwarder needs a, which isn't placed, before it is returned from
  unfoldable pub lacks : ℕ → ℕ → Bool
  lacks e a = reads t e && ltb (forwarder t placed e) t.count && needed t (forwarder t placed e) a && not (placed a)

  -- a steady predecessor of e is missing, and is one of the set
  unfoldable pub waits_inside : (ℕ → Bool) → ℕ → Bool
  waits_inside set e = some t.count (λ a. static_ppo t a e && not (placed a) && set a)

  -- all that could disturb e is in the set
  unfoldable pub closed_at : (ℕ → Bool) → ℕ → Bool
  closed_at set e = every t.count (λ a. not (beside e a || lacks e a) || set a)

  -- persisting set: events that aren't placed, one of which comes before all that could disturb it
  unfoldable pub persists : (ℕ → Bool) → Bool
  persists set =
      some t.count set
      && every t.count (λ e. not (set e)
      || is_memory_event t e && not (placed e) && (waits_inside set e || ready t placed e && closed_at set e))

  -- look-ahead: r isn't placed and would misread now, and no writer that is still to come has its value
  unfoldable pub lost_read : (ℕ → Bool) → ℕ → Bool
  lost_read now r =
      reads t r && not (placed r) && not (reads_good t placed now r) && not (some t.count (λ w. not (placed w) && right t w r))

  -- look-ahead: w is still to come and writes a wrong final value, and so do all others to its location that are
  unfoldable pub lost_final : ℕ → Bool
  lost_final w = wrong t w && not (placed w) && every t.count (λ v. not (peers t w v && not (placed v)) || wrong t v)

-- some stated value can't come about any more
unfoldable pub lost : Table → State → Bool
lost t s =
    some t.count (lost_read t (bit s.placed) (bit s.good)) || some t.count (lost_final t (bit s.placed))
