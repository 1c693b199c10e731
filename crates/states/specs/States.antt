-- Deciding by states. What can follow the first entries of a witness depends only on which events are placed, and on which of the
-- others would return their stated value from memory: two masks. The words are those of `placing` and `order_facts`.
use Rattle.std.specs.Prelude.{ℕ, ◌^◌, Bool, ◌&&◌, ◌||◌, not, List, [], ◌∷◌}
use Rattle.std.specs.Int.Bits.{bit_and, bit_or, bit_xor}
use Rattle.lists.specs.Below.{some, every}
use Rattle.masks.specs.Bit.{bit}
use Rattle.table.specs.declared.Table.{Table}
use Rattle.table.specs.Events.{memory}
use Rattle.model.specs.Returns.{initial_value}
use Rattle.model.specs.Witness.{is_memory_event}
use Rattle.placing.specs.Guards.{ready, may_place}
use Rattle.order_facts.specs.Facts.{mask_by, here, right, good, reads_good, peers, wrong}
use Rattle.states.specs.declared.State.{State}

-- if e writes a wrong final value, another writer to its location is still to come
unfoldable pub ends_well : Table → (placed : ℕ → Bool) → ℕ → Bool
ends_well t placed e = not (wrong t e) || some t.count (λ v. peers t e v && not (placed v))

-- e may be placed next
unfoldable pub accepts : Table → State → ℕ → Bool
accepts t s e =
    is_memory_event t e && not (bit s.placed e) && ready t (bit s.placed) e && may_place t (bit s.placed) e
    && reads_good t (bit s.placed) (bit s.good) e && ends_well t (bit s.placed) e

-- the bits of a that b doesn't have
abbrev pub without : ℕ → ℕ → ℕ
without a b = bit_xor a (bit_and a b)

-- nothing is placed; at each location is its initial value
unfoldable pub start : Table → State
start t = record { placed = 0; good = mask_by t (good t (initial_value t)) }

-- e is placed
unfoldable pub step : Table → State → ℕ → State
step t s e = record {
  placed = bit_or s.placed (2 ^ e);
  good = without (bit_or (without s.good (mask_by t (here t e))) (mask_by t (right t e))) (bit_or s.placed (2 ^ e));
}

-- every memory event is placed
unfoldable pub ends : Table → State → Bool
ends t s = every t.count (λ e. not (memory t e) || bit s.placed e)

-- the events of the list may be placed one after the other, from s to an end
unfoldable pub runs : Table → State → List ℕ → Bool
runs t s [] = ends t s
runs t s (e ∷ l) = accepts t s e && runs t (step t s e) l
