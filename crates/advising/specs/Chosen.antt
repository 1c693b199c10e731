-- Sets as masks: of a table's events, and of a list's entries, as the code goes through them.
use Rattle.std.specs.Prelude.{ℕ, zero, suc, List, [], ◌∷◌, length}
use Rattle.lists.specs.Below.{below}
use Rattle.lists.specs.Lists.{kept, keep}
use Rattle.masks.specs.Bit.{bit}
use Rattle.table.specs.Events.{capacity}

-- the events of a mask, ascending: event e if bit e is set
abbrev pub events_in : ℕ → List ℕ
events_in m = keep (bit m) (below capacity)

-- the entries of a list that the mask m chooses: the first entry by the highest bit, the last by bit 0
unfoldable pub chosen : List ℕ → ℕ → List ℕ
chosen [] m = []
chosen (x ∷ l) m = kept (bit m (length l)) x (chosen l m)

-- n - 1, .. , 1, 0
unfoldable pub down_from : ℕ → List ℕ
down_from zero = []
down_from (suc n) = n ∷ down_from n
