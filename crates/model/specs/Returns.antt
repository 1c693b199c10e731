-- "The rules": what an order (the global memory order, gmo) makes each reader return.
use Rattle.std.specs.Prelude.{ℕ, Bool, cond, ◌&&◌, ◌||◌, not, List, get_or, eqb}
use Rattle.lists.specs.Lists.{before, last_or}
use Rattle.lists.specs.Filled.{up_to}
use Rattle.table.specs.declared.Table.{Table}
use Rattle.table.specs.Events.{event, location, reads, writes, same_location, po}
use Rattle.model.specs.Rules.{nothing, initially, from}

-- writers to the reader's location "that precede it in the order or in program order, never itself"
unfoldable pub visible : Table → List ℕ → ℕ → ℕ → Bool
visible t gmo r w = writes t w && same_location t w r && not (eqb w r) && (before gmo w r || po t w r)

-- "a reader returns from the latest in the order among" them; "Initial writes .. precede everything."
unfoldable pub return_of : Table → List ℕ → ℕ → ℕ
return_of t gmo r = last_or (visible t gmo r) initially gmo

-- an entry of "the returned list that an order determines"
unfoldable pub return_entry : Table → List ℕ → ℕ → ℕ
return_entry t gmo e = cond (reads t e) (return_of t gmo e) nothing

unfoldable pub returns : Table → List ℕ → List ℕ
returns t gmo = up_to t.count (return_entry t gmo)

-- the initial value of location x
unfoldable pub initial_value : Table → ℕ → ℕ
initial_value t x = get_or t.initial x 0

-- the value that the write w (or the initial write) leaves at location x, as it is stated
unfoldable pub written_value : Table → ℕ → ℕ → ℕ
written_value t x w = cond (eqb w initially) (initial_value t x) (event t w).written

-- "the location's last write"; the initial one if nothing writes to it
abbrev pub last_write : Table → List ℕ → ℕ → ℕ
last_write t gmo x = last_or (λ w. writes t w && eqb (location t w) x) initially gmo

-- The values that are read and that are left at the end; left x w: what the write w leaves at location x.
module _ (t : Table) (left : ℕ → ℕ → ℕ) where
  -- the value that reader r returns
  abbrev pub value_read : List ℕ → ℕ → ℕ
  value_read rf r = left (location t r) (from rf r)

  -- the value of location x at the end
  abbrev pub value_at_end : List ℕ → ℕ → ℕ
  value_at_end gmo x = left x (last_write t gmo x)

-- "that of the location's last write", as it is stated
unfoldable pub final_value : Table → List ℕ → ℕ → ℕ
final_value t gmo x = value_at_end t (written_value t) gmo x
