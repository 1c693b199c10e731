-- "The block": what an event of a table is, and program order.
use Rattle.std.specs.Prelude.{ℕ, Bool, ◌&&◌, ◌||◌, not, List, length, get_or, eqb, ltb}
use Rattle.lists.specs.Below.{below, some}
use Rattle.lists.specs.Lists.{keep}
use Rattle.masks.specs.MaskOf.{mask_of}
use Rattle.table.specs.declared.Event.{Event}
use Rattle.table.specs.declared.Table.{Table}

-- "Kinds: 1 load, 2 store, 3 AMO, 4 LR, 5 SC, 6 fence, 7 fence.tso."
abbrev pub load : ℕ
load = 1

abbrev pub store : ℕ
store = 2

abbrev pub amo : ℕ
amo = 3

abbrev pub lr : ℕ
lr = 4

abbrev pub sc : ℕ
sc = 5

abbrev pub fence : ℕ
fence = 6

abbrev pub fencetso : ℕ
fencetso = 7

-- "Kinds 1, 3, 4 read"
abbrev pub reading_kind : ℕ → Bool
reading_kind k = eqb k load || eqb k amo || eqb k lr

-- "kinds 2, 3, 5 write. An AMO is one event that does both."
abbrev pub writing_kind : ℕ → Bool
writing_kind k = eqb k store || eqb k amo || eqb k sc

-- a memory event reads or writes
abbrev pub memory_kind : ℕ → Bool
memory_kind k = reading_kind k || writing_kind k

abbrev pub fencing_kind : ℕ → Bool
fencing_kind k = eqb k fence || eqb k fencetso

-- the number of slots of a table
abbrev pub capacity : ℕ
capacity = 32

-- a slot past the events: all fields zero
abbrev pub no_event : Event
no_event =
    record {
      kind = 0;
      hart = 0;
      location = record { 0 = 0 };
      flags = 0;
      addr = 0;
      «data» = 0;
      ctrl = 0;
      read = 0;
      written = 0;
      operation = 0;
      operand = 0;
    }

-- event k of the table
unfoldable pub event : Table → ℕ → Event
event t k = get_or t.events k no_event

unfoldable pub kind : Table → ℕ → ℕ
kind t e = (event t e).kind

unfoldable pub hart : Table → ℕ → ℕ
hart t e = (event t e).hart

unfoldable pub location : Table → ℕ → ℕ
location t e = (event t e).location.0

unfoldable pub reads : Table → ℕ → Bool
reads t e = reading_kind (kind t e)

unfoldable pub writes : Table → ℕ → Bool
writes t e = writing_kind (kind t e)

unfoldable pub memory : Table → ℕ → Bool
memory t e = reads t e || writes t e

-- both touch one location
unfoldable pub same_location : Table → ℕ → ℕ → Bool
same_location t a b = eqb (location t a) (location t b)

-- "Program order is table order within a hart": a is earlier on the same hart
unfoldable pub po : Table → ℕ → ℕ → Bool
po t a b = ltb a b && eqb (hart t a) (hart t b)

-- m is strictly between a and b in program order
unfoldable pub between : Table → ℕ → ℕ → ℕ → Bool
between t a m b = po t a m && po t m b

-- the memory events of the table, ascending
unfoldable pub memory_events : Table → List ℕ
memory_events t = keep (memory t) (below t.count)

-- "M (the number of memory events)"
unfoldable pub memory_count : Table → ℕ
memory_count t = length (memory_events t)

-- the mask of the memory events
unfoldable pub memory_mask : Table → ℕ
memory_mask t = mask_of (memory_events t)

-- m is an LR or SC strictly between a and b
unfoldable pub reserves : Table → ℕ → ℕ → ℕ → Bool
reserves t a b m = between t a m b && (eqb (kind t m) lr || eqb (kind t m) sc)

-- LR a is paired with SC b: it is b's nearest earlier LR or SC on its hart
unfoldable pub paired : Table → ℕ → ℕ → Bool
paired t a b = po t a b && eqb (kind t a) lr && eqb (kind t b) sc && not (some t.count (reserves t a b))
