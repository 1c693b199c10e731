-- "Where is the missing fence?", of a table that was read.
use Rattle.std.specs.Prelude.{ℕ, Bool, true, false, ◌&&◌, List, [], ◌∷◌, length, eqb, ltb}
use Rattle.lists.specs.Below.{below}
use Rattle.lists.specs.Lists.{keep, has}
use Rattle.lists.specs.Filled.{up_to}
use Rattle.table.specs.declared.Event.{Event}
use Rattle.table.specs.declared.Table.{Table}
use Rattle.table.specs.Events.{event, kind, fence}
use Rattle.table.specs.Annotations.{flags}
use Rattle.prefixes.specs.Answer.{Answer, found, none_left, spent}
use Rattle.model.specs.Prefixes.{search}
use Rattle.advice.specs.Sets.{by_size}

-- e is one of the "ordinary fences with all bits clear"
unfoldable pub clear_fence : Table → ℕ → Bool
clear_fence t e = eqb (kind t e) fence && eqb (flags t e) 0

-- all of them, ascending
unfoldable pub clear_fences : Table → List ℕ
clear_fences t = keep (clear_fence t) (below t.count)

-- "a table may hold up to eight .. more is refusal 22"
abbrev pub most_fences : ℕ
most_fences = 8

unfoldable pub line22 : Table → Bool
line22 t = ltb most_fences (length (clear_fences t))

-- "turned to all four bits": pr, pw, sr and sw
abbrev pub turned : Bool → Event → Event
turned true e =
    record {
      kind = e.kind;
      hart = e.hart;
      location = e.location;
      flags = 15;
      addr = e.addr;
      «data» = e.«data»;
      ctrl = e.ctrl;
      read = e.read;
      written = e.written;
      operation = e.operation;
      operand = e.operand;
    }
turned false e = e

-- the table with the fences of a set turned
unfoldable pub with_fences : Table → List ℕ → Table
with_fences t s =
    record {
      harts = t.harts;
      locations = t.locations;
      count = t.count;
      stated = t.stated;
      model = t.model;
      initial = t.initial;
      events = up_to (length t.events) (λ k. turned (has k s) (event t k));
      finals = t.finals;
    }

-- each set "searched afresh with the given allowance by the first engine"
unfoldable pub search_with : Table → ℕ → List ℕ → Answer
search_with t b s = search (with_fences t s) [] b

pub data Advice : Type 0 where
  advised : List ℕ → Advice
  undecided : List ℕ → Advice
  fences_dont_help : Advice

-- "none left gives that set as advice, spent gives "undecided" with that set"; found leaves it to the others
abbrev pub decided_by : Answer → List ℕ → Advice → Advice
decided_by (found p v) s others = others
decided_by (none_left v) s others = advised s
decided_by (spent p v) s others = undecided s

-- "The first set whose answer isn't "found" decides .. If every set gives "found", the answer is "fences don't help"."
unfoldable pub first_unfound : (List ℕ → Answer) → List (List ℕ) → Advice
first_unfound answer_of [] = fences_dont_help
first_unfound answer_of (s ∷ l) = let others = first_unfound answer_of l in decided_by (answer_of s) s others

unfoldable pub advice : Table → ℕ → Advice
advice t b = first_unfound (search_with t b) (by_size (clear_fences t))
