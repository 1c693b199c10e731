-- What the readers' answers say of the definitions.
use Rattle.std.specs.Prelude.{ℕ, suc, ◌+◌, ◌≤◌, ◌<◌, ◌≡◌, Bool, true, false, List, [], ◌∷◌, Result, Ok, Err, length, get_or, drop, eqb}
use Rattle.lists.specs.Filled.{up_to}
use Rattle.edition.specs.Limits.{max_locations}
use Rattle.table.specs.Events.{capacity}
use Rattle.text_format.specs.Bytes.{newline, space}
use Rattle.text_format.specs.Document.{field_bounds}
use Rattle.text_format.specs.Reading.{Read, got, and_then, word, number, line, event_lines, values}
use Rattle.condition_reader.specs.declared.Breach.{Breach}
use Rattle.condition_reader.specs.declared.Number.{Number}
use Rattle.condition_reader.specs.Steps.{Broke}
use Rattle.text_lines.specs.declared.EventLine.{EventLine}
use Rattle.text_lines.specs.declared.EventLines.{EventLines}
use Rattle.text_lines.specs.declared.InitialValues.{InitialValues}
use Rattle.text_lines.specs.Lines.{event_of}

-- the byte behind a number of a line: the last, or another
abbrev pub separator : Bool → ℕ
separator true = newline
separator false = space

-- a number, and the byte behind it
unfoldable pub field : (most behind : ℕ) → List ℕ → Read ℕ
field most behind s = and_then (number most s) (λ v r. and_then (word (behind ∷ []) r) (λ _ t. got v t))

-- field i of an event line
unfoldable pub field_at : ℕ → List ℕ → Read ℕ
field_at i s = field (get_or field_bounds i 0) (separator (eqb (i + 1) (length field_bounds))) s

-- the number of field i and the place behind it; or the breach
abbrev pub FieldSays : (s : List ℕ) (from i : ℕ) → Result Number Breach → Type 0
FieldSays s from i (Ok n) = (field_at i (drop from s) ≡ got n.value (drop n.next s)) × (n.next ≤ length s) × (from < n.next)
FieldSays s from i (Err b) = Broke s (field_at i (drop from s)) b

-- an event line
abbrev pub LineSays : (s : List ℕ) (from : ℕ) → Result EventLine Breach → Type 0
LineSays s from (Ok e) =
    (l : List ℕ) × (line field_bounds (drop from s) ≡ got l (drop e.next s)) × (e.event ≡ event_of l)
    × (e.next ≤ length s) × (from < e.next)
LineSays s from (Err b) = Broke s (line field_bounds (drop from s)) b

-- all event lines of a text, and the events that are kept
abbrev pub LinesSay : (s : List ℕ) → Result EventLines Breach → Type 0
LinesSay s (Ok r) =
    (ls : List (List ℕ)) × (event_lines (suc (length s)) s ≡ got ls (drop r.next s)) × (r.count ≡ length ls)
    × (r.events ≡ up_to capacity (λ k. event_of (get_or ls k []))) × (r.next ≤ length s)
LinesSay s (Err b) = Broke s (event_lines (suc (length s)) s) b

-- the initial values from a place on, and those that are kept
abbrev pub ValuesSay : (s : List ℕ) (from : ℕ) → Result InitialValues Breach → Type 0
ValuesSay s from (Ok r) =
    (vs : List ℕ) × (values (suc (length (drop from s))) (drop from s) ≡ got vs (drop r.next s)) × (r.count ≡ length vs)
    × (r.initial ≡ up_to max_locations (λ x. get_or vs x 0)) × (r.next ≤ length s)
ValuesSay s from (Err b) = Broke s (values (suc (length (drop from s))) (drop from s)) b
