-- What the answers of the readers and of the tests say of the definitions.
use Rattle.std.specs.Prelude.{ℕ, ◌/◌, ◌%◌, ◌≤◌, ◌<◌, max, ◌≡◌, Bool, false, cond, not, ◌&&◌, ◌||◌, List, [], ◌∷◌, ◌++◌, Result, Ok, Err, IfOk, map, length, get_or, take, drop, replicate, eqb, leb}
use Rattle.lists.specs.Lists.{any}
use Rattle.masks.specs.Bit.{bit}
use Rattle.edition.specs.Limits.{two, most_events, max_locations}
use Rattle.table.specs.declared.Event.{Event}
use Rattle.table.specs.declared.Table.{Table}
use Rattle.table.specs.Events.{capacity, event, reading_kind}
use Rattle.table.specs.Annotations.{rvwmo}
use Rattle.refusals.specs.Lines.{Refused, Line, whole, first_line, unless}
use Rattle.refusals.specs.TableLines.{text_line7, line21, table_lines_by}
use Rattle.block.specs.Reading.{no_table}
use Rattle.text_format.specs.Bytes.{newline}
use Rattle.text_format.specs.Condition.{Condition, max_levels}
use Rattle.text_format.specs.Reading.{Read, got, breach, and_then, word, condition, document}
use Rattle.lists.specs.Filled.{up_to}
use Rattle.condition_reader.specs.Words.{returns_node, ends_node, code, max_words}
use Rattle.condition_reader.specs.Steps.{refusal_in, place_in, Broke}
use Rattle.condition_reader.specs.declared.Breach.{Breach}
use Rattle.text_lines.specs.Lines.{event_of}
use Rattle.text.specs.declared.Parts.{Parts}
use Rattle.text.specs.declared.TextReading.{TextReading}
use Rattle.text.specs.declared.TextRefusal.{TextRefusal}
use Rattle.text.specs.Texts.{covering}
use Rattle.text.specs.TextRefusals.{text_refused_by, text_table_of}

-- nothing may follow
abbrev pub last : Condition → List ℕ → Read Condition
last c [] = got c []
last c (b ∷ s) = breach 19 (b ∷ s)

-- the newline behind a condition, and the end of the text
unfoldable pub closing : Condition → List ℕ → Read Condition
closing c s = and_then (word (newline ∷ []) s) (λ _ t. last c t)

-- a condition, which ends the text
unfoldable pub outcome_in : List ℕ → Read Condition
outcome_in s = and_then (condition max_levels s) closing

-- from a place on the text is closed; or the first breach
abbrev pub ClosingSays : {A : Type 0} → (s : List ℕ) (at : ℕ) → Result A Breach → Type 0
ClosingSays s at (Ok a) = (c : Condition) → closing c (drop at s) ≡ got c []
ClosingSays s at (Err b) = ((c : Condition) → closing c (drop at s) ≡ breach (refusal_in b) (drop (place_in b) s)) × (place_in b ≤ length s)

-- the words of the condition that ends the text; or the first breach
abbrev pub OutcomeSays : (s : List ℕ) (from : ℕ) (words : List ℕ) → Result ℕ Breach → Type 0
OutcomeSays s from words (Ok len) =
    (c : Condition) × (outcome_in (drop from s) ≡ got c []) × (take len words ≡ code c) × (len ≤ max_words)
OutcomeSays s from words (Err b) = Broke s (outcome_in (drop from s)) b

-- the parts of a text, of which the first events and values are kept; or the first breach
abbrev pub PartsSay : (s words : List ℕ) → Result Parts Breach → Type 0
PartsSay s words (Ok p) =
    (es : List (List ℕ)) × (vs : List ℕ) × (c : Condition)
    × (document s ≡ got (record { events = es; initial = vs; outcome = c }) [])
    × (p.lines.count ≡ length es) × (p.lines.events ≡ up_to capacity (λ k. event_of (get_or es k [])))
    × (p.values.count ≡ length vs) × (p.values.initial ≡ up_to max_locations (λ x. get_or vs x 0))
    × (take p.len words ≡ code c) × (p.len ≤ max_words)
PartsSay s words (Err b) = Broke s (document s) b

-- the table of so many events and so many initial values, which stand in its slots
unfoldable pub table_from : (events : List Event) (count : ℕ) (initial : List ℕ) (given : ℕ) → Table
table_from events count initial given = record {
  harts = covering (map (λ e. e.hart) (take count events));
  locations = max given (covering (map (λ e. e.location.0) (take count events)));
  count = count;
  stated = 0;
  model = rvwmo;
  initial = initial;
  events = events;
  finals = replicate max_locations 0;
}

-- the kind of a word, and the number that an atom names
abbrev pub kind_in : ℕ → ℕ
kind_in w = w % 256

abbrev pub number_in : ℕ → ℕ
number_in w = w / 256 % 256

-- an atom's word names an event that doesn't read, or a location not in the test; e is the event with its number
unfoldable pub unknown_by : (count locations : ℕ) (e : Event) → ℕ → Bool
unknown_by count locations e w =
    cond (eqb (kind_in w) returns_node) (leb count (number_in w) || not (reading_kind e.kind))
    (eqb (kind_in w) ends_node && leb locations (number_in w))

unfoldable pub word_unknown : Table → ℕ → Bool
word_unknown t w = unknown_by t.count t.locations (event t (number_in w)) w

-- an atom's word names location x
unfoldable pub word_names : ℕ → ℕ → Bool
word_names x w = eqb (kind_in w) ends_node && eqb (number_in w) x

-- the mask of the locations that words name, of those that a mask has room for
abbrev pub Names : List ℕ → ℕ → Type 0
Names ws mask = (x : ℕ) → x < capacity → bit mask x ≡ any (word_names x) ws

-- 23 and 21 of the words of a condition
abbrev pub word_lines : Table → List ℕ → List Line
word_lines t ws = whole 23 (any (word_unknown t) ws) ∷ whole 21 (line21 (λ x. any (word_names x) ws) t) ∷ []

-- lines 5 to 11 before these
unfoldable pub lines_behind : Table → List ℕ → List Line
lines_behind t ws = table_lines_by (text_line7 t) (most_events two) false t ++ word_lines t ws

unfoldable pub refusal_behind : Table → List ℕ → Refused
refusal_behind t ws = first_line t.count (lines_behind t ws)

-- the answer for a legal text with this table and these words
pub record Judged (t : Table) (ws : List ℕ) (len : ℕ) (r : Result TextReading TextRefusal) : Type 0 where
  pub refusal : text_refused_by r ≡ refusal_behind t ws
  pub table : text_table_of r ≡ unless (refusal_behind t ws) t no_table
  pub words : IfOk r (λ a. a.len ≡ len)
