-- What the readers' answers say of the definitions: what is read from a place of the text on, or the first breach.
use Rattle.std.specs.Prelude.{ℕ, ◌+◌, ◌*◌, ◌≤◌, ◌<◌, ◌≡◌, Bool, cond, List, [], ◌∷◌, ◌++◌, Result, Ok, Err, length, take, drop, eqb}
use Rattle.text_format.specs.Bytes.{letter_r, letter_x, letter_n, open_bracket}
use Rattle.text_format.specs.Condition.{Condition}
use Rattle.text_format.specs.Document.{max_text}
use Rattle.text_format.specs.Reading.{Read, got, breach, number, word, atom, joint}
use Rattle.condition_reader.specs.declared.Breach.{Breach}
use Rattle.condition_reader.specs.declared.Breach.TheVariants.{Illegal, TooDeep}
use Rattle.condition_reader.specs.declared.Number.{Number}
use Rattle.condition_reader.specs.declared.Step.{Step}
use Rattle.condition_reader.specs.declared.Joint.{Joint}
use Rattle.condition_reader.specs.declared.Opening.{Opening}
use Rattle.condition_reader.specs.declared.Opening.TheVariants.{Returns, Ends, Not, Bracket, Other}
use Rattle.condition_reader.specs.declared.Atom.{Atom}
use Rattle.condition_reader.specs.Words.{code, atom_of, max_words}

-- a breach's refusal, and its place
abbrev pub refusal_in : Breach → ℕ
refusal_in (Illegal place) = 19
refusal_in (TooDeep place) = 20

abbrev pub place_in : Breach → ℕ
place_in (Illegal place) = place
place_in (TooDeep place) = place

-- what was read in s is this breach
abbrev pub Broke : {A : Type 0} → (s : List ℕ) → Read A → Breach → Type 0
Broke s r b = (r ≡ breach (refusal_in b) (drop (place_in b) s)) × (place_in b ≤ length s)

-- a number and the place behind it
abbrev pub NumberSays : (s : List ℕ) (from most : ℕ) → Result Number Breach → Type 0
NumberSays s from most (Ok n) =
    (number most (drop from s) ≡ got n.value (drop n.next s)) × (n.next ≤ length s) × (from < n.next) × (n.value ≤ most)
NumberSays s from most (Err b) = Broke s (number most (drop from s)) b

-- the place behind the bytes w
abbrev pub FoundSays : (s : List ℕ) (at : ℕ) (w : List ℕ) → Result ℕ Breach → Type 0
FoundSays s at w (Ok next) = (word w (drop at s) ≡ got [] (drop next s)) × (next ≤ length s) × (next ≡ at + length w)
FoundSays s at w (Err b) = Broke s (word w (drop at s)) b

-- the step behind the bytes w, with as many words
abbrev pub Skips : (s w : List ℕ) → Step → Result Step Breach → Type 0
Skips s w c (Ok r) = FoundSays s c.at w (Ok r.at) × (r.len ≡ c.len)
Skips s w c (Err b) = FoundSays s c.at w (Err b)

-- a connective, and the step behind it, with as many words
abbrev pub JointSays : List ℕ → Step → Result Joint Breach → Type 0
JointSays s c (Ok j) =
    (joint (drop c.at s) ≡ got j.and (drop j.step.at s)) × (j.step.at ≤ length s) × (c.at + 4 ≤ j.step.at) × (j.step.len ≡ c.len)
JointSays s c (Err b) = Broke s (joint (drop c.at s)) b

-- the word of the atom whose letter stands at a place, and the place behind it
abbrev pub AtomSays : (s : List ℕ) (at : ℕ) (returned : Bool) → Result Atom Breach → Type 0
AtomSays s at returned (Ok a) =
    (k : ℕ) × (v : ℕ) × (atom (atom_of returned) (drop (at + 1) s) ≡ got (atom_of returned k v) (drop a.next s))
    × (a.next ≤ length s) × (at + 4 ≤ a.next) × (code (atom_of returned k v) ≡ a.word ∷ [])
AtomSays s at returned (Err b) = Broke s (atom (atom_of returned) (drop (at + 1) s)) b

-- one atom from the letter at a step
unfoldable pub lettered : Bool → List ℕ → Read Condition
lettered returned r = atom (atom_of returned) (drop 1 r)

-- a text, a buffer for its words, and a step: the place is in the text, and each word so far took four of its bytes
pub record Room (s out : List ℕ) (c : Step) : Type 0 where
  pub short : length s ≤ max_text
  pub long : length out ≡ max_words
  pub inside : c.at ≤ length s
  pub fed : 4 * c.len ≤ c.at

-- a reader's condition, whose words were put behind those before, each for four bytes or more
abbrev pub Goes : (s before after : List ℕ) (reader : List ℕ → Read Condition) → Step → Result Step Breach → Type 0
Goes s before after reader c (Ok r) =
    (o : Condition) × (reader (drop c.at s) ≡ got o (drop r.at s)) × (take r.len after ≡ take c.len before ++ code o)
    × (r.at ≤ length s) × (4 * r.len + c.at ≤ r.at + 4 * c.len)
Goes s before after reader c (Err b) = Broke s (reader (drop c.at s)) b

-- the same from a step or a breach: a breach, and the words, stay as they are
abbrev pub GoesOn : (s before after : List ℕ) (reader : List ℕ → Read Condition) → Result Step Breach → Result Step Breach → Type 0
GoesOn s before after reader (Ok c) r = Goes s before after reader c r
GoesOn s before after reader (Err b) r = (r ≡ Err b) × (after ≡ before)

-- what a condition begins with, by its first byte
abbrev pub letter_of : ℕ → Opening
letter_of b =
    cond (eqb b letter_r) Returns
    (cond (eqb b letter_x) Ends
    (cond (eqb b letter_n) Not
    (cond (eqb b open_bracket) Bracket Other)))

abbrev pub opening_of : List ℕ → Opening
opening_of [] = Other
opening_of (b ∷ r) = letter_of b
