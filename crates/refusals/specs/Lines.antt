-- "When the bench declines a table": a refusal is that of the first line that holds, in the stated order.
use Rattle.std.specs.Prelude.{ℕ, Bool, true, false, List, [], ◌∷◌}
use Rattle.lists.specs.Below.{lowest, some}
use Rattle.lists.specs.Reply.{Reply, refused, answered}

-- no refusal; by the number of a line; by a line that names a record; by a line of a text, "with its place (bytes count from 0,
-- and the end's place is the length)"
pub data Refused : Type 0 where
  accepted : Refused
  by_line : ℕ → Refused
  by_record : ℕ → ℕ → Refused
  by_place : ℕ → ℕ → Refused

-- a line of the table of refusals: of the whole, of each record, or of a text at a place
pub data Line : Type 0 where
  whole : ℕ → Bool → Line
  record_of : ℕ → (ℕ → Bool) → Line
  place-of : ℕ → ℕ → Bool → Line

-- the first where nothing refuses, else the second
abbrev pub unless : {A : Type 0} → Refused → A → A → A
unless accepted a b = a
unless (by_line n) a b = b
unless (by_record n k) a b = b
unless (by_place n p) a b = b

-- the answer where nothing refuses
abbrev pub reply_unless : {A : Type 0} → Refused → A → Reply Refused A
reply_unless r a = unless r (answered a) (refused r)

abbrev pub refused_if : Bool → Refused → Refused → Refused
refused_if true r rest = r
refused_if false r rest = rest

-- "Exactly the lowest number whose line holds is given, or else none; within 7 to 10, its lowest record is named." The lines
-- stand in the paper's order, that of their numbers but for what T-06 says of lengths and checks and T-09 of 21; n is the number of
-- records.
unfoldable pub first_line : ℕ → List Line → Refused
first_line n [] = accepted
first_line n (whole k b ∷ ls) = refused_if b (by_line k) (first_line n ls)
first_line n (record_of k f ∷ ls) = refused_if (some n f) (by_record k (lowest n f)) (first_line n ls)
first_line n (place-of k p b ∷ ls) = refused_if b (by_place k p) (first_line n ls)
