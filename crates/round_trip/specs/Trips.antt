-- "Reading what was written gives the table back, and writing what was read gives the same 512 bytes", of the functions themselves.
use Rattle.std.specs.Prelude.{ℕ, List, [], ◌∷◌, ◌++◌, ltb}
use Rattle.edition.specs.Limits.{Edition, one, two, most_events}
use Rattle.decode.specs.Layout.{edition_of}
use Rattle.decode.specs.Decoded.{decoded}
use Rattle.refusals.specs.Lines.{Refused, Line, whole, first_line}
use Rattle.block.specs.Reading.{reading_lines}
use Rattle.encode.specs.Encoded.{encoded}
use Rattle.writer.specs.Writing.{buffer_wrong}

-- what can refuse the writing of a table that was read: the buffer, and "more than 16 events is 5"
abbrev pub rewriting_lines : List ℕ → List ℕ → List Line
rewriting_lines s out = whole 1 (buffer_wrong out) ∷ whole 5 (ltb (most_events one) (decoded s).count) ∷ []

-- a test is read, and what was read is written
unfoldable pub rewrite_refusal : List ℕ → List ℕ → Refused
rewrite_refusal s out = first_line (decoded s).count (reading_lines s ++ rewriting_lines s out)

-- the same bytes for edition 1; for edition 2 the edition 1 block of the table
abbrev pub rewritten_as : Edition → List ℕ → List ℕ
rewritten_as one s = s
rewritten_as two s = encoded (decoded s)

unfoldable pub rewritten : List ℕ → List ℕ
rewritten s = rewritten_as (edition_of s) s
