-- Writing a block: refusals 1, 5 to 11 and 21, and the bytes.
use Rattle.std.specs.Prelude.{ℕ, Bool, false, not, List, ◌∷◌, length, eqb}
use Rattle.edition.specs.Limits.{one, block_length, most_events}
use Rattle.table.specs.declared.Table.{Table}
use Rattle.refusals.specs.Lines.{Refused, Line, whole, first_line, unless}
use Rattle.refusals.specs.TableLines.{table_lines}
use Rattle.encode.specs.Encoded.{encoded}

-- 1: "a buffer that isn't 512 bytes"
abbrev pub buffer_wrong : List ℕ → Bool
buffer_wrong out = not (eqb (length out) block_length)

-- "A table that reading would refuse by 5 to 11 is refused by the same number; a buffer that isn't 512 bytes by 1." "The writer
-- writes edition 1 only (more than 16 events is 5)." A table has no bytes but its fields, so that line 6 has no others to look at.
unfoldable pub writing_lines : Table → List ℕ → List Line
writing_lines t out = whole 1 (buffer_wrong out) ∷ table_lines (most_events one) false t

-- the refusal of a table and a buffer, if any
unfoldable pub write_refusal : Table → List ℕ → Refused
write_refusal t out = first_line t.count (writing_lines t out)

-- what stands in the buffer afterwards: "refusals leave the buffer alone"
unfoldable pub written_block : Table → List ℕ → List ℕ
written_block t out = unless (write_refusal t out) (encoded t) out
