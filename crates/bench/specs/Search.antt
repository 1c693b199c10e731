-- The search entries, of any bytes, start, buffer and allowance: the refusals of a block or a text, then 15, 16, 17, the reply and
-- the buffer.
use Rattle.std.specs.Prelude.{ℕ, Bool, List, ◌++◌}
use Rattle.lists.specs.Reply.{Reply}
use Rattle.table.specs.declared.Table.{Table}
use Rattle.decode.specs.Decoded.{decoded}
use Rattle.refusals.specs.Lines.{Refused, Line, first_line, reply_unless}
use Rattle.block.specs.Reading.{reading_lines}
use Rattle.prefixes.specs.Answer.{Answer}
use Rattle.model.specs.Witness.{stated_outcome}
use Rattle.model.specs.Prefixes.{clean, search_by}
use Rattle.model.specs.Settled.{unpruned}
use Rattle.model.specs.Following.{meets}
use Rattle.text.specs.Texts.{table_of_text, text_lines, condition_of}
use Rattle.search.specs.Replies.{start_lines, buffer_after}

-- what is searched: the lines by which it may be refused, its table, the test of the prefixes that are listed, and the outcome
-- that is looked for
pub record Searched : Type 0 where
  pub lines : List Line
  pub table : Table
  pub passes : List ℕ → Bool
  pub outcome : List ℕ → Bool

-- a block, along the prefixes that pass, for the outcome that it states
abbrev pub of_block_by : (Table → List ℕ → Bool) → List ℕ → Searched
of_block_by passes s =
    record { lines = reading_lines s; table = decoded s; passes = passes (decoded s); outcome = stated_outcome (decoded s) }

-- by the first engine: along its clean prefixes
abbrev pub of_block : List ℕ → Searched
of_block s = of_block_by clean s

-- by the second engine: along those that it doesn't prune
abbrev pub of_block_pruned : List ℕ → Searched
of_block_pruned s = of_block_by unpruned s

-- a text, along its clean prefixes, for its condition: "stated reads and finals aren't asked for, and in demand 3 the stated outcome
-- is the condition"; "The first engine's definition is otherwise the same"
abbrev pub of_text : List ℕ → Searched
of_text s =
    record { lines = text_lines s; table = table_of_text s; passes = clean (table_of_text s); outcome = meets (table_of_text s) (condition_of s) }

-- the lines of a search: for a block 1 to 11, 21, for a text 1, 19, 20, 5 to 11, 23, 21; then 15, 16, 17
unfoldable pub lines_to : Searched → List ℕ → List ℕ → ℕ → List Line
lines_to q start out b = q.lines ++ start_lines q.table q.passes start out b

unfoldable pub refusal_to : Searched → List ℕ → List ℕ → ℕ → Refused
refusal_to q start out b = first_line q.table.count (lines_to q start out b)

-- what a search call is given back
unfoldable pub reply_to : Searched → List ℕ → List ℕ → ℕ → Reply Refused Answer
reply_to q start out b = reply_unless (refusal_to q start out b) (search_by q.table q.passes q.outcome start b)

-- what it leaves in the answer buffer
unfoldable pub buffer_left : Searched → List ℕ → List ℕ → ℕ → List ℕ
buffer_left q start out b = buffer_after (reply_to q start out b) out

-- of a block, by the first engine
abbrev pub search_lines : List ℕ → List ℕ → List ℕ → ℕ → List Line
search_lines s start out b = lines_to (of_block s) start out b

abbrev pub search_reply : List ℕ → List ℕ → List ℕ → ℕ → Reply Refused Answer
search_reply s start out b = reply_to (of_block s) start out b

abbrev pub search_buffer : List ℕ → List ℕ → List ℕ → ℕ → List ℕ
search_buffer s start out b = buffer_left (of_block s) start out b

-- by the second
abbrev pub pruned_lines : List ℕ → List ℕ → List ℕ → ℕ → List Line
pruned_lines s start out b = lines_to (of_block_pruned s) start out b

abbrev pub pruned_reply : List ℕ → List ℕ → List ℕ → ℕ → Reply Refused Answer
pruned_reply s start out b = reply_to (of_block_pruned s) start out b

abbrev pub pruned_buffer : List ℕ → List ℕ → List ℕ → ℕ → List ℕ
pruned_buffer s start out b = buffer_left (of_block_pruned s) start out b

-- of a text
abbrev pub text_search_lines : List ℕ → List ℕ → List ℕ → ℕ → List Line
text_search_lines s start out b = lines_to (of_text s) start out b

abbrev pub text_reply : List ℕ → List ℕ → List ℕ → ℕ → Reply Refused Answer
text_reply s start out b = reply_to (of_text s) start out b

abbrev pub text_buffer : List ℕ → List ℕ → List ℕ → ℕ → List ℕ
text_buffer s start out b = buffer_left (of_text s) start out b
