-- The entries for a candidate, of any bytes and lists: refusals 1 to 14 and 16, the verdict, and the returned list.
use Rattle.std.specs.Prelude.{ℕ, List, ◌++◌}
use Rattle.lists.specs.Reply.{Reply}
use Rattle.decode.specs.Decoded.{decoded}
use Rattle.refusals.specs.Lines.{Refused, Line, first_line, unless, reply_unless}
use Rattle.block.specs.Reading.{reading_lines}
use Rattle.model.specs.Returns.{returns}
use Rattle.model.specs.Verdict.{Verdict, verdict}
use Rattle.candidate.specs.Buffers.{written}
use Rattle.answers.specs.Candidate.{candidate_lines, order_lines}

-- the lines of a verdict: 1 to 11, 21, 12, 13, 14
unfoldable pub verdict_lines : List ℕ → List ℕ → List ℕ → List Line
verdict_lines s rf gmo = reading_lines s ++ candidate_lines (decoded s) rf gmo

-- the verdict for a candidate
unfoldable pub verdict_of : List ℕ → List ℕ → List ℕ → Reply Refused Verdict
verdict_of s rf gmo = reply_unless (first_line (decoded s).count (verdict_lines s rf gmo)) (verdict (decoded s) rf gmo)

-- the lines of "the returned list that an order determines": 1 to 11, 21, 12, 13, 16
unfoldable pub returns_lines : List ℕ → List ℕ → List ℕ → List Line
returns_lines s gmo out = reading_lines s ++ order_lines (decoded s) gmo out

unfoldable pub returns_refusal : List ℕ → List ℕ → List ℕ → Refused
returns_refusal s gmo out = first_line (decoded s).count (returns_lines s gmo out)

-- "One further entry writes the returned list that an order determines": the buffer afterwards
unfoldable pub returns_buffer : List ℕ → List ℕ → List ℕ → List ℕ
returns_buffer s gmo out = unless (returns_refusal s gmo out) (written (returns (decoded s) gmo) out) out
