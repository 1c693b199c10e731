-- The entry for advice, of any bytes and number: refusals 1 to 11, 21, 22 and 17, and the answer.
use Rattle.std.specs.Prelude.{ℕ, List, ◌++◌}
use Rattle.lists.specs.Reply.{Reply}
use Rattle.decode.specs.Decoded.{decoded}
use Rattle.refusals.specs.Lines.{Refused, Line, first_line, reply_unless}
use Rattle.block.specs.Reading.{reading_lines}
use Rattle.advice.specs.Advice.{Advice, advice}
use Rattle.advising.specs.Replies.{advice_lines}

-- the lines of a call for advice: 1 to 11, 21, 22, 17
unfoldable pub advise_lines : List ℕ → ℕ → List Line
advise_lines s b = reading_lines s ++ advice_lines (decoded s) b

-- the advice for a table's bytes, with the allowance b of each search
unfoldable pub advice_reply : List ℕ → ℕ → Reply Refused Advice
advice_reply s b = reply_unless (first_line (decoded s).count (advise_lines s b)) (advice (decoded s) b)
