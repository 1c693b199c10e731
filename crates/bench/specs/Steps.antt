-- The entry for a step of the machine, of any bytes, list and number: refusals 1 to 11, 21 and 24, and the answer.
use Rattle.std.specs.Prelude.{ℕ, List, ◌++◌}
use Rattle.lists.specs.Reply.{Reply}
use Rattle.decode.specs.Decoded.{decoded}
use Rattle.refusals.specs.Lines.{Refused, Line, first_line, reply_unless}
use Rattle.block.specs.Reading.{reading_lines}
use Rattle.steps.specs.Replies.{StepAnswer, answer_to, step_lines}

-- the lines of a step: 1 to 11, 21, 24
unfoldable pub machine_lines : List ℕ → List ℕ → ℕ → List Line
machine_lines s bs b = reading_lines s ++ step_lines (decoded s) bs b

-- the step b behind the list of steps bs
unfoldable pub machine_reply : List ℕ → List ℕ → ℕ → Reply Refused StepAnswer
machine_reply s bs b = reply_unless (first_line (decoded s).count (machine_lines s bs b)) (answer_to (decoded s) bs b)
