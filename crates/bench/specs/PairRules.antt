-- The entry for the rules of a pair, of any bytes, list and numbers: refusals 1 to 11, 21, 12 and 14, and the set.
use Rattle.std.specs.Prelude.{ℕ, List, ◌++◌}
use Rattle.lists.specs.Reply.{Reply}
use Rattle.decode.specs.Decoded.{decoded}
use Rattle.refusals.specs.Lines.{Refused, Line, first_line, reply_unless}
use Rattle.block.specs.Reading.{reading_lines}
use Rattle.pair_rules.specs.PairRules.{returned_lines, rules_between}

-- the lines of a pair: 1 to 11, 21, 12, 14
unfoldable pub rules_lines : List ℕ → List ℕ → List Line
rules_lines s rf = reading_lines s ++ returned_lines (decoded s) rf

-- the rules of a pair
unfoldable pub rules_of : List ℕ → List ℕ → ℕ → ℕ → Reply Refused (List ℕ)
rules_of s rf a b = reply_unless (first_line (decoded s).count (rules_lines s rf)) (rules_between (decoded s) rf a b)
