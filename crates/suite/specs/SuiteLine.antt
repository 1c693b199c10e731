-- The suite program's lines, each without its end. The paper's sample:
--   block 0: allowed, 27 visited, order 1 2 3 0
--   block 1: forbidden, 18 visited
--   block 2: refused 4
--   3 blocks
-- "Spent prints `block k: undecided, V visited`."
use Rattle.std.specs.Prelude.{ℕ, List, [], ◌++◌, replicate}
use Rattle.edition.specs.Limits.{two, most_events}
use Rattle.lists.specs.Reply.{Reply, refused, answered}
use Rattle.refusals.specs.Lines.{Refused}
use Rattle.prefixes.specs.Answer.{Answer, found, none_left, spent}
use Rattle.bench.specs.Search.{search_reply}
use Rattle.console.specs.Texts.{ascii, decimal, spaced}
use Rattle.words.specs.Numbers.{number_of}

abbrev pub visited : ℕ → List ℕ
visited n = decimal n ++ ascii " visited"

abbrev pub answer_text : Answer → List ℕ
answer_text (found order n) = ascii "allowed, " ++ visited n ++ ascii ", order" ++ spaced order
answer_text (none_left n) = ascii "forbidden, " ++ visited n
answer_text (spent prefix n) = ascii "undecided, " ++ visited n

abbrev pub reply_text : Reply Refused Answer → List ℕ
reply_text (refused r) = ascii "refused " ++ decimal (number_of r)
reply_text (answered a) = answer_text a

-- the answer buffer: a byte for each event that a test of either edition may have
abbrev pub no_answer : List ℕ
no_answer = replicate (most_events two) 0

-- "allowance 1,000,000 from the empty start"
abbrev pub reply_to : List ℕ → Reply Refused Answer
reply_to test = search_reply test [] no_answer 1000000

-- the line of a test; "a line shows the number of its test's first block"
abbrev pub suite_line : ℕ → List ℕ → List ℕ
suite_line k test = ascii "block " ++ decimal k ++ ascii ": " ++ reply_text (reply_to test)

-- the closing line; it "counts tests and refusals"
abbrev pub closing_line : ℕ → List ℕ
closing_line n = decimal n ++ ascii " blocks"
