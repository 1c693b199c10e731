-- The code's reply to a search of a text, in the paper's words.
use Rattle.std.specs.Prelude.{ℕ, List, Result, Ok, Err}
use Rattle.lists.specs.Reply.{Reply, refused}
use Rattle.refusals.specs.Lines.{Refused}
use Rattle.prefixes.specs.Answer.{Answer}
use Rattle.text.specs.declared.TextRefusal.{TextRefusal}
use Rattle.text.specs.TextRefusals.{text_refusal_of}
use Rattle.witness_walk.specs.declared.Ending.{Ending}
use Rattle.search.specs.Replies.{reply_of, length_of}

-- refused, by 19 or 20 with its place, or a reply as to a block
abbrev pub text_reply_of : Result Ending TextRefusal → List ℕ → Reply Refused Answer
text_reply_of (Ok ending) out = reply_of (Ok ending) out
text_reply_of (Err r) out = refused (text_refusal_of r)

-- the length that it says
abbrev pub text_length_of : Result Ending TextRefusal → ℕ
text_length_of (Ok ending) = length_of (Ok ending)
text_length_of (Err r) = 0
