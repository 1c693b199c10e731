-- A suite line has room in a line's buffer.
use Prim.Native.Nat.{ℕ, zero, suc, ◌≤◌, ◌<◌}
use mathlib.Core.List.{List, [], ◌∷◌, ◌++◌}
use mathlib.Core.Path.{◌≡◌, sym, ap, ◌∙◌}
use lib.ListN.{length, get_or, take, length-append, length-take}
use native.Mathlib.Omega.{arith}
use Rattle.edition.specs.Limits.{two, most_events}
use Rattle.std.specs.Prelude.{Result, Ok, Err}
use Rattle.lists.specs.Reply as reply
use Rattle.refusals.specs.Lines as lines
use Rattle.refusals.specs.declared.Refusal.{Refusal}
use Rattle.refusals.specs.Refusals.{refusal_of}
use Rattle.prefixes.specs.Answer.{Answer}
use Rattle.witness_walk.specs.declared.Ending.{Ending}
use Rattle.witness_walk.specs.declared.Ending.TheVariants.{Found, NoneLeft, Spent}
use Rattle.search.specs.Replies.{reply_of, length_of, prefix_length}
use Rattle.search.proofs.CallLaws.{length-within}
use Rattle.bench.specs.Search.{search_reply}
use Rattle.console.specs.declared.line.Line.{Line}
use Rattle.console.specs.Lines.{room, kept, AddsTo}
use Rattle.console.specs.Texts.{ascii, decimal, spaced}
use Rattle.console.proofs.LineLaws.{first-text}
use Rattle.console.proofs.TextLaws.{digits-short, spaced-bytes}
use Rattle.words.specs.Numbers.{number_of}
use Rattle.suite.specs.SuiteLine.{visited, reply_text, no_answer, suite_line, closing_line}

-- Each entry is a byte.
abbrev pub Bytes : List ℕ → Type 0
Bytes xs = (i : ℕ) → get_or xs i 0 < 256

take-bytes : (n : ℕ) (xs : List ℕ) → Bytes xs → Bytes (take n xs)
take-bytes zero xs h i = omega arith
take-bytes (suc n) [] h i = omega arith
take-bytes (suc n) (x ∷ xs) h zero = h 0
take-bytes (suc n) (x ∷ xs) h (suc i) = take-bytes n xs (λ j. h (suc j)) i

visited-short : (n : ℕ) → length (visited n) ≤ 28
visited-short n = omega (arith, length-append (decimal n) (ascii " visited"), digits-short 20 n)

-- No reply's text is longer, since no test has more than 30 events.
reply-short : (reply : Result Ending Refusal) (out : List ℕ) → length out ≤ most_events two → Bytes out → length (reply_text (reply_of reply out)) ≤ 200
reply-short (Err r) out h b = omega (arith, digits-short 20 (number_of (refusal_of r)))
reply-short (Ok (Found len n)) out h b =
    omega (
      arith,
      length-append (ascii "allowed, " ++ visited n ++ ascii ", order") (spaced (take len out)),
      length-append (ascii "allowed, " ++ visited n) (ascii ", order"),
      visited-short n,
      spaced-bytes (take len out) (take-bytes len out b),
      length-take len out,
    )
reply-short (Ok (NoneLeft n)) out h b = omega (arith, visited-short n)
reply-short (Ok (Spent len n)) out h b = omega (arith, visited-short n)

-- The order that a reply hands out is in the answer buffer.
pub order-within : (given : Result Ending Refusal) (out : List ℕ) (said : reply.Reply lines.Refused Answer) → reply_of given out ≡ said
    → length_of given ≡ prefix_length said → length_of given ≤ length out
order-within given out said e h = length-within given out (h ∙ ap prefix_length (sym e))

-- The line of a test, in a line that was empty.
pub test-line : (l r : Line) (k : ℕ) (test : List ℕ) (reply : Result Ending Refusal) (before out : List ℕ)
    → l.len ≡ 0
    → before ≡ no_answer
    → length out ≡ length before
    → Bytes out
    → reply_of reply out ≡ search_reply test [] before 1000000
    → AddsTo l (ascii "block " ++ decimal k ++ ascii ": " ++ reply_text (reply_of reply out)) r
    → kept r ≡ suite_line k test
test-line l r k test reply before out empty none h b e adds =
    first-text l r _ empty fits adds
    ∙ ap (λ x. ascii "block " ++ decimal k ++ ascii ": " ++ reply_text x) (e ∙ ap (λ (o : List ℕ). search_reply test [] o 1000000) none)
  where
    fits : length (ascii "block " ++ decimal k ++ ascii ": " ++ reply_text (reply_of reply out)) ≤ room
    fits =
        omega (
          arith,
          length-append (ascii "block " ++ decimal k ++ ascii ": ") (reply_text (reply_of reply out)),
          length-append (ascii "block " ++ decimal k) (ascii ": "),
          digits-short 20 k,
          reply-short reply out (omega (arith, h, ap length none)) b,
        )

-- The closing line, in a line that was empty.
pub last_line : (l r : Line) (k : ℕ) → l.len ≡ 0 → AddsTo l (closing_line k) r → kept r ≡ closing_line k
last_line l r k empty adds = first-text l r _ empty (omega (arith, length-append (decimal k) (ascii " blocks"), digits-short 20 k)) adds
