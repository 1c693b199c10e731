-- The reply to a decision fits a word, since a witness has the memory events; and its word is that of the definition's reply.
use Prim.Native.Nat.{ℕ, ◌<◌}
use mathlib.Core.Path.{◌≡◌, refl, sym, ap, subst, ◌∙◌}
use mathlib.Core.List.Memᴰ
use mathlib.Core.List.{List, [], ◌∷◌}
use mathlib.Core.Option.{Option, none, some}
use native.Mathlib.Omega.{arith}
use lib.ListN.{length}
use lib.Dec.{eqb}
use borrow.Author.Tests.{eqb-true}
use Rattle.lists.specs.Lists.{◌∈◌, distinct}
use Rattle.lists.specs.Ascending.{less}
use Rattle.lists.specs.Reply.{Reply, refused, answered}
use Rattle.lists.proofs.MemberLaws.{keep-only}
use Rattle.table.specs.declared.Table.{Table}
use Rattle.table.specs.Counts.{Small}
use Rattle.table.specs.Events.{memory_events, memory_count}
use Rattle.decode.specs.Decoded.{decoded}
use Rattle.refusals.specs.Lines.{Refused, accepted, by_line, by_record, by_place, first_line, reply_unless}
use Rattle.refusals.proofs.PassedLaws.{passed-both}
use Rattle.block.specs.Reading.{reading_lines, read_refusal}
use Rattle.prefixes.specs.Listed.{listed, after}
use Rattle.model.specs.Witness.{witness}
use Rattle.model.specs.Prefixes.{orders, witnesses}
use Rattle.search.proofs.CallLaws.{count_small}
use Rattle.states.specs.Decisions.{first, next_witness}
use Rattle.std.specs.Prelude.{Option as Option·, Some, None, Result, Ok, Err}
use Rattle.refusals.specs.declared.Refusal.{Refusal}
use Rattle.deciding.specs.Replies.{decision_lines, decision_of, decided_length, order_length, MemoAfter}
use Rattle.bench.specs.Decisions.{decide_lines, decide_reply}
use Rattle.bench.proofs.EntryLaws.{small-read}
use Rattle.answer_word.specs.Words.{word, decision_word}
use Rattle.answer_word.specs.Given.{decided_word, DecisionFits}
use Rattle.capi.specs.Memos.{MemoLeft}

-- what has room in a word
abbrev OrderFits : Option (List ℕ) → Type 0
OrderFits (some p) = length p < 256
OrderFits none = Unit {0}

abbrev ReplyFits : Reply Refused (Option (List ℕ)) → Type 0
ReplyFits (refused r) = Unit {0}
ReplyFits (answered o) = OrderFits o

first_fits : (l : List (List ℕ)) → ((p : List ℕ) → p ∈ l → length p < 256) → OrderFits (first l)
first_fits [] h = tt
first_fits (p ∷ l) h = h p (Memᴰ.head refl)

next_fits : (t : Table) → Small t → (start : List ℕ) → OrderFits (next_witness t start)
unfolding next_witness witnesses orders
next_fits t small start = first_fits (after start (witnesses t)) short
  where
    short : (p : List ℕ) → p ∈ after start (witnesses t) → length p < 256
    short p m =
        let order = (keep-only (witness t) (orders t) p (keep-only (less start) (witnesses t) p m).0).0 in
        let long = (keep-only (λ q. eqb (length q) (memory_count t)) (listed distinct (memory_events t) (memory_count t)) p order).1 in
        omega (arith, eqb-true (length p) (memory_count t) long, count_small t small)

module _ (s start out : List ℕ) where
  reply-fits : ReplyFits (decide_reply s start out)
  unfolding decide_reply decide_lines read_refusal
  reply-fits = go (first_line t.count (decide_lines s out)) refl
    where
      t : Table
      t = decoded s

      go : (r : Refused) → first_line t.count (decide_lines s out) ≡ r → ReplyFits (reply_unless r (next_witness t start))
      go accepted h = next_fits t (small-read s (passed-both t.count (reading_lines s) (decision_lines t out) h).0) start
      go (by_line n) h = tt
      go (by_record n k) h = tt
      go (by_place n p) h = tt

  -- the code's reply, by what its entry promises
  module _ (last : List ℕ) (r : Result (Option· ℕ) Refusal) (e : decision_of r last ≡ decide_reply s start out)
      (l : decided_length r ≡ order_length (decide_reply s start out)) where
    counts : decided_length r ≡ order_length (decision_of r last)
    counts = l ∙ ap order_length (sym e)

    pub decision-fits : DecisionFits r
    decision-fits = go r counts (subst ReplyFits (sym e) reply-fits)
      where
        go : (r : Result (Option· ℕ) Refusal) → decided_length r ≡ order_length (decision_of r last) → ReplyFits (decision_of r last) → DecisionFits r
        go (Err q) c f = tt
        go (Ok (Some len)) c f = omega (arith, c, f)
        go (Ok None) c f = tt

    pub decision-word : decided_word r ≡ decision_word (decide_reply s start out)
    decision-word = go r counts ∙ ap decision_word e
      where
        go : (r : Result (Option· ℕ) Refusal) → decided_length r ≡ order_length (decision_of r last) → decided_word r ≡ decision_word (decision_of r last)
        go (Err q) c = refl
        go (Ok (Some len)) c = ap (λ (n : ℕ). word 7 n 0 0 0) c
        go (Ok None) c = refl

    pub memo-left : (before after : List ℕ) → MemoAfter before after r → MemoLeft before after (decide_reply s start out)
    memo-left before after h = subst (MemoLeft before after) e (go r h)
      where
        go : (r : Result (Option· ℕ) Refusal) → MemoAfter before after r → MemoLeft before after (decision_of r last)
        go (Err q) h = h
        go (Ok (Some len)) h = tt
        go (Ok None) h = tt
