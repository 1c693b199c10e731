-- The reply to a search call fits a word: it visits at most the allowance, and a clean prefix has at most the memory events.
use Prim.Native.Nat.{ℕ, zero, suc, ◌+◌, ◌^◌, ◌≤◌, ◌<◌}
use mathlib.Core.Path.{◌≡◌, refl, sym, ap, subst, ◌∙◌}
use mathlib.Core.Bool.{Bool, true, false, not}
use mathlib.Core.List.Memᴰ
use mathlib.Core.List.{List, [], ◌∷◌, cons-ne-nil}
use native.Mathlib.Omega.{arith}
use lib.ListN.{length}
use borrow.Author.Tests.{ltb-false, not-false}
use Rattle.lists.specs.Lists.{◌∈◌}
use Rattle.lists.specs.Ascending.{less}
use Rattle.lists.proofs.MemberLaws.{keep-only}
use Rattle.lists.specs.Reply.{Reply, refused, answered}
use Rattle.table.specs.declared.Table.{Table}
use Rattle.table.specs.Events.{memory_events, memory_count}
use Rattle.decode.specs.Decoded.{decoded}
use Rattle.refusals.specs.Lines.{Refused, accepted, by_line, by_record, by_place, first_line, reply_unless}
use Rattle.refusals.proofs.LineLaws.{whole-off}
use Rattle.refusals.proofs.PassedLaws.{passed-both}
use Rattle.block.specs.Reading.{read_refusal}
use Rattle.prefixes.specs.Listed.{after}
use Rattle.prefixes.specs.Answer.{Answer, found, none_left, spent, pick}
use Rattle.prefixes.specs.Statements.{seek}
use Rattle.prefixes.proofs.AnswerLaws.{seek-answer}
use Rattle.prefixes.proofs.ListedLaws.{listed-only}
use Rattle.model.specs.Witness.{witness_for}
use Rattle.model.specs.Prefixes.{clean, prefixes_by, clean_prefixes, search_by}
use Rattle.model.proofs.PrefixLaws.{clean-listed}
use Rattle.pruning.proofs.UnprunedLaws.{unpruned-clean}
use Rattle.candidate.specs.CandidateLines.{start_wrong}
use Rattle.table.specs.Counts.{Small}
use Rattle.search.specs.Replies.{max_allowance, start_lines, reply_of, length_of, prefix_length}
use Rattle.search.proofs.CallLaws.{count_small}
use Rattle.bench.specs.Search.{Searched, of_block, of_block_pruned, of_text, lines_to, refusal_to, reply_to, text_reply, text_buffer}
use Rattle.bench.specs.TextReplies.{text_reply_of, text_length_of}
use Rattle.std.specs.Prelude.{Result, Ok, Err}
use Rattle.refusals.specs.declared.Refusal.{Refusal}
use Rattle.text.specs.declared.TextRefusal.{TextRefusal}
use Rattle.text.specs.declared.TextRefusal.TheVariants as text
use Rattle.witness_walk.specs.declared.Ending.{Ending}
use Rattle.text.specs.Texts.{text_refusal}
use Rattle.bench.specs.Demands.{Promised, call_of}
use Rattle.bench.proofs.EntryLaws.{small-read, good-text}
use Rattle.witness_walk.specs.declared.Ending.TheVariants.{Found, NoneLeft, Spent}
use Rattle.answer_word.specs.Words.{word, reply_word}
use Rattle.answer_word.specs.Given.{given_word, text_given_word, GivenFits, TextGivenFits}
use Rattle.capi.proofs.PlaceLaws.{reply-place}

-- what has room in a word, of an answer and of a reply
abbrev AnswerFits : Answer → Type 0
AnswerFits (found p v) = (length p < 256) × (v < 2 ^ 32)
AnswerFits (none_left v) = v < 2 ^ 32
AnswerFits (spent p v) = (length p < 256) × (v < 2 ^ 32)

abbrev ReplyFits : Reply Refused Answer → Type 0
ReplyFits (refused r) = Unit {0}
ReplyFits (answered a) = AnswerFits a

-- along any list of short prefixes, from a short start
seek-fits : (goal : List ℕ → Bool) (l : List (List ℕ)) (s : List ℕ) (b n : ℕ) → length s < 256 → ((p : List ℕ) → p ∈ l → length p < 256) →
    n + b < 2 ^ 32 → AnswerFits (seek goal l s b n)
unfolding seek
seek-fits goal [] s b n h k r = omega arith
seek-fits goal (p ∷ l) s zero n h k r = (h, omega arith)
seek-fits goal (p ∷ l) s (suc b) n h k r =
    go (goal p) (seek-fits goal l p b (suc n) short (λ q m. k q (Memᴰ.tail m)) (omega arith))
  where
    short : length p < 256
    short = k p (Memᴰ.head refl)

    go : (g : Bool) → AnswerFits (seek goal l p b (suc n)) → AnswerFits (pick g (found p (suc n)) (seek goal l p b (suc n)))
    go true f = (short, omega arith)
    go false f = f

-- Along the prefixes that pass a test of clean ones.
module _ (t : Table) (small : Small t) (passes : List ℕ → Bool) (cleanly : (p : List ℕ) → passes p ≡ true → clean t p ≡ true) where
  -- a listed prefix has at most the memory events
  listed-short : (l : List ℕ → Bool) (p : List ℕ) → p ∈ prefixes_by t l → length p < 256
  listed-short l p m = omega (arith, (listed-only l (memory_events t) (memory_count t) p m).2, count_small t small)

  -- so has one that passes
  passing-short : (p : List ℕ) → passes p ≡ true → length p < 256
  unfolding clean_prefixes
  passing-short [] h = omega arith
  passing-short (x ∷ p) h = listed-short (clean t) (x ∷ p) ((clean-listed t (x ∷ p)).1 (cons-ne-nil x p, cleanly (x ∷ p) h))

  -- the answer from such a start
  search-fits : (outcome : List ℕ → Bool) (s : List ℕ) (b : ℕ) → passes s ≡ true → b ≤ max_allowance →
      AnswerFits (search_by t passes outcome s b)
  unfolding search_by
  search-fits outcome s b h k =
      subst AnswerFits (sym (seek-answer goal (after s (prefixes_by t passes)) s b))
      (seek-fits goal (after s (prefixes_by t passes)) s b 0 (passing-short s h)
      (λ p m. listed-short passes p (keep-only (less s) (prefixes_by t passes) p m).0) (omega arith))
    where
      goal : List ℕ → Bool
      goal = witness_for t outcome

-- what is used of what is searched: its listed prefixes are clean, and where nothing refuses it, its counts are in range
pub record Bounded (q : Searched) : Type 0 where
  pub cleanly : (p : List ℕ) → q.passes p ≡ true → clean q.table p ≡ true
  pub small : first_line q.table.count q.lines ≡ accepted → Small q.table

module _ (q : Searched) (bounded : Bounded q) (start out : List ℕ) (b : ℕ) where
  reply-fits : ReplyFits (reply_to q start out b)
  unfolding reply_to refusal_to lines_to start_lines start_wrong
  reply-fits = go (refusal_to q start out b) refl
    where
      t : Table
      t = q.table

      go : (r : Refused) → refusal_to q start out b ≡ r → ReplyFits (reply_unless r (search_by t q.passes q.outcome start b))
      go accepted h =
          let both = passed-both t.count q.lines (start_lines t q.passes start out b) h in
          let room = whole-off _ _ _ _ both.1 in
          let rest = whole-off _ _ _ _ room.1 in
          let few = whole-off _ _ _ _ rest.1 in
          search-fits t (bounded.small both.0) q.passes bounded.cleanly q.outcome start b (not-false _ room.0)
          (ltb-false _ _ few.0)
      go (by_line n) h = tt
      go (by_record n k) h = tt
      go (by_place n p) h = tt

-- of the code's reply, whose length is that of its prefix
module _ (out : List ℕ) where
  fits-given : (r : Result Ending Refusal) → length_of r ≡ prefix_length (reply_of r out) → ReplyFits (reply_of r out) → GivenFits r
  fits-given (Err q) e f = tt
  fits-given (Ok (Found len v)) e f = (omega (arith, e, f.0), f.1)
  fits-given (Ok (NoneLeft v)) e f = f
  fits-given (Ok (Spent len v)) e f = (omega (arith, e, f.0), f.1)

  word-given : (r : Result Ending Refusal) → length_of r ≡ prefix_length (reply_of r out) → given_word r ≡ reply_word (reply_of r out)
  word-given (Err q) e = refl
  word-given (Ok (Found len v)) e = ap (λ (n : ℕ). word 7 n 0 0 v) e
  word-given (Ok (NoneLeft v)) e = refl
  word-given (Ok (Spent len v)) e = ap (λ (n : ℕ). word 9 n 0 0 v) e

-- a call, by what its entry promises of it
module _ (q : Searched) (bounded : Bounded q) (start out : List ℕ) (b : ℕ) (after : List ℕ) (r : Result Ending Refusal)
    (h : Promised q start (call_of b out r after)) where
  counts : length_of r ≡ prefix_length (reply_of r after)
  counts = h.1.1 ∙ ap prefix_length (sym h.0)

  -- the reply has room in a word
  pub given-fits : GivenFits r
  given-fits = fits-given after r counts (subst ReplyFits (sym h.0) (reply-fits q bounded start out b))

  -- and its word is that of the definition's reply
  pub given_word_lem : given_word r ≡ reply_word (reply_to q start out b)
  given_word_lem = word-given after r counts ∙ ap reply_word h.0

-- a block, by either engine
pub block-bounded : (s : List ℕ) → Bounded (of_block s)
unfolding read_refusal
block-bounded s = record { cleanly = λ p h. h; small = small-read s }

pub pruned-bounded : (s : List ℕ) → Bounded (of_block_pruned s)
unfolding read_refusal
pruned-bounded s = record { cleanly = unpruned-clean (decoded s); small = small-read s }

-- a text
pub text-bounded : (s : List ℕ) → Bounded (of_text s)
unfolding text_refusal
text-bounded s = record { cleanly = λ p h. h; small = λ ok. (good-text s ok).small }

-- the code's reply to a search of a text, by what its entry promises
module _ (s start out : List ℕ) (b : ℕ) (after : List ℕ) where
  abbrev Ensured : Result Ending TextRefusal → Type 0
  Ensured r =
      (text_reply_of r after ≡ text_reply s start out b)
      × ((after ≡ text_buffer s start out b) × (text_length_of r ≡ prefix_length (text_reply s start out b)))

  pub text-fits : (r : Result Ending TextRefusal) → Ensured r → TextGivenFits r
  text-fits (Err (text.At n place)) h = reply-place s start out b n place h.0
  text-fits (Err (text.Table q)) h = tt
  text-fits (Ok o) h = given-fits (of_text s) (text-bounded s) start out b after (Ok o) h

  pub text-word : (r : Result Ending TextRefusal) → Ensured r → text_given_word r ≡ reply_word (text_reply s start out b)
  text-word (Err q) h = ap reply_word h.0
  text-word (Ok o) h = given_word_lem (of_text s) (text-bounded s) start out b after (Ok o) h
