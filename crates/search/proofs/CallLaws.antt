-- A search call on a table: what is replied and left in the buffer, once its lines and the outcome are known.
use Prim.Native.Nat.{ℕ, ◌≤◌, ◌<◌, ◌^◌}
use mathlib.Core.Path.{◌≡◌, refl, sym, ap, subst, ◌∙◌}
use mathlib.Core.Bool.{Bool, true, false, not}
use mathlib.Core.List.{List, ◌++◌}
use native.Mathlib.Omega.{arith}
use lib.ListN.{length, take, drop, length-take}
use lib.Seq.{take_at, length-take-le}
use lib.Count.{ones, ones-le}
use borrow.Author.Tests.{lt-ltb, le-ltb}
use Rattle.lists.specs.Reply.{Reply, refused, answered}
use Rattle.table.specs.declared.Table.{Table}
use Rattle.table.specs.Events.{memory_count, memory_mask}
use Rattle.table.specs.Counts.{Small}
use Rattle.table.proofs.MemoryLaws.{memory-mask-small, memory-mask-ones}
use Rattle.refusals.specs.Lines.{Refused, accepted, by_line, Line, first_line, reply_unless}
use Rattle.refusals.proofs.LineLaws.{none_here, whole_here, whole-next}
use Rattle.prefixes.specs.Answer.{Answer, none_left}
use Rattle.prefixes.specs.Listed.{after}
use Rattle.prefixes.specs.Statements.{seek}
use Rattle.prefixes.proofs.AnswerLaws.{seek-answer}
use Rattle.model.specs.Witness.{witness_for}
use Rattle.model.specs.Following.{meets}
use Rattle.model.specs.Prefixes.{clean, prefixes_by, search_by}
use Rattle.placing.specs.GoodTable.{GoodTable}
use Rattle.fact_rows.specs.FactRows.{Facts}
use Rattle.fact_rows.specs.ValueRows.{Values}
use Rattle.condition_reader.specs.Words.{code as words_of}
use Rattle.condition_test.specs.Wanted.{Wants}
use Rattle.condition_test.proofs.WantedLaws.{code-wanted}
use Rattle.successors.specs.CleanMasks.{slots, limit, clean_by}
use Rattle.engine.specs.State.{Began}
use Rattle.engine.specs.Entered.{reachable, always}
use Rattle.engine.proofs.EnteredLaws.{reachable-passes, reachable-always}
use Rattle.precedence.specs.Precedence.{predecessor_masks}
use Rattle.candidate.specs.CandidateLines.{start_wrong, order_too_short}
use Rattle.candidate.specs.Buffers.{written}
use Rattle.witness_walk.specs.declared.Ending.{Ending}
use Rattle.witness_walk.specs.declared.Ending.TheVariants.{Found, NoneLeft, Spent}
use Rattle.witness_walk.specs.Ending.{answer_of}
use Rattle.witness_walk.specs.declared.Path.{Path}
use Rattle.witness_walk.specs.Running.{AtMost, Enters, Watching, Follows, LeftOf, Runs, search_from}
use Rattle.witness_walk.proofs.EntersLaws.{enters-always}
use Rattle.witness_walk.proofs.RunLaws.{clean_is}
use Rattle.refusals.specs.declared.Refusal.TheVariants.{Line as Line·}
use Rattle.std.specs.Prelude.{Option, Some, None, Result, Ok, Err}
use Rattle.refusals.specs.declared.Refusal.{Refusal}
use Rattle.search.specs.Begins.{Beginning, BeginsAs, Replied, Searches, SearchesFor}
use Rattle.search.specs.Replies.{reply_of, length_of, max_allowance, start_lines, table_reply, buffer_after, prefix_length}

-- a bound on a prefix's entries may be raised
pub at_most : (o : Ending) (m n : ℕ) → m ≤ n → AtMost m o → AtMost n o
at_most (Found len v) m n h a = omega arith
at_most (NoneLeft v) m n h a = tt
at_most (Spent len v) m n h a = omega arith

-- a prefix copied to the buffer's front: it stands there, the bytes past it stay, and its length is the one said
pub copied : (say : List ℕ → Answer) (len : ℕ) (order out after : List ℕ) → len ≤ length order → after ≡ take len order ++ drop len out →
    (◌≡◌ {A = Reply Refused Answer} (answered (say (take len after))) (answered (say (take len order))))
    × ((after ≡ written (take len order) out) × (len ≡ length (take len order)))
copied say len order out after h w = (
  ap {B = Reply Refused Answer} (λ (p : List ℕ). answered (say p)) (ap (take len) w ∙ take_at (take len order) (drop len out) len e),
  (w ∙ ap (λ (n : ℕ). take len order ++ drop n out) (sym e), sym e),
)
  where
    e : length (take len order) ≡ len
    e = length-take-le len order h

-- none left hands out nothing
module _ {o : Ending} {v : ℕ} (e : o ≡ NoneLeft v) (order out : List ℕ) where
  pub none_said : ◌≡◌ {A = Reply Refused Answer} (answered (none_left v)) (answered (answer_of o order))
  none_said = rw e

  pub none_written : out ≡ buffer_after (answered (answer_of o order)) out
  none_written = rw e

  pub none-counted : 0 ≡ prefix_length (answered (answer_of o order))
  none-counted = rw e

module _ (t : Table) (passes outcome : List ℕ → Bool) (start out : List ℕ) (b : ℕ) where
  abbrev lines : List Line
  lines = start_lines t passes start out b

  abbrev reply : Reply Refused Answer
  reply = table_reply t passes outcome start out b

  -- a line refuses: nothing is written
  pub call-refused : (n : ℕ) → by_line n ≡ first_line t.count lines →
      (refused (by_line n) ≡ reply)
      × ((out ≡ buffer_after reply out) × (0 ≡ prefix_length reply))
  unfolding table_reply
  call-refused n e =
      let r = ap (λ (q : Refused). reply_unless q (search_by t passes outcome start b)) e in
      (r, (ap (λ (q : Reply Refused Answer). buffer_after q out) r, ap prefix_length r))

  -- no line refuses: the outcome is the search's answer
  pub answer-is : (o : Ending) (order : List ℕ) → accepted ≡ first_line t.count lines →
      answer_of o order ≡ seek (witness_for t outcome) (after start (prefixes_by t passes)) start b 0 → answered (answer_of o order) ≡ reply
  unfolding table_reply search_by
  answer-is o order e ran =
      ap answered (ran ∙ sym (seek-answer (witness_for t outcome) _ start b))
      ∙ ap (λ (q : Refused). reply_unless q (search_by t passes outcome start b)) e

  pub call-answered : (a r : Reply Refused Answer) (len : ℕ) (after : List ℕ) → a ≡ reply →
      (r ≡ a) × ((after ≡ buffer_after a out) × (len ≡ prefix_length a)) →
      (r ≡ reply)
      × ((after ≡ buffer_after reply out) × (len ≡ prefix_length reply))
  call-answered a r len after e h =
      (h.0 ∙ e, (h.1.0 ∙ ap (λ (q : Reply Refused Answer). buffer_after q out) e, h.1.1 ∙ ap prefix_length e))

-- the lines, told one by one
module _ (t : Table) (passes : List ℕ → Bool) (start out : List ℕ) (b : ℕ) where
  abbrev told : List Line
  told = start_lines t passes start out b

  pub start-refused : passes start ≡ false → by_line 15 ≡ first_line t.count told
  unfolding start_lines start_wrong
  start-refused h = whole_here _ _ _ _ (ap not h)

  pub room-refused : passes start ≡ true → length out < memory_count t → by_line 16 ≡ first_line t.count told
  unfolding start_lines start_wrong order_too_short
  room-refused h l = whole-next _ _ _ _ _ (ap not h) (whole_here _ _ _ _ (lt-ltb _ _ l))

  pub allowance-refused : passes start ≡ true → memory_count t ≤ length out → max_allowance < b →
      by_line 17 ≡ first_line t.count told
  unfolding start_lines start_wrong order_too_short
  allowance-refused h l m = whole-next _ _ _ _ _ (ap not h) (whole-next _ _ _ _ _ (le-ltb _ _ l) (whole_here _ _ _ _ (lt-ltb _ _ m)))

  pub none-refused : passes start ≡ true → memory_count t ≤ length out → b ≤ max_allowance →
      accepted ≡ first_line t.count told
  unfolding start_lines start_wrong order_too_short
  none-refused h l m =
      whole-next _ _ _ _ _ (ap not h) (whole-next _ _ _ _ _ (le-ltb _ _ l) (whole-next _ _ _ _ _ (le-ltb _ _ m) (none_here _)))

-- the mask of a table's memory events
module _ (t : Table) {mem : ℕ} (m : mem ≡ memory_mask t) where
  pub mask-small : GoodTable t → mem < 2 ^ limit
  mask-small good = subst (λ (x : ℕ). x < 2 ^ limit) (sym m) (memory-mask-small t limit (omega (arith, good.small.events)))

  -- its ones count them
  pub counted : ones mem ≡ memory_count t
  counted = ap ones m ∙ memory-mask-ones t

-- a table has fewer of them than slots
pub count_small : (t : Table) → Small t → memory_count t ≤ slots
count_small t small =
    subst (λ (x : ℕ). x ≤ slots) (memory-mask-ones t)
    (ones-le slots (memory_mask t) (memory-mask-small t slots (omega (arith, small.events))))

-- the length that a reply says is within the buffer that its prefix is read off
pub length-within : (r : Result Ending Refusal) (out : List ℕ) → length_of r ≡ prefix_length (reply_of r out) → length_of r ≤ length out
length-within (Err q) out e = omega arith
length-within (Ok (Found len v)) out e = omega (arith, e, length-take len out)
length-within (Ok (NoneLeft v)) out e = omega arith
length-within (Ok (Spent len v)) out e = omega (arith, e, length-take len out)

-- How a start begins: it isn't clean;
pub begins-unclean : {facts : List (List ℕ)} {preds : List ℕ} {mem watched : ℕ} (start order goods : List ℕ) → clean_by preds mem start ≡ false →
    BeginsAs facts preds mem watched start order goods None
begins-unclean start order goods h t enters w = reachable-passes enters (clean t) start (sym (clean_is w start) ∙ h)

module _ {facts : List (List ℕ)} {preds start order : List ℕ} {mem watched : ℕ} (goods : List ℕ) {len placed can : ℕ}
    (began : Began preds mem start order len placed can) where
  -- a proper prefix of it isn't entered;
  pub begins-cut : Follows facts watched order goods len can None → BeginsAs facts preds mem watched start order goods None
  begins-cut f t enters w =
      ap (reachable (clean t) enters) (sym began.same)
      ∙ f t enters w.known w.entering (sym (clean_is w (take len order)) ∙ began.holds.clean)

  -- a walk gets to it
  pub begins-at : {later : ℕ} → Follows facts watched order goods len can (Some later) → LeftOf can (Some later) →
      length goods ≡ slots →
      Beginning facts preds mem watched start order goods (record { keep = len; masks = record { placed = placed; can = can }; later = later })
  begins-at f l long = record {
    same = began.same;
    holds = began.holds;
    left = l;
    long = long;
    begun = λ t enters w. f t enters w.known w.entering (sym (clean_is w (take len order)) ∙ began.holds.clean);
  }

-- The replies of a call, for each outcome that the words say and each list that the watched readers make.
module _ {t : Table} {facts : List (List ℕ)} {preds : List ℕ} {mem watched : ℕ} (f : Facts t facts) (p : preds ≡ predecessor_masks t)
    (m : mem ≡ memory_mask t) (start out : List ℕ) (b : ℕ) where
  watch : {enters : List ℕ → Bool} → Enters t watched enters → Watching t facts preds mem watched enters
  watch e = record { known = f; predecessors = p; memory = m; entering = e }

  -- refused by a line
  line-replied : {words : List ℕ} (n : ℕ) → ((enters : List ℕ → Bool) → Enters t watched enters →
      by_line n ≡ first_line t.count (start_lines t (reachable (clean t) enters) start out b)) →
      Searches t facts words watched start out b (Err (Line· n)) out
  line-replied n f outcome enters e k =
      let r = call-refused t (reachable (clean t) enters) outcome start out b n (f enters e) in
      record { reply = r.0; buffer = r.1.0; length = r.1.1 }

  pub unlisted-replied : {words : List ℕ} (order goods : List ℕ) (begun : Option Path) → ((p : Path) → begun ≡ Some p → ⊥) →
      BeginsAs facts preds mem watched start order goods begun → Searches t facts words watched start out b (Err (Line· 15)) out
  unlisted-replied order goods (Some p) n u = absurd (n p refl)
  unlisted-replied order goods None n u = line-replied 15 (λ enters e. start-refused t (reachable (clean t) enters) start out b (u t enters (watch e)))

  module _ {order goods : List ℕ} {from : Path} (g : Beginning facts preds mem watched start order goods from) where
    listed : {enters : List ℕ → Bool} → Enters t watched enters → reachable (clean t) enters start ≡ true
    listed {enters} e = ap (reachable (clean t) enters) (sym g.same) ∙ (g.begun t enters (watch e)).reached

    pub room-replied : {words : List ℕ} → length out < memory_count t → Searches t facts words watched start out b (Err (Line· 16)) out
    room-replied h = line-replied 16 (λ enters e. room-refused t (reachable (clean t) enters) start out b (listed e) h)

    pub allowance-replied : {words : List ℕ} → memory_count t ≤ length out → max_allowance < b → Searches t facts words watched start out b (Err (Line· 17)) out
    allowance-replied h k = line-replied 17 (λ enters e. allowance-refused t (reachable (clean t) enters) start out b (listed e) h k)

    -- the answer of the walk, handed out
    pub walk-replied : {words : List ℕ} (o : Ending) (last : List ℕ) (r : Result Ending Refusal) (left : List ℕ) → memory_count t ≤ length out → b ≤ max_allowance →
        Runs facts words preds mem watched order goods from b o last →
        (reply_of r left ≡ answered (answer_of o last)) × ((left ≡ buffer_after (answered (answer_of o last)) out)
        × (length_of r ≡ prefix_length (answered (answer_of o last)))) →
        Searches t facts words watched start out b r left
    walk-replied o last r left h k ran d outcome enters e f =
        let run = ran t outcome enters (watch e) f (g.begun t enters (watch e)) in
        let said = answer-is t (reachable (clean t) enters) outcome start out b o last
        (none-refused t (reachable (clean t) enters) start out b (listed e) h k)
        (subst (λ (q : List ℕ). answer_of o last ≡ search_from t outcome enters q b 0) g.same run) in
        let c = call-answered t (reachable (clean t) enters) outcome start out b (answered (answer_of o last)) (reply_of r left)
        (length_of r) left said d in
        record { reply = c.0; buffer = c.1.0; length = c.1.1 }

-- along the clean prefixes, where no reader is watched
pub replied-always : {t : Table} {facts : List (List ℕ)} {words : List ℕ} (outcome : List ℕ → Bool) (start out : List ℕ) (b : ℕ)
    {r : Result Ending Refusal} {after : List ℕ} → Wants t facts words outcome → Searches t facts words 0 start out b r after →
    Replied t (clean t) outcome start out b r after
replied-always {t} outcome start out b {r} {after} w s =
    subst (λ (ok : List ℕ → Bool). Replied t ok outcome start out b r after) (reachable-always (clean t))
    (s outcome always (enters-always t) (record { wanted = w; witnesses = λ gmo h. refl }))

-- for a condition, whose words these are
pub replied-for : {t : Table} {facts : List (List ℕ)} {words : List ℕ} (start out : List ℕ) (b : ℕ) {r : Result Ending Refusal} {after : List ℕ} →
    Values t facts → Searches t facts words 0 start out b r after → SearchesFor t words start out b r after
replied-for {t} {facts} start out b {r} {after} v s c e f known =
    replied-always {words = words_of c} (meets t c) start out b (code-wanted t facts c f known v)
    (subst (λ (ws : List ℕ). Searches t facts ws 0 start out b r after) e s)
