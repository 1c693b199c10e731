-- From reading to each entry: what a table that was read has, and what the whole refusal is.
use Prim.Native.Nat.{ℕ, ◌≤◌}
use mathlib.Core.Path.{◌≡◌, refl, sym, ap, subst, ◌∙◌}
use mathlib.Core.Bool.{Bool, false}
use native.Mathlib.Omega.{arith}
use mathlib.Core.Option.{Option}
use mathlib.Core.List.{List, ◌++◌}
use lib.ListN.{length, take}
use mathlib.Core.Logic.{◌≢◌}
use Rattle.lists.specs.Reply.{Reply, refused}
use Rattle.table.specs.declared.Table.{Table}
use Rattle.decode.specs.Layout.{edition_of}
use Rattle.decode.specs.Decoded.{decoded}
use Rattle.refusals.specs.Lines.{Refused, accepted, first_line, unless, reply_unless}
use Rattle.refusals.proofs.InRange.{block-asks-range, text-asks-range}
use Rattle.refusals.specs.declared.Refusal.{Refusal}
use Rattle.refusals.specs.TableLines.{text_line7, table_lines_by}
use Rattle.refusals.proofs.LineLaws.{whole-off, place-off}
use Rattle.refusals.proofs.TablePassed.{TablePassed, table-passed-by}
use Rattle.edition.specs.Limits.{two, most_events}
use Rattle.refusals.proofs.PassedLaws.{passed-both, refused-first, passed_first, entry-declined, entry-own, unless-refused}
use Rattle.block.specs.Reading.{reading_lines, read_refusal, read_table, no_table}
use Rattle.block.proofs.ReadingLaws.{passed-table, most-fits}
use Rattle.table.specs.Counts.{Small}
use Rattle.prefixes.specs.Answer.{Answer}
use Rattle.model.specs.Returns.{returns}
use Rattle.model.specs.Verdict.{Verdict, verdict}
use Rattle.model.specs.Witness.{stated_outcome}
use Rattle.placing.specs.GoodTable.{GoodTable}
use Rattle.placing.proofs.GoodTableLaws.{good-table}
use Rattle.candidate.specs.Buffers.{written}
use Rattle.machine.proofs.MachineLaws.{tso-table}
use Rattle.model.specs.Prefixes.{clean}
use Rattle.model.specs.Following.{meets}
use Rattle.text.specs.Texts.{lines_as, text_lines, text_refusal, table_of_text, text_table, condition_of}
use Rattle.text.specs.Accepted.{IfAccepted}
use Rattle.witness_walk.specs.declared.Ending.{Ending}
use Rattle.std.specs.Prelude.{Option as Option·, Result}
use Rattle.search.specs.Begins.{SearchesFor}
use Rattle.search.specs.Replies.{reply_of, length_of, table_reply, buffer_after, prefix_length}
use Rattle.answers.specs.Candidate.{candidate_lines, order_lines}
use Rattle.pair_rules.specs.PairRules.{returned_lines, rules_between}
use Rattle.pair_rules.proofs.PairLaws.{RuledAs}
use Rattle.steps.specs.Replies.{StepAnswer, IfTso, answer_to, step_lines, step_reply}
use Rattle.advice.specs.Advice.{Advice, advice}
use Rattle.advising.specs.Replies.{advice_lines, table_advice}
use Rattle.states.specs.Decisions.{next_witness}
use Rattle.deciding.specs.Replies.{decision_lines, table_decision, decided_buffer, decision_of, order_length, decided_length, Decides}
use Rattle.bench.specs.Candidate.{verdict_lines, verdict_of, returns_lines, returns_refusal, returns_buffer}
use Rattle.bench.specs.PairRules.{rules_lines, rules_of}
use Rattle.bench.specs.Steps.{machine_lines, machine_reply}
use Rattle.bench.specs.Advice.{advise_lines, advice_reply}
use Rattle.bench.specs.Decisions.{decide_lines, decide_reply, decide_buffer}
use Rattle.bench.specs.Search.{Searched, of_block_by, of_text, lines_to, refusal_to, reply_to, buffer_left, text_reply, text_buffer}

module _ (s : List ℕ) (ok : read_refusal s ≡ accepted) where
  -- the table is the one decoded
  pub table-read : read_table s ≡ decoded s
  unfolding read_table
  table-read = ap (λ (r : Refused). unless r (decoded s) no_table) ok

  -- it is good, and so its counts are in range, and each event's hart and location
  pub good-read : GoodTable (decoded s)
  good-read = good-table _ _ _ (decoded s) (block-asks-range (decoded s)) (most-fits (edition_of s)) (passed-table s ok)

  pub small-read : Small (decoded s)
  small-read = good-read.small

  -- and what the machine uses, if it is of model 1
  pub tso-read : IfTso (decoded s)
  tso-read = tso-table _ _ _ (decoded s) (block-asks-range (decoded s)) (most-fits (edition_of s)) (passed-table s ok)

-- The verdict entry.
module _ (s rf gmo : List ℕ) where
  -- reading refuses
  pub verdict-declined : (q : Refused) → q ≡ read_refusal s → q ≢ accepted → refused q ≡ verdict_of s rf gmo
  unfolding verdict_of verdict_lines read_refusal
  verdict-declined = entry-declined (decoded s).count (reading_lines s) (candidate_lines (decoded s) rf gmo) (verdict (decoded s) rf gmo)

  -- it doesn't: the table's lines and the verdict decide
  pub verdict-judged : (t : Table) (j : Reply Refused Verdict) → read_refusal s ≡ accepted → t ≡ decoded s →
      j ≡ reply_unless (first_line t.count (candidate_lines t rf gmo)) (verdict t rf gmo) → j ≡ verdict_of s rf gmo
  unfolding verdict_of verdict_lines read_refusal
  verdict-judged t j ok e h =
      subst (λ (x : Table). j ≡ reply_unless (first_line x.count (candidate_lines x rf gmo)) (verdict x rf gmo)) e h
      ∙ entry-own (decoded s).count (reading_lines s) (candidate_lines (decoded s) rf gmo) (verdict (decoded s) rf gmo) ok

-- The entry for the returned list.
module _ (s gmo out : List ℕ) where
  pub returns-declined : (q : Refused) → q ≡ read_refusal s → q ≢ accepted → (q ≡ returns_refusal s gmo out) × (out ≡ returns_buffer s gmo out)
  unfolding returns_refusal returns_lines returns_buffer read_refusal
  returns-declined q e n =
      (whole, sym (unless-refused q (written (returns (decoded s) gmo) out) out n) ∙ ap (λ (r : Refused). unless r (written (returns (decoded s) gmo) out) out) whole)
    where
      whole : q ≡ first_line (decoded s).count (reading_lines s ++ order_lines (decoded s) gmo out)
      whole = e ∙ sym (refused-first _ (reading_lines s) _ (λ h. n (e ∙ h)))

  pub returns-judged : (t : Table) (r : Refused) (after : List ℕ) → read_refusal s ≡ accepted → t ≡ decoded s →
      (r ≡ first_line t.count (order_lines t gmo out)) × (after ≡ unless (first_line t.count (order_lines t gmo out)) (written (returns t gmo) out) out) →
      (r ≡ returns_refusal s gmo out) × (after ≡ returns_buffer s gmo out)
  unfolding returns_refusal returns_lines returns_buffer read_refusal
  returns-judged t r after ok e h = (g.0 ∙ own, g.1 ∙ ap (λ (q : Refused). unless q (written (returns (decoded s) gmo) out) out) own)
    where
      g : (r ≡ first_line (decoded s).count (order_lines (decoded s) gmo out))
          × (after ≡ unless (first_line (decoded s).count (order_lines (decoded s) gmo out)) (written (returns (decoded s) gmo) out) out)
      g = subst (λ (x : Table). (r ≡ first_line x.count (order_lines x gmo out)) × (after ≡ unless (first_line x.count (order_lines x gmo out)) (written (returns x gmo) out) out)) e h

      own : first_line (decoded s).count (order_lines (decoded s) gmo out) ≡ first_line (decoded s).count (reading_lines s ++ order_lines (decoded s) gmo out)
      own = sym (passed_first _ (reading_lines s) _ ok)

-- The search entries, of whatever is searched.
module _ (q : Searched) (start out : List ℕ) (b : ℕ) where
  abbrev reply : Reply Refused Answer
  reply = reply_to q start out b

  -- a reply with its buffer and length, of one that is the same
  told : (a c : Reply Refused Answer) → a ≡ c → (r : Reply Refused Answer) (after : List ℕ) (len : ℕ) →
      (r ≡ a) × ((after ≡ buffer_after a out) × (len ≡ prefix_length a)) → (r ≡ c) × ((after ≡ buffer_after c out) × (len ≡ prefix_length c))
  told a c e r after len h = (h.0 ∙ e, (h.1.0 ∙ ap (λ (q : Reply Refused Answer). buffer_after q out) e, h.1.1 ∙ ap prefix_length e))

  -- what was handed in is refused
  pub search-declined : (r : Refused) → r ≡ first_line q.table.count q.lines → r ≢ accepted →
      (refused r ≡ reply) × ((out ≡ buffer_left q start out b) × (0 ≡ prefix_length reply))
  unfolding buffer_left reply_to refusal_to lines_to
  search-declined r e n = told (refused r) reply
      (entry-declined q.table.count q.lines _ _ r e n) (refused r) out 0 (refl, (refl, refl))

  -- it isn't: the lines of the call and the search decide
  pub search-answered : (r : Reply Refused Answer) (after : List ℕ) (len : ℕ) → first_line q.table.count q.lines ≡ accepted →
      (let a = table_reply q.table q.passes q.outcome start out b in (r ≡ a) × ((after ≡ buffer_after a out) × (len ≡ prefix_length a))) →
      (r ≡ reply) × ((after ≡ buffer_left q start out b) × (len ≡ prefix_length reply))
  unfolding buffer_left reply_to refusal_to lines_to table_reply
  search-answered r after len ok h = told (table_reply q.table q.passes q.outcome start out b) reply
      (entry-own q.table.count q.lines _ _ ok)
      r after len h

-- Those of blocks, along the prefixes that pass.
module _ (passes : Table → List ℕ → Bool) (s start out : List ℕ) (b : ℕ) where
  pub block-declined : (r : Refused) → r ≡ read_refusal s → r ≢ accepted →
      (refused r ≡ reply (of_block_by passes s) start out b)
      × ((out ≡ buffer_left (of_block_by passes s) start out b) × (0 ≡ prefix_length (reply (of_block_by passes s) start out b)))
  unfolding read_refusal
  block-declined = search-declined (of_block_by passes s) start out b

  pub block-answered : (t : Table) (r : Reply Refused Answer) (after : List ℕ) (len : ℕ) → read_refusal s ≡ accepted → t ≡ decoded s →
      (let a = table_reply t (passes t) (stated_outcome t) start out b in (r ≡ a) × ((after ≡ buffer_after a out) × (len ≡ prefix_length a))) →
      (r ≡ reply (of_block_by passes s) start out b)
      × ((after ≡ buffer_left (of_block_by passes s) start out b) × (len ≡ prefix_length (reply (of_block_by passes s) start out b)))
  unfolding read_refusal
  block-answered t r after len ok e h = search-answered (of_block_by passes s) start out b r after len ok
      (subst (λ (x : Table). let a = table_reply x (passes x) (stated_outcome x) start out b in
      (r ≡ a) × ((after ≡ buffer_after a out) × (len ≡ prefix_length a))) e h)

-- That of texts.
module _ (s start out : List ℕ) (b : ℕ) where
  pub text-declined : (r : Refused) → r ≡ text_refusal s → r ≢ accepted →
      (refused r ≡ text_reply s start out b) × ((out ≡ text_buffer s start out b) × (0 ≡ prefix_length (text_reply s start out b)))
  unfolding text_refusal
  text-declined = search-declined (of_text s) start out b

  -- the words are those of the condition, which the search is for
  pub text-answered : (t : Table) (words : List ℕ) (len : ℕ) (r : Result Ending Refusal) (after : List ℕ) → text_refusal s ≡ accepted →
      t ≡ text_table s → IfAccepted s t words len → SearchesFor t (take len words) start out b r after →
      (reply_of r after ≡ text_reply s start out b)
      × ((after ≡ text_buffer s start out b) × (length_of r ≡ prefix_length (text_reply s start out b)))
  unfolding text_refusal text_table
  text-answered t words len r after ok e known f =
      let a = known ok in
      let h = f (condition_of s) a.coded a.fitting a.known in
      search-answered (of_text s) start out b (reply_of r after) after (length_of r) ok
      (subst (λ (x : Table). let g = table_reply x (clean x) (meets x (condition_of s)) start out b in
      (reply_of r after ≡ g) × ((after ≡ buffer_after g out) × (length_of r ≡ prefix_length g)))
      (e ∙ ap (λ (q : Refused). unless q (table_of_text s) no_table) ok) (h.reply, (h.buffer, h.length)))

-- what reading promised of one that isn't refused
module _ (s : List ℕ) (t : Table) (words : List ℕ) (len : ℕ) (known : IfAccepted s t words len) (ok : text_refusal s ≡ accepted) where
  pub words_inside : len ≤ length words
  words_inside = (known ok).inside

  pub good-given : GoodTable t
  good-given = (known ok).good

-- it has a good table then, with a memory event
module _ (s : List ℕ) (ok : text_refusal s ≡ accepted) where
  pub passed-text : TablePassed (text_line7 (table_of_text s)) (most_events two) false (table_of_text s)
  unfolding text_refusal text_lines lines_as
  passed-text =
      let past1 = whole-off _ _ _ _ ok in
      let past19 = place-off _ _ _ _ _ past1.1 in
      let past20 = place-off _ _ _ _ _ past19.1 in
      table-passed-by _ _ _ _ (passed-both _ (table_lines_by (text_line7 (table_of_text s)) (most_events two) false (table_of_text s)) _ past20.1).0

  pub good-text : GoodTable (table_of_text s)
  good-text = good-table _ (most_events two) false (table_of_text s) (text-asks-range (table_of_text s)) (omega arith) passed-text

-- The entry for the rules of a pair.
module _ (s rf : List ℕ) (a b : ℕ) where
  -- reading refuses
  pub rules-declined : (q : Refused) → q ≡ read_refusal s → q ≢ accepted → refused q ≡ rules_of s rf a b
  unfolding rules_of rules_lines read_refusal
  rules-declined = entry-declined (decoded s).count (reading_lines s) (returned_lines (decoded s) rf) (rules_between (decoded s) rf a b)

  -- it doesn't: the table's lines and rules decide
  pub rules-ruled : (t : Table) (r : Reply Refused (List ℕ)) → read_refusal s ≡ accepted → t ≡ decoded s → RuledAs t rf a b r → r ≡ rules_of s rf a b
  unfolding rules_of rules_lines read_refusal
  rules-ruled t r ok e h =
      subst (λ (x : Table). RuledAs x rf a b r) e h
      ∙ entry-own (decoded s).count (reading_lines s) (returned_lines (decoded s) rf) (rules_between (decoded s) rf a b) ok

-- The entry for a step of the machine.
module _ (s bs : List ℕ) (b : ℕ) where
  -- reading refuses
  pub step-declined : (q : Refused) → q ≡ read_refusal s → q ≢ accepted → refused q ≡ machine_reply s bs b
  unfolding machine_reply machine_lines read_refusal
  step-declined = entry-declined (decoded s).count (reading_lines s) (step_lines (decoded s) bs b) (answer_to (decoded s) bs b)

  -- it doesn't: the machine decides
  pub step-answered : (t : Table) (r : Reply Refused StepAnswer) → read_refusal s ≡ accepted → t ≡ decoded s → r ≡ step_reply t bs b →
      r ≡ machine_reply s bs b
  unfolding machine_reply machine_lines read_refusal step_reply
  step-answered t r ok e h =
      subst (λ (x : Table). r ≡ step_reply x bs b) e h
      ∙ entry-own (decoded s).count (reading_lines s) (step_lines (decoded s) bs b) (answer_to (decoded s) bs b) ok

-- The entry for a decision.
module _ (s start out : List ℕ) where
  -- reading refuses
  pub decide-declined : (q : Refused) → q ≡ read_refusal s → q ≢ accepted →
      (refused q ≡ decide_reply s start out) × ((out ≡ decide_buffer s start out) × (0 ≡ order_length (decide_reply s start out)))
  unfolding decide_buffer decide_reply decide_lines read_refusal
  decide-declined q e n =
      let h = entry-declined (decoded s).count (reading_lines s) (decision_lines (decoded s) out) (next_witness (decoded s) start) q e n in
      (h, (ap (λ (r : Reply Refused (Option (List ℕ))). decided_buffer r out) h, ap order_length h))

  -- it doesn't: the table's line and its witnesses decide
  pub decide-answered : (t : Table) (r : Result (Option· ℕ) Refusal) (after : List ℕ) → read_refusal s ≡ accepted → t ≡ decoded s →
      Decides (table_decision t start out) out after r →
      (decision_of r after ≡ decide_reply s start out)
      × ((after ≡ decide_buffer s start out) × (decided_length r ≡ order_length (decide_reply s start out)))
  unfolding decide_buffer decide_reply decide_lines read_refusal table_decision
  decide-answered t r after ok e h =
      let d = subst (λ (x : Reply Refused (Option (List ℕ))). Decides x out after r)
      (ap (λ (x : Table). reply_unless (first_line x.count (decision_lines x out)) (next_witness x start)) e
      ∙ entry-own (decoded s).count (reading_lines s) (decision_lines (decoded s) out) (next_witness (decoded s) start) ok) h in
      (d.replied, (d.buffer, d.length))

-- The entry for advice.
module _ (s : List ℕ) (b : ℕ) where
  -- reading refuses
  pub advice-declined : (q : Refused) → q ≡ read_refusal s → q ≢ accepted → refused q ≡ advice_reply s b
  unfolding advice_reply advise_lines read_refusal
  advice-declined = entry-declined (decoded s).count (reading_lines s) (advice_lines (decoded s) b) (advice (decoded s) b)

  -- it doesn't: the table's lines and its sets of fences decide
  pub advice-answered : (t : Table) (r : Reply Refused Advice) → read_refusal s ≡ accepted → t ≡ decoded s → r ≡ table_advice t b →
      r ≡ advice_reply s b
  unfolding advice_reply advise_lines read_refusal table_advice
  advice-answered t r ok e h =
      subst (λ (x : Table). r ≡ table_advice x b) e h
      ∙ entry-own (decoded s).count (reading_lines s) (advice_lines (decoded s) b) (advice (decoded s) b) ok
