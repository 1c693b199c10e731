-- The demands hold, of everything that may be handed in.
use Prim.Native.Nat.{ℕ}
use mathlib.Core.Path.{◌≡◌, refl, sym, subst, ◌∙◌}
use mathlib.Core.Option.{Option}
use mathlib.Core.List.{List}
use native.Mathlib.Omega.{arith}
use Rattle.lists.specs.Reply.{answered}
use Rattle.table.specs.declared.Table.{Table}
use Rattle.decode.specs.Decoded.{decoded}
use Rattle.refusals.specs.Lines.{Refused, accepted, by_line, by_record, by_place, Line, first_line, reply_unless}
use Rattle.refusals.specs.Exactly.{Exactly}
use Rattle.refusals.proofs.PassedLaws.{passed-both, unless-refused}
use Rattle.refusals.proofs.ExactlyLaws.{first-exactly}
use Rattle.block.specs.Reading.{reading_lines, read_refusal}
use Rattle.writer.specs.Writing.{writing_lines, write_refusal, written_block}
use Rattle.encode.specs.Encoded.{encoded}
use Rattle.suite_part.proofs.PartLaws.{empty-exactly}
use Rattle.prefixes.specs.Answer.{Answer}
use Rattle.model.specs.Returns.{returns}
use Rattle.model.specs.Verdict.{Verdict, verdict}
use Rattle.model.specs.Says.{Says}
use Rattle.model.proofs.SaysLaws.{says, allowed-exactly}
use Rattle.machine.proofs.MachineLaws.{machine-right}
use Rattle.machine.proofs.BufferLaws.{buffers-right}
use Rattle.advice.specs.Advice.{advice}
use Rattle.advice.specs.Statements.{AdviceRight}
use Rattle.advice.proofs.AdviceLaws.{advice-right}
use Rattle.candidate.specs.Buffers.{written}
use Rattle.search.specs.Replies.{buffer_after}
use Rattle.text.specs.Texts.{text_lines, text_refusal}
use Rattle.bench.specs.Candidate.{verdict_lines, verdict_of, returns_lines, returns_refusal, returns_buffer}
use Rattle.bench.specs.PairRules.{rules_lines, rules_of}
use Rattle.bench.specs.Steps.{machine_lines, machine_reply}
use Rattle.deciding.specs.Replies.{decided_buffer}
use Rattle.bench.specs.Advice.{advise_lines, advice_reply}
use Rattle.bench.specs.Decisions.{decide_lines, decide_reply, decide_buffer}
use Rattle.bench.specs.Search.{of_block, of_block_pruned, refusal_to, reply_to, buffer_left, search_lines, pruned_lines, of_text, text_search_lines}
use Rattle.outcomes.specs.Outcomes.{Listing}
use Rattle.outcome_listing.specs.Replies.{places_after}
use Rattle.bench.specs.Outcomes.{listing_lines, listing_reply, listing_buffer}
use Rattle.bench.specs.Demands.{refusal_in, Unaltered, Demand1, Demand2, Demands, StepMachine, OutcomesListed, AdviceMeans}
use Rattle.bench.proofs.EntryLaws.{tso-read}
use Rattle.bench.proofs.ReplyLaws.{read-memory, block-sound, pruned-sound, text-sound}
use Rattle.bench.proofs.Demand3Laws.{demand3}
use Rattle.bench.proofs.OutcomeLaws.{every-outcome}

-- the refusal in a reply is the one by which it was refused
refusal-in : {A : Type 0} (r : Refused) (a : A) → refusal_in (reply_unless r a) ≡ r
refusal-in accepted a = refl
refusal-in (by_line n) a = refl
refusal-in (by_record n k) a = refl
refusal-in (by_place n p) a = refl

-- a refused search leaves the buffer as it was
reply-unaltered : (r : Refused) (a : Answer) (out : List ℕ) → Unaltered (refusal_in (reply_unless r a)) out (buffer_after (reply_unless r a) out)
reply-unaltered accepted a out h = absurd (h refl)
reply-unaltered (by_line n) a out h = refl
reply-unaltered (by_record n k) a out h = refl
reply-unaltered (by_place n p) a out h = refl

-- and so does a refused listing
listing-unaltered : (r : Refused) (a : Listing) (out : List ℕ) → Unaltered (refusal_in (reply_unless r a)) out (places_after (reply_unless r a) out)
listing-unaltered accepted a out h = absurd (h refl)
listing-unaltered (by_line n) a out h = refl
listing-unaltered (by_record n k) a out h = refl
listing-unaltered (by_place n p) a out h = refl

-- and a refused decision
decision-unaltered : (r : Refused) (a : Option (List ℕ)) (out : List ℕ) →
    Unaltered (refusal_in (reply_unless r a)) out (decided_buffer (reply_unless r a) out)
decision-unaltered accepted a out h = absurd (h refl)
decision-unaltered (by_line n) a out h = refl
decision-unaltered (by_record n k) a out h = refl
decision-unaltered (by_place n p) a out h = refl

-- the answer's refusal is exactly that of its lines
exactly-of : (n : ℕ) (ls : List Line) (r : Refused) → r ≡ first_line n ls → Exactly n ls r
exactly-of n ls r e = subst (Exactly n ls) (sym e) (first-exactly n ls)

demand1 : (s : List ℕ) (t : Table) (rf gmo start out : List ℕ) (a b allowance k : ℕ) → Demand1 s t rf gmo start out a b allowance k
unfolding read_refusal text_refusal write_refusal written_block verdict_of rules_of machine_reply advice_reply decide_reply decide_buffer listing_reply listing_buffer returns_refusal returns_buffer refusal_to reply_to buffer_left
demand1 s t rf gmo start out a b allowance k = record {
  read = first-exactly _ (reading_lines s);
  write = first-exactly _ (writing_lines t out);
  write-unaltered = unless-refused (write_refusal t out) (encoded t) out;
  verdict = exactly-of _ (verdict_lines s rf gmo) _ (refusal-in _ _);
  rules = exactly-of _ (rules_lines s rf) _ (refusal-in _ _);
  step = λ bs. exactly-of _ (machine_lines s bs b) _ (refusal-in _ _);
  advise = exactly-of _ (advise_lines s allowance) _ (refusal-in _ _);
  returns = first-exactly _ (returns_lines s gmo out);
  returns-unaltered = unless-refused (returns_refusal s gmo out) (written (returns (decoded s) gmo) out) out;
  search = exactly-of _ (search_lines s start out allowance) _ (refusal-in _ _);
  search-unaltered = reply-unaltered (refusal_to (of_block s) start out allowance) _ out;
  pruned = exactly-of _ (pruned_lines s start out allowance) _ (refusal-in _ _);
  pruned-unaltered = reply-unaltered (refusal_to (of_block_pruned s) start out allowance) _ out;
  decide = exactly-of _ (decide_lines s out) _ (refusal-in _ _);
  decide-unaltered = decision-unaltered (first_line (decoded s).count (decide_lines s out)) _ out;
  outcome = λ most p. exactly-of _ (listing_lines s p out allowance) _ (refusal-in _ _);
  outcome-unaltered = λ most p. listing-unaltered (first_line (decoded s).count (listing_lines s p out allowance)) _ out;
  text = first-exactly _ (text_lines s);
  text-search = exactly-of _ (text_search_lines s start out allowance) _ (refusal-in _ _);
  text-unaltered = reply-unaltered (refusal_to (of_text s) start out allowance) _ out;
  part = empty-exactly s k;
}

-- an answer wasn't refused, and is the definition's
pub answered-is : {A : Type 0} (r : Refused) (v w : A) → reply_unless r v ≡ answered w → (r ≡ accepted) × (v ≡ w)
answered-is accepted v w e = (refl, cc)
answered-is (by_line n) v w e = absurd (let z : ◌≡◌ {A = ℕ} 0 1 = cc in omega arith)
answered-is (by_record n k) v w e = absurd (let z : ◌≡◌ {A = ℕ} 0 1 = cc in omega arith)
answered-is (by_place n p) v w e = absurd (let z : ◌≡◌ {A = ℕ} 0 1 = cc in omega arith)

abbrev refusal : (s rf gmo : List ℕ) → Refused
refusal s rf gmo = first_line (decoded s).count (verdict_lines s rf gmo)

demand2 : (s rf gmo : List ℕ) → Demand2 s rf gmo
unfolding verdict_of
demand2 s rf gmo = record {
  allowed-exactly = λ v e.
      let q = (answered-is (refusal s rf gmo) (verdict (decoded s) rf gmo) v e).1 in
      let x = allowed-exactly (decoded s) rf gmo in
      (λ h. x.0 (q ∙ h), λ h. sym q ∙ x.1 h);
  first-broken = λ v e. subst (Says (decoded s) rf gmo) (answered-is (refusal s rf gmo) (verdict (decoded s) rf gmo) v e).1 (says (decoded s) rf gmo);
}

pub demands : Demands
demands = (
  demand1,
  demand2,
  (λ s. demand3 (of_block s) (block-sound s)),
  (λ s. demand3 (of_block_pruned s) (pruned-sound s)),
  λ s. demand3 (of_text s) (text-sound s),
)

pub step-machine : StepMachine
step-machine s ok tso = (machine-right (tso-read s ok tso), buffers-right (tso-read s ok tso))

pub outcomes-listed : OutcomesListed
outcomes-listed = every-outcome

pub advice-means : AdviceMeans
unfolding advice_reply advise_lines read_refusal
advice-means s b a e =
    let h = answered-is (first_line (decoded s).count (advise_lines s b)) (advice (decoded s) b) a e in
    let ok = (passed-both _ (reading_lines s) _ h.0).0 in
    subst (AdviceRight (decoded s) b) h.1 (advice-right (decoded s) b (read-memory s ok))
