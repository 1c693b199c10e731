-- The three demands, each one record, over any bytes, lists, numbers and buffers.
use Rattle.std.specs.Prelude.{ℕ, ◌≤◌, ◌≡◌, Bool, true, false, not, List, [], ◌∷◌, ◌↔◌, ◌≢◌, ◌⊎◌, length, Result}
use Rattle.std.proofs.Math.Option.{Option, none}
use Rattle.lists.specs.Lists.{◌∈◌, keep}
use Rattle.lists.specs.Reply.{Reply, refused, answered}
use Rattle.lists.specs.Ascending.{less, Ascending}
use Rattle.table.specs.declared.Table.{Table}
use Rattle.table.specs.Annotations.{rvtso}
use Rattle.decode.specs.Decoded.{decoded}
use Rattle.refusals.specs.Lines.{Refused, accepted, first_line, unless}
use Rattle.refusals.specs.Exactly.{Exactly}
use Rattle.block.specs.Reading.{reading_lines, read_refusal}
use Rattle.writer.specs.Writing.{writing_lines, write_refusal, written_block}
use Rattle.suite_part.specs.Part.{block_of, in_suite}
use Rattle.prefixes.specs.Answer.{Answer}
use Rattle.prefixes.specs.Walk.{start_after, reached, handed, visited, finished}
use Rattle.prefixes.specs.Statements.{Final}
use Rattle.model.specs.Verdict.{Verdict, allowed}
use Rattle.model.specs.Says.{AllHold, Says}
use Rattle.model.specs.Witness.{witness_for}
use Rattle.model.specs.Prefixes.{prefixes_by}
use Rattle.machine.specs.Statements.{MachineRight, BuffersRight}
use Rattle.advice.specs.Advice.{Advice}
use Rattle.advice.specs.Statements.{AdviceRight}
use Rattle.text.specs.Texts.{table_of_text, text_lines, text_refusal}
use Rattle.witness_walk.specs.declared.Ending.{Ending}
use Rattle.refusals.specs.declared.Refusal.{Refusal}
use Rattle.search.specs.Replies.{reply_of, length_of, prefix_length}
use Rattle.bench.specs.Candidate.{verdict_lines, verdict_of, returns_lines, returns_refusal, returns_buffer}
use Rattle.bench.specs.PairRules.{rules_lines, rules_of}
use Rattle.bench.specs.Steps.{machine_lines, machine_reply}
use Rattle.bench.specs.Outcomes.{listing_lines, listing_reply, listing_buffer, OutcomeCall, OutcomeCalls, EveryOutcome}
use Rattle.bench.specs.Advice.{advise_lines, advice_reply}
use Rattle.bench.specs.Decisions.{decide_lines, decide_reply, decide_buffer}
use Rattle.bench.specs.Decisions.{DecideCall, DecidePromised, DecideCalls, next_start, orders_given, said_no_other}
use Rattle.bench.specs.Search.{Searched, of_block, of_block_pruned, reply_to, buffer_left, search_lines, search_reply, search_buffer}
use Rattle.bench.specs.Search.{pruned_lines, pruned_reply, pruned_buffer, of_text, text_search_lines, text_reply, text_buffer}

-- Demand 1. Any bytes, lists and numbers may be handed in; each entry gives the refusal that the paper names, and then changes
-- nothing that it was lent. (That every call ends without a fault is what the prover asks of each function.)

-- the refusal in a reply, if any
abbrev pub refusal_in : {A : Type 0} → Reply Refused A → Refused
refusal_in (refused r) = r
refusal_in (answered a) = accepted

-- "No refusal alters any buffer."
abbrev pub Unaltered : Refused → List ℕ → List ℕ → Type 0
Unaltered r before after = r ≢ accepted → after ≡ before

-- s: a block's bytes, a suite's or a text's; t: a table; rf, gmo, start: a returned list, an order, a search's start; out: the buffer
module _ (s : List ℕ) (t : Table) (rf gmo start out : List ℕ) (a b allowance k : ℕ) where
  pub record Demand1 : Type 0 where
    -- reading: lines 1 to 11 and 21
    pub read : Exactly (decoded s).count (reading_lines s) (read_refusal s)
    -- writing: lines 1, 5 to 11 and 21
    pub write : Exactly t.count (writing_lines t out) (write_refusal t out)
    pub write-unaltered : Unaltered (write_refusal t out) out (written_block t out)
    -- the verdict for a candidate: lines 1 to 14
    pub verdict : Exactly (decoded s).count (verdict_lines s rf gmo) (refusal_in (verdict_of s rf gmo))
    -- the rules of a pair: lines 1 to 12 and 14
    pub rules : Exactly (decoded s).count (rules_lines s rf) (refusal_in (rules_of s rf a b))
    -- a step of the machine: lines 1 to 11, 21 and 24
    pub step : (bs : List ℕ) → Exactly (decoded s).count (machine_lines s bs b) (refusal_in (machine_reply s bs b))
    -- advice: lines 1 to 11, 21, 22 and 17
    pub advise : Exactly (decoded s).count (advise_lines s allowance) (refusal_in (advice_reply s allowance))
    -- the returned list of an order: lines 1 to 13 and 16
    pub returns : Exactly (decoded s).count (returns_lines s gmo out) (returns_refusal s gmo out)
    pub returns-unaltered : Unaltered (returns_refusal s gmo out) out (returns_buffer s gmo out)
    -- a search: lines 1 to 11, 21 and 15 to 17
    pub search : Exactly (decoded s).count (search_lines s start out allowance) (refusal_in (search_reply s start out allowance))
    pub search-unaltered : Unaltered (refusal_in (search_reply s start out allowance)) out (search_buffer s start out allowance)
    -- the same by the second engine, whose line 15 is over its own list
    pub pruned : Exactly (decoded s).count (pruned_lines s start out allowance) (refusal_in (pruned_reply s start out allowance))
    pub pruned-unaltered : Unaltered (refusal_in (pruned_reply s start out allowance)) out (pruned_buffer s start out allowance)
    -- a decision: lines 1 to 11, 21 and 16
    pub decide : Exactly (decoded s).count (decide_lines s out) (refusal_in (decide_reply s start out))
    pub decide-unaltered : Unaltered (refusal_in (decide_reply s start out)) out (decide_buffer s start out)
    -- outcomes listed, of at most `most`: lines 1 to 11, 21, 12, 16 and 17; previous: the outcome that was given last
    pub outcome : (most : ℕ) (previous : List ℕ) →
        Exactly (decoded s).count (listing_lines s previous out allowance) (refusal_in (listing_reply most s previous out allowance))
    pub outcome-unaltered : (most : ℕ) (previous : List ℕ) →
        Unaltered (refusal_in (listing_reply most s previous out allowance)) out (listing_buffer most s previous out allowance)
    -- reading a text: line 1, the first breach by 19 or 20 with its place, lines 5 to 11, 23 and 21
    pub text : Exactly (table_of_text s).count (text_lines s) (text_refusal s)
    -- a search of a text: these, and lines 15 to 17
    pub text-search : Exactly (table_of_text s).count (text_search_lines s start out allowance) (refusal_in (text_reply s start out allowance))
    pub text-unaltered : Unaltered (refusal_in (text_reply s start out allowance)) out (text_buffer s start out allowance)
    -- block k of a suite, line 18: "then, and only then, an empty part is handed back"
    pub part : (block_of s k ≡ []) ↔ (in_suite s k ≡ false)

-- Demand 2. For a candidate (a returned list and an order) the verdict is that of the published rules.
module _ (s rf gmo : List ℕ) where
  pub record Demand2 : Type 0 where
    -- a verdict that isn't refused is allowed exactly when preserved order, load value, atomicity, the values read and the final
    -- values hold for the returns given
    pub allowed-exactly : (v : Verdict) → verdict_of s rf gmo ≡ answered v → (v ≡ allowed) ↔ AllHold (decoded s) rf gmo
    -- otherwise what it names is broken, everything before it in the verdict order holds, and it is the lowest
    pub first-broken : (v : Verdict) → verdict_of s rf gmo ≡ answered v → Says (decoded s) rf gmo v

-- Demand 3. One claim over any list of search calls on the same bytes.

-- Of what is searched. "Bytes that reading declines hold no table, and so have no clean prefix and no witness."
module _ (q : Searched) where
  -- the refusal of what was handed in, whatever the call
  unfoldable pub refusal : Refused
  refusal = first_line q.table.count q.lines

  -- the order is a witness
  unfoldable pub is_witness : List ℕ → Bool
  is_witness gmo = unless refusal (witness_for q.table q.outcome gmo) false

  -- the list passes the test of prefixes (for a block: it is a clean prefix)
  unfoldable pub is_listed : List ℕ → Bool
  is_listed p = unless refusal (q.passes p) false

  -- the listed prefixes
  unfoldable pub prefixes : List (List ℕ)
  prefixes = unless refusal (prefixes_by q.table q.passes) []

-- a call: "Each has any allowance and any answer buffer, too short ones included." What it was answered in the paper's words, its
-- prefix read off the buffer "at the length answered", that length, and the buffer then
pub record Call : Type 0 where
  pub allowance : ℕ
  pub buffer : List ℕ
  pub told : Reply Refused Answer
  pub said_length : ℕ
  pub after : List ℕ

-- a call with the code's reply: what `bench::search` and `bench::search_pruned` ensure is what is promised of it
abbrev pub call_of : (allowance : ℕ) (buffer : List ℕ) → Result Ending Refusal → (after : List ℕ) → Call
call_of allowance buffer r after =
    record { allowance = allowance; buffer = buffer; told = reply_of r after; said_length = length_of r; after = after }

module _ (q : Searched) where
  -- what the entry (for a block `bench::search`, for a text `bench::search_text`) ensures of a call from a start
  abbrev pub Promised : List ℕ → Call → Type 0
  Promised start c =
      (c.told ≡ reply_to q start c.buffer c.allowance)
      × ((c.after ≡ buffer_left q start c.buffer c.allowance)
      × (c.said_length ≡ prefix_length (reply_to q start c.buffer c.allowance)))

  -- "A walk is a list of search calls, refused ones included, all given the same table bytes": each from the start that those
  -- before it left
  abbrev pub Walk : List ℕ → List Call → Type 0
  Walk start [] = Unit {0}
  Walk start (c ∷ cs) = Promised start c × Walk (start_after start c.told) cs

-- "The first start is empty."
module _ (cs : List Call) where
  abbrev pub start_reached : List ℕ
  start_reached = reached (λ start c. c.told) [] cs

  abbrev pub handed_out : List (List ℕ)
  handed_out = handed (λ start c. c.told) [] cs

  abbrev pub visited_numbers : ℕ
  visited_numbers = visited (λ start c. c.told) [] cs

  abbrev pub is_finished : Bool
  is_finished = finished (λ start c. c.told) [] cs

abbrev pub FinalReply : Reply Refused Answer → Type 0
FinalReply (refused r) = ⊥
FinalReply (answered a) = Final a

module _ (q : Searched) (cs : List Call) where
  pub record Demand3 : Type 0 where
    -- the orders handed out are exactly the witnesses that aren't greater than the start reached
    pub exact : (gmo : List ℕ) → (gmo ∈ handed_out cs) ↔ ((is_witness q gmo ≡ true) × (less (start_reached cs) gmo ≡ false))
    -- each once, ascending
    pub ascending : Ascending (handed_out cs)
    -- if a call said none are left, there is no other
    pub complete : is_finished cs ≡ true → (gmo : List ℕ) → is_witness q gmo ≡ true → gmo ∈ handed_out cs
    -- the visited numbers of found and spent add up to the number of listed prefixes not greater than the start reached
    pub counted : visited_numbers cs ≡ length (keep (λ p. not (less (start_reached cs) p)) (prefixes q))
    -- "A walk is finished once a call has said none left, and calls the outcome forbidden if it has handed out no order."
    pub forbidden : is_finished cs ≡ true → (handed_out cs ≡ []) ↔ ((gmo : List ℕ) → is_witness q gmo ≡ false)
    -- the listed prefixes are the nonempty ones that pass (for a block, the clean ones), each once, ascending
    pub listed : (p : List ℕ) → (p ∈ prefixes q) ↔ ((p ≢ []) × (is_listed q p ≡ true))
    pub in_order : Ascending (prefixes q)
    -- what reading declines: every call is refused
    pub declined : refusal q ≢ accepted → (start : List ℕ) (c : Call) → Promised q start c → c.told ≡ refused (refusal q)
    -- from one start a larger allowance, if not refused, never alters found or none left, its visited number or its bytes,
    -- whatever the two buffers are
    pub larger-allowance : (start : List ℕ) (c d : Call) → Promised q start c → Promised q start d → c.allowance ≤ d.allowance
        → FinalReply c.told → refusal_in d.told ≡ accepted → d.told ≡ c.told

-- the demands, of everything that may be handed in
abbrev pub Demands : Type 0
Demands =
    ((s : List ℕ) (t : Table) (rf gmo start out : List ℕ) (a b allowance k : ℕ) → Demand1 s t rf gmo start out a b allowance k)
    × ((s rf gmo : List ℕ) → Demand2 s rf gmo)
    × ((s : List ℕ) (cs : List Call) → Walk (of_block s) [] cs → Demand3 (of_block s) cs)
    -- "and so does demand 3 for its walks; a walk keeps to one engine"
    × ((s : List ℕ) (cs : List Call) → Walk (of_block_pruned s) [] cs → Demand3 (of_block_pruned s) cs)
    -- "in demand 3 the stated outcome is the condition"
    × ((s : List ℕ) (cs : List Call) → Walk (of_text s) [] cs → Demand3 (of_text s) cs)

-- "Walked from the beginning until none are left, both engines hand out the same witnesses in the same order."
abbrev pub BothEngines : Type 0
BothEngines =
    (s : List ℕ) (cs ds : List Call) → Walk (of_block s) [] cs → Walk (of_block_pruned s) [] ds →
    is_finished cs ≡ true → is_finished ds ≡ true → handed_out cs ≡ handed_out ds

-- "The order of drains, loads, LRs and AMOs in complete runs covers exactly the lawful orders of model 1, with the same returns."
abbrev pub StepMachine : Type 0
StepMachine =
    (s : List ℕ) → read_refusal s ≡ accepted → (decoded s).model ≡ rvtso → MachineRight (decoded s) × BuffersRight (decoded s)

-- "Outcomes come in ascending order, each once": one claim over any list of calls on the same bytes
abbrev pub OutcomesListed : Type 0
OutcomesListed = (s : List ℕ) (cs : List OutcomeCall) → OutcomeCalls s [] cs → EveryOutcome s cs

-- Decisions: one claim over any list of calls on the same bytes, of witnesses as in demand 3.
module _ (s : List ℕ) (cs : List DecideCall) where
  pub record EveryWitness : Type 0 where
    -- the orders given are exactly the witnesses that aren't greater than the start reached
    pub exact : (gmo : List ℕ) →
        (gmo ∈ orders_given cs) ↔ ((is_witness (of_block s) gmo ≡ true) × (less (next_start cs) gmo ≡ false))
    -- each once, ascending
    pub ascending : Ascending (orders_given cs)
    -- if a call said that there is no other, there is none
    pub complete : said_no_other cs ≡ true → (gmo : List ℕ) → is_witness (of_block s) gmo ≡ true → gmo ∈ orders_given cs
    -- and then no order was given exactly where no order is a witness
    pub forbidden : said_no_other cs ≡ true → (orders_given cs ≡ []) ↔ ((gmo : List ℕ) → is_witness (of_block s) gmo ≡ false)
    -- what reading declines: every call is refused
    pub declined : refusal (of_block s) ≢ accepted → (start : List ℕ) (c : DecideCall) → DecidePromised s start c →
        c.told ≡ refused (refusal (of_block s))

abbrev pub WitnessesDecided : Type 0
WitnessesDecided = (s : List ℕ) (cs : List DecideCall) → DecideCalls s [] cs → EveryWitness s cs

-- the first answer, if it isn't a refusal, is none exactly if no order is a witness
abbrev pub FirstDecision : Type 0
FirstDecision =
    (s out : List ℕ) (o : Option (List ℕ)) → decide_reply s [] out ≡ answered o →
    (o ≡ none) ↔ ((gmo : List ℕ) → is_witness (of_block s) gmo ≡ false)

-- decisions agree with every finished walk of either engine: they give the same orders in the same order, and the first answer, if it
-- isn't a refusal, is none exactly if the walk has handed out no order
abbrev pub DecisionAgrees : Type 0
DecisionAgrees =
    (s : List ℕ) (cs : List Call) → (Walk (of_block s) [] cs ⊎ Walk (of_block_pruned s) [] cs) → is_finished cs ≡ true →
    ((ds : List DecideCall) → DecideCalls s [] ds → said_no_other ds ≡ true → orders_given ds ≡ handed_out cs)
    × ((out : List ℕ) (o : Option (List ℕ)) → decide_reply s [] out ≡ answered o → (o ≡ none) ↔ (handed_out cs ≡ []))

-- "No smaller set than the one advised forbids the outcome", nor does one of its size that is tried before it, and with it no order is a
-- witness; before a set that is undecided each leaves a witness; where fences don't help, all sets do.
abbrev pub AdviceMeans : Type 0
AdviceMeans = (s : List ℕ) (b : ℕ) (a : Advice) → advice_reply s b ≡ answered a → AdviceRight (decoded s) b a
