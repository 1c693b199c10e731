-- Worked cases: events and tables in few words, and what can be stated of them. x, y, z, v are locations 0 to 3. Numbers are the
-- paper's, and not names of the definitions, which the cases are to hold.
use Rattle.std.specs.Prelude.{ℕ, suc, max, ◌-◌, ◌≡◌, Bool, true, false, cond, List, [], ◌∷◌, ◌++◌, map, length, replicate}
use Rattle.lists.specs.Below.{below}
use Rattle.lists.specs.Lists.{kept, keep}
use Rattle.edition.specs.Limits.{Edition, one, two, most_events}
use Rattle.table.specs.declared.Event.{Event}
use Rattle.table.specs.declared.Table.{Table}
use Rattle.table.specs.Events.{reads}
use Rattle.refusals.specs.Lines.{Refused, accepted, first_line}
use Rattle.refusals.specs.TableLines.{text_line7, line21, table_lines_by, table_lines}
use Rattle.text_format.specs.Condition.{Condition}
use Rattle.prefixes.specs.Answer.{Answer}
use Rattle.model.specs.Rules.{ppo, static_ppo, rule_set}
use Rattle.model.specs.Returns.{returns}
use Rattle.model.specs.Axioms.{breaks_atomicity, atomicity_writer, preserved_order, load_value, atomicity, values_read, final_values}
use Rattle.model.specs.Witness.{is_order, lawful, witness}
use Rattle.model.specs.Verdict.{Verdict, verdict}
use Rattle.model.specs.Prefixes.{clean, clean_prefixes, search, witnesses}
use Rattle.model.specs.Settled.{settled, spoiled, unpruned, unpruned_prefixes, search_pruned}
use Rattle.model.specs.Following.{returned_value, end_value, meets as meetsCondition, names_unknown, names_location}

abbrev pub x : ℕ
x = 0

abbrev pub y : ℕ
y = 1

abbrev pub z : ℕ
z = 2

abbrev pub v : ℕ
v = 3

-- an event of a kind, on a hart, at a location, with the values read and written
abbrev pub access : (kind hart location read written : ℕ) → Event
access k h l r w =
    record { kind = k; hart = h; location = record { 0 = l }; flags = 0; addr = 0; «data» = 0; ctrl = 0; read = r; written = w; operation = 0; operand = 0 }

-- "Kinds: 1 load, 2 store, 3 AMO, 4 LR, 5 SC, 6 fence, 7 fence.tso."
abbrev pub loads : (hart location read : ℕ) → Event
loads h l r = access 1 h l r 0

abbrev pub stores : (hart location written : ℕ) → Event
stores h l w = access 2 h l 0 w

-- an AMO without an operation
abbrev pub swaps : (hart location read written : ℕ) → Event
swaps h l r w = access 3 h l r w

-- an LR
abbrev pub reserved : (hart location read : ℕ) → Event
reserved h l r = access 4 h l r 0

-- an SC
abbrev pub conditional : (hart location written : ℕ) → Event
conditional h l w = access 5 h l 0 w

-- a slot past the events
abbrev pub blank_event : Event
blank_event = access 0 0 0 0 0

-- the event with these flags
abbrev pub flagged : ℕ → Event → Event
flagged f e =
    record { kind = e.kind; hart = e.hart; location = e.location; flags = f; addr = e.addr; «data» = e.«data»; ctrl = e.ctrl; read = e.read; written = e.written; operation = e.operation; operand = e.operand }

-- the event with this address mask
abbrev pub address_on : ℕ → Event → Event
address_on m e =
    record { kind = e.kind; hart = e.hart; location = e.location; flags = e.flags; addr = m; «data» = e.«data»; ctrl = e.ctrl; read = e.read; written = e.written; operation = e.operation; operand = e.operand }

-- with this data mask
abbrev pub data_on : ℕ → Event → Event
data_on m e =
    record { kind = e.kind; hart = e.hart; location = e.location; flags = e.flags; addr = e.addr; «data» = m; ctrl = e.ctrl; read = e.read; written = e.written; operation = e.operation; operand = e.operand }

-- with this control mask
abbrev pub control_on : ℕ → Event → Event
control_on m e =
    record { kind = e.kind; hart = e.hart; location = e.location; flags = e.flags; addr = e.addr; «data» = e.«data»; ctrl = m; read = e.read; written = e.written; operation = e.operation; operand = e.operand }

-- with this operation and operand
abbrev pub operated : (operation operand : ℕ) → Event → Event
operated o n e =
    record { kind = e.kind; hart = e.hart; location = e.location; flags = e.flags; addr = e.addr; «data» = e.«data»; ctrl = e.ctrl; read = e.read; written = e.written; operation = o; operand = n }

-- a fence with these bits; fence.tso
abbrev pub fences : (hart bits : ℕ) → Event
fences h f = flagged f (access 6 h 0 0 0)

abbrev pub fences_tso : (hart : ℕ) → Event
fences_tso h = access 7 h 0 0 0

-- a fence of all four bits
abbrev pub full_fence : ℕ → Event
full_fence h = fences h 15

-- the masks that name one event
abbrev pub event0 : ℕ
event0 = 1

abbrev pub event1 : ℕ
event1 = 2

abbrev pub event2 : ℕ
event2 = 4

abbrev pub event3 : ℕ
event3 = 8

-- the flags of one annotation alone, or of none: "Memory flags from bit 0: acquire-RCpc, acquire-RCsc, release-RCpc, release-RCsc."
abbrev pub unannotated : ℕ
unannotated = 0

abbrev pub acquire_rcpc : ℕ
acquire_rcpc = 1

abbrev pub acquire_rcsc : ℕ
acquire_rcsc = 2

abbrev pub release_rcpc : ℕ
release_rcpc = 4

abbrev pub release_rcsc : ℕ
release_rcsc = 8

-- a returned list's entry of a non-reader, 254, and the initial write, 255
abbrev pub nothing : ℕ
nothing = 254

abbrev pub initially : ℕ
initially = 255

-- a list, filled up to n entries
abbrev pub filled : {A : Type 0} → ℕ → A → List A → List A
filled n d l = l ++ replicate (n - length l) d

-- a test: stated is the mask of final values; values not given are 0
abbrev pub valued : (harts locations stated : ℕ) (initial finals : List ℕ) → List Event → Table
valued h l s i f es =
    record {
      harts = h;
      locations = l;
      count = length es;
      stated = s;
      model = 0;
      initial = filled 8 0 i;
      events = filled 32 blank_event es;
      finals = filled 8 0 f;
    }

-- a test with zero initial values and no stated final value
abbrev pub plain_test : (harts locations : ℕ) → List Event → Table
plain_test h l es = valued h l 0 [] [] es

-- the test in this model
abbrev pub in_model : ℕ → Table → Table
in_model m t =
    record {
      harts = t.harts;
      locations = t.locations;
      count = t.count;
      stated = t.stated;
      model = m;
      initial = t.initial;
      events = t.events;
      finals = t.finals;
    }

-- the locations up to the last that the events touch
abbrev pub touching : List Event → ℕ
touching [] = 0
touching (e ∷ es) = max (suc e.location.0) (touching es)

-- a pair that preserved order orders, with the set of its rules: a steady one is among them, or none is
pub data Ordered : Type 0 where
  steady_set : (a b : ℕ) → List ℕ → Ordered
  returned_set : (a b : ℕ) → List ℕ → Ordered

-- by one rule alone, which is steady; or which isn't
abbrev pub steady : (rule a b : ℕ) → Ordered
steady k a b = steady_set a b (k ∷ [])

abbrev pub returned : (rule a b : ℕ) → Ordered
returned k a b = returned_set a b (k ∷ [])

abbrev pub ordered_pair : Table → List ℕ → (a b : ℕ) → Ordered
ordered_pair t rf a b = cond (static_ppo t a b) (steady_set a b (rule_set t rf a b)) (returned_set a b (rule_set t rf a b))

-- the pairs of a with each of the list
abbrev pub pairs_of : Table → List ℕ → ℕ → List ℕ → List Ordered
pairs_of t rf a [] = []
pairs_of t rf a (b ∷ bs) = kept (ppo t rf a b) (ordered_pair t rf a b) (pairs_of t rf a bs)

abbrev pub pairs_from : Table → List ℕ → List ℕ → List Ordered
pairs_from t rf [] = []
pairs_from t rf (a ∷ l) = pairs_of t rf a (below t.count) ++ pairs_from t rf l

-- all pairs that preserved order orders, by a and then by b
abbrev pub ordered_pairs : Table → List ℕ → List Ordered
ordered_pairs t rf = pairs_from t rf (below t.count)

-- the writer that an atomicity break at the LR names; none if it doesn't break there
abbrev pub named_writer : Table → List ℕ → List ℕ → ℕ → List ℕ
named_writer t rf gmo l = kept (breaks_atomicity t rf gmo l) (atomicity_writer t rf gmo l) []

-- the values that follow from an order: what each reader returns, and what each location ends at
abbrev pub all_values : Table → List ℕ → List ℕ
all_values t gmo = map (returned_value t gmo) (keep (reads t) (below t.count)) ++ map (end_value t gmo) (below t.locations)

-- the refusal of a table by lines 5 to 11 and 21, with the most events that the edition allows; extra: a byte that is no field and is
-- named zero isn't
abbrev pub refusal_in : Edition → Bool → Table → Refused
refusal_in e extra t = first_line t.count (table_lines (most_events e) extra t)

abbrev pub refusal : Bool → Table → Refused
refusal = refusal_in one

-- the refusal of a text's table
abbrev pub text_refusal : Table → Refused
text_refusal t = first_line t.count (table_lines_by (text_line7 t) (most_events two) false t)

-- What is stated of a case.
pub data Claim : Type 0 where
  -- all witnesses, ascending
  all_witnesses : Table → List (List ℕ) → Claim
  -- a search's answer from a start with an allowance
  searched : Table → (start : List ℕ) → (allowance : ℕ) → Answer → Claim
  -- the verdict for a candidate
  judged : Table → (rf gmo : List ℕ) → Verdict → Claim
  -- preserved order, load value, atomicity, values read, final values of a candidate: each holds, or not
  meets : Table → (rf gmo : List ℕ) → (ppo loads atomic values finals : Bool) → Claim
  -- the set of rules of a pair with a returned list
  ruled : Table → (rf : List ℕ) → (a b : ℕ) → List ℕ → Claim
  -- all that preserved order orders, with a returned list
  preserved : Table → (rf : List ℕ) → List Ordered → Claim
  -- the returned list that an order determines
  returning : Table → (gmo rf : List ℕ) → Claim
  -- the writer that an atomicity break at the LR l names, if there is one
  atomicity_at : Table → (rf gmo : List ℕ) → (l : ℕ) → List ℕ → Claim
  -- a list is an order, lawful, a witness: each or not
  weighed : Table → List ℕ → (is_order isLawful is_witness : Bool) → Claim
  -- a list is a clean prefix, or not
  cleanly : Table → List ℕ → Bool → Claim
  -- all clean prefixes, ascending
  all_clean : Table → List (List ℕ) → Claim
  -- what the return of a reader listed in a prefix is settled to
  settles : Table → (p : List ℕ) → (reader write : ℕ) → Claim
  -- a prefix is spoiled, or not
  spoils : Table → List ℕ → Bool → Claim
  -- the second engine visits a list, or not
  visits : Table → List ℕ → Bool → Claim
  -- all that it visits, ascending; their number
  all_visited : Table → List (List ℕ) → Claim
  visited_count : Table → ℕ → Claim
  -- its answer from a start with an allowance
  searched_pruned : Table → (start : List ℕ) → (allowance : ℕ) → Answer → Claim
  -- all values that follow from an order of a text
  gives : Table → (gmo values : List ℕ) → Claim
  -- the order makes the condition true, or not
  makes : Table → (gmo : List ℕ) → Condition → Bool → Claim
  -- the condition names an event that doesn't read or a location not in the test, or not
  misnames : Table → Condition → Bool → Claim
  -- a location of a text with this condition is neither touched nor named, or none is
  leaves_unused : Table → Condition → Bool → Claim
  -- lines 5 to 11 and 21 accept the table
  accepts : Table → Claim
  -- they refuse it, by this
  refuses : Refused → Table → Claim
  -- the refusal if, besides, a byte that is no field and is named zero isn't
  refuses_with_bytes : Refused → Table → Claim
  -- the same of edition 2
  accepts_wide : Table → Claim
  refuses_wide : Refused → Table → Claim
  -- the same of a text
  accepts_text : Table → Claim
  refuses_text : Refused → Table → Claim

abbrev pub Right : Claim → Type 0
Right (all_witnesses t ws) = witnesses t ≡ ws
Right (searched t s b r) = search t s b ≡ r
Right (judged t rf gmo v) = verdict t rf gmo ≡ v
Right (meets t rf gmo p l a v f) =
    (preserved_order t rf gmo ∷ load_value t rf gmo ∷ atomicity t rf gmo ∷ values_read t rf ∷ final_values t gmo ∷ []) ≡ (p ∷ l ∷ a ∷ v ∷ f ∷ [])
Right (ruled t rf a b ks) = rule_set t rf a b ≡ ks
Right (preserved t rf ps) = ordered_pairs t rf ≡ ps
Right (returning t gmo rf) = returns t gmo ≡ rf
Right (atomicity_at t rf gmo l ws) = named_writer t rf gmo l ≡ ws
Right (weighed t gmo o l w) = (is_order t gmo ∷ lawful t gmo ∷ witness t gmo ∷ []) ≡ (o ∷ l ∷ w ∷ [])
Right (cleanly t p c) = clean t p ≡ c
Right (all_clean t ps) = clean_prefixes t ≡ ps
Right (settles t p r w) = settled t p r ≡ w
Right (spoils t p b) = spoiled t p ≡ b
Right (visits t p b) = unpruned t p ≡ b
Right (all_visited t ps) = unpruned_prefixes t ≡ ps
Right (visited_count t n) = length (unpruned_prefixes t) ≡ n
Right (searched_pruned t s b r) = search_pruned t s b ≡ r
Right (gives t gmo vs) = all_values t gmo ≡ vs
Right (makes t gmo c b) = meetsCondition t c gmo ≡ b
Right (misnames t c b) = names_unknown t c ≡ b
Right (leaves_unused t c b) = line21 (names_location c) t ≡ b
Right (accepts t) = refusal false t ≡ accepted
Right (refuses r t) = refusal false t ≡ r
Right (refuses_with_bytes r t) = refusal true t ≡ r
Right (accepts_wide t) = refusal_in two false t ≡ accepted
Right (refuses_wide r t) = refusal_in two false t ≡ r
Right (accepts_text t) = text_refusal t ≡ accepted
Right (refuses_text r t) = text_refusal t ≡ r

-- lines 5 to 11 and 21 accept the table
abbrev pub Passes : Table → Type 0
Passes t = refusal false t ≡ accepted

-- lines 5 to 11 accept the table of a text
abbrev pub TextPasses : Table → Type 0
TextPasses t = text_refusal t ≡ accepted

-- the table of a case passes, unless it is there to be refused
abbrev pub Accepted : Claim → Type 0
Accepted (all_witnesses t ws) = Passes t
Accepted (searched t s b r) = Passes t
Accepted (judged t rf gmo v) = Passes t
Accepted (meets t rf gmo p l a v f) = Passes t
Accepted (ruled t rf a b ks) = Passes t
Accepted (preserved t rf ps) = Passes t
Accepted (returning t gmo rf) = Passes t
Accepted (atomicity_at t rf gmo l ws) = Passes t
Accepted (weighed t gmo o l w) = Passes t
Accepted (cleanly t p c) = Passes t
Accepted (all_clean t ps) = Passes t
Accepted (settles t p r w) = Passes t
Accepted (spoils t p b) = Passes t
Accepted (visits t p b) = Passes t
Accepted (all_visited t ps) = Passes t
Accepted (visited_count t n) = Passes t
Accepted (searched_pruned t s b r) = Passes t
Accepted (gives t gmo vs) = TextPasses t
Accepted (makes t gmo c b) = TextPasses t
Accepted (misnames t c b) = TextPasses t
Accepted (leaves_unused t c b) = TextPasses t
Accepted (accepts t) = Unit {0}
Accepted (refuses r t) = Unit {0}
Accepted (refuses_with_bytes r t) = Unit {0}
Accepted (accepts_wide t) = Unit {0}
Accepted (refuses_wide r t) = Unit {0}
Accepted (accepts_text t) = Unit {0}
Accepted (refuses_text r t) = Unit {0}

abbrev pub Every : List Claim → Type 0
Every [] = Unit {0}
Every (c ∷ cs) = Accepted c × Right c × Every cs
