-- An answer as one word of 64 bits, for C: byte 0 is its case, bytes 1 to 3 its values, bytes 4 to 7 the visited
-- number or the place of a byte or a set of events or, in bytes 4 and 5, a set of rules.
use Rattle.std.specs.Prelude.{ℕ, ◌+◌, ◌*◌, ◌-◌, ◌^◌, List, [], ◌∷◌, length, get_or}
use Rattle.std.proofs.Math.Option.{Option, none, some}
use Rattle.lists.specs.Reply.{Reply, refused, answered}
use Rattle.refusals.specs.Lines.{Refused, accepted, by_line, by_record, by_place}
use Rattle.model.specs.Verdict.{Verdict, allowed, broken_ppo, broken_load_value, broken_atomicity, broken_value_read, broken_final_value}
use Rattle.prefixes.specs.Answer.{Answer, found, none_left, spent}
use Rattle.steps.specs.Replies.{StepAnswer}
use Rattle.outcomes.specs.Outcomes.{Listing, given, none_left as noneOther, spent as exceeded}
use Rattle.outcome_listing.specs.Replies.{values_in}
use Rattle.masks.specs.MaskOf.{mask_of}
use Rattle.advice.specs.Advice.{Advice, advised, undecided, fences_dont_help}

unfoldable pub word : (kind a b d visited : ℕ) → ℕ
word kind a b d visited = kind + 256 * a + 65536 * b + 16777216 * d + 4294967296 * visited

-- in the place of a record where none is named
abbrev pub no_record : ℕ
no_record = 255

-- 0: good; 1: refused, with the number and the record or the place
abbrev pub refusal_word : Refused → ℕ
refusal_word accepted = word 0 0 0 0 0
refusal_word (by_line n) = word 1 n no_record 0 0
refusal_word (by_record n k) = word 1 n k 0 0
refusal_word (by_place n p) = word 1 n no_record 0 p

-- a set of rules: bit r - 1 for rule r
unfoldable pub rules_mask : List ℕ → ℕ
rules_mask [] = 0
rules_mask (r ∷ rs) = 2 ^ (r - 1) + rules_mask rs

-- the lowest of a set
unfoldable pub lowest_of : List ℕ → ℕ
lowest_of rs = get_or rs 0 0

-- 0: allowed; 2 to 6: the axiom with its place, 2 with the set of rules in bytes 4 and 5
abbrev pub verdict_word : Verdict → ℕ
verdict_word allowed = word 0 0 0 0 0
verdict_word (broken_ppo a b rules) = word 2 a b (lowest_of rules) (rules_mask rules)
verdict_word (broken_load_value reader) = word 3 reader 0 0 0
verdict_word (broken_atomicity lr writer) = word 4 lr writer 0 0
verdict_word (broken_value_read reader) = word 5 reader 0 0 0
verdict_word (broken_final_value location) = word 6 location 0 0 0

abbrev pub judged_word : Reply Refused Verdict → ℕ
judged_word (refused r) = refusal_word r
judged_word (answered v) = verdict_word v

-- 0: the set of rules in bytes 4 and 5
abbrev pub ruled_word : Reply Refused (List ℕ) → ℕ
ruled_word (refused r) = refusal_word r
ruled_word (answered rules) = word 0 0 0 0 (rules_mask rules)

-- 10: a step was accepted, with its event and that event's entry
abbrev pub step_word : Reply Refused StepAnswer → ℕ
step_word (refused r) = refusal_word r
step_word (answered a) = word 10 a.event a.entry 0 0

-- 11: advised; 12: undecided; with the set as the mask of its events; 13: fences don't help
abbrev pub advice_word : Reply Refused Advice → ℕ
advice_word (refused r) = refusal_word r
advice_word (answered (advised s)) = word 11 0 0 0 (mask_of s)
advice_word (answered (undecided s)) = word 12 0 0 0 (mask_of s)
advice_word (answered fences_dont_help) = word 13 0 0 0 0

-- 7: found; 8: none left; 9: spent; with the number of entries that were written
abbrev pub answer_word : Answer → ℕ
answer_word (found p v) = word 7 (length p) 0 0 v
answer_word (none_left v) = word 8 0 0 0 v
answer_word (spent p v) = word 9 (length p) 0 0 v

abbrev pub reply_word : Reply Refused Answer → ℕ
reply_word (refused r) = refusal_word r
reply_word (answered a) = answer_word a

-- 7: outcomes, with the number of values of one, and that of the outcomes (0: it isn't told); 8: none left; 9: spent
abbrev pub listing_word : (told : ℕ → ℕ) → Reply Refused Listing → ℕ
listing_word told (refused r) = refusal_word r
listing_word told (answered (given os)) = word 7 (values_in (answered (given os))) 0 0 (told (length os))
listing_word told (answered noneOther) = word 8 0 0 0 0
listing_word told (answered exceeded) = word 9 0 0 0 0

-- the next outcome
abbrev pub outcome_word : Reply Refused Listing → ℕ
outcome_word r = listing_word (λ n. 0) r

-- the next outcomes, with their number
abbrev pub outcomes_word : Reply Refused Listing → ℕ
outcomes_word r = listing_word (λ n. n) r

-- 7: found, with the number of entries that were written; 8: none left
abbrev pub decision_word : Reply Refused (Option (List ℕ)) → ℕ
decision_word (refused r) = refusal_word r
decision_word (answered (some p)) = word 7 (length p) 0 0 0
decision_word (answered none) = word 8 0 0 0 0
