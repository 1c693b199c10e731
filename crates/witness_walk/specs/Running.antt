-- What a walk is handed of a table, where it begins, and what it answers.
use Rattle.std.specs.Prelude.{ℕ, ◌≤◌, ◌≡◌, Bool, true, false, cond, not, ◌||◌, List, Option, Some, None, [], ◌∷◌, ◌++◌, ◌⊎◌, get_or, take}
use Rattle.std.specs.Int.Bits.{bit_and, bit_or, bit_xor}
use Rattle.lists.specs.Lists.{has}
use Rattle.masks.specs.Bit.{bit}
use Rattle.table.specs.declared.Table.{Table}
use Rattle.table.specs.Events.{memory_mask}
use Rattle.prefixes.specs.Listed.{after}
use Rattle.prefixes.specs.Answer.{Answer}
use Rattle.prefixes.specs.Statements.{seek}
use Rattle.model.specs.Returns.{final_value}
use Rattle.model.specs.Witness.{witness_for}
use Rattle.model.specs.Prefixes.{clean, prefixes_by}
use Rattle.placing.specs.Guards.{reads_stated}
use Rattle.order_facts.specs.Facts.{mask_by, good}
use Rattle.fact_rows.specs.FactRows.{mask, Facts, here_row, right_row}
use Rattle.order_test.specs.Testing.{TellsGood}
use Rattle.condition_test.specs.Wanted.{Wants}
use Rattle.engine.specs.Entered.{reachable}
use Rattle.precedence.specs.Precedence.{predecessor_masks}
use Rattle.witness_walk.specs.declared.Ending.{Ending}
use Rattle.witness_walk.specs.declared.Ending.TheVariants.{Found, NoneLeft, Spent}
use Rattle.witness_walk.specs.declared.Path.{Path}
use Rattle.witness_walk.specs.Ending.{answer_of}

-- What a walk enters, by the mask of the readers that it watches: a prefix with one more event, unless that is a watched reader
-- that doesn't read its stated value.
pub record Enters (t : Table) (watched : ℕ) (enters : List ℕ → Bool) : Type 0 where
  pub none : enters [] ≡ true
  pub more : (p : List ℕ) (e : ℕ) → clean t (p ++ (e ∷ [])) ≡ true → enters p ≡ true →
      enters (p ++ (e ∷ [])) ≡ (not (bit watched e) || reads_stated t (λ a. has a p) (final_value t p) e)

-- the masks and facts are those of the table
pub record Watching (t : Table) (facts : List (List ℕ)) (preds : List ℕ) (mem watched : ℕ) (enters : List ℕ → Bool) : Type 0 where
  pub known : Facts t facts
  pub predecessors : preds ≡ predecessor_masks t
  pub memory : mem ≡ memory_mask t
  pub entering : Enters t watched enters

-- what a walk looks for is what the words say, and it leaves no witness of that out
pub record Seeking (t : Table) (facts : List (List ℕ)) (words : List ℕ) (outcome enters : List ℕ → Bool) : Type 0 where
  pub wanted : Wants t facts words outcome
  pub witnesses : (gmo : List ℕ) → witness_for t outcome gmo ≡ true → enters gmo ≡ true

-- whether e, watched or not, is entered: r tells it by the mask of the good
abbrev pub EntersBy : Bool → List (List ℕ) → ℕ → ℕ → ℕ → Bool → Type 0
EntersBy true facts placed now e r = TellsGood facts now e (λ t value. reads_stated t (bit placed) value e) r
EntersBy false facts placed now e r = r ≡ true

-- the mask of the good once e is placed, by the facts
abbrev pub good_behind : List (List ℕ) → ℕ → ℕ → ℕ
good_behind facts now e = bit_or (bit_xor now (bit_and now (mask facts here_row e))) (mask facts right_row e)

-- the mask of the good behind each of the first len entries
abbrev pub GoodsTo : Table → List ℕ → List ℕ → ℕ → Type 0
GoodsTo t goods order len = (k : ℕ) → k ≤ len → get_or goods k 0 ≡ mask_by t (good t (final_value t (take k order)))

-- A walk begins behind a prefix that it gets to; what goes on with that is left to try exactly if it is entered.
pub record Begun (t : Table) (enters : List ℕ → Bool) (watched : ℕ) (order goods : List ℕ) (keep can later : ℕ) : Type 0 where
  pub reached : reachable (clean t) enters (take keep order) ≡ true
  pub untried : later ≡ cond (enters (take keep order)) can 0
  pub kept : (watched ≡ 0 → ⊥) → GoodsTo t goods order keep

-- the prefixes that it visits, ascending
abbrev pub list_of : Table → (List ℕ → Bool) → List (List ℕ)
list_of t enters = prefixes_by t (reachable (clean t) enters)

-- what a search for a witness from prefix p with budget b answers, if v were visited already
abbrev pub search_from : Table → (outcome enters : List ℕ → Bool) → List ℕ → ℕ → ℕ → Answer
search_from t outcome enters p b v = seek (witness_for t outcome) (after p (list_of t enters)) p b v

-- the prefix of an ending has at most n entries
abbrev pub AtMost : ℕ → Ending → Type 0
AtMost n (Found len visited) = len ≤ n
AtMost n (NoneLeft visited) = Unit {0}
AtMost n (Spent len visited) = len ≤ n

-- how the search of every table that was handed in ended, its prefix at the front of the order
abbrev pub Runs : List (List ℕ) → (words preds : List ℕ) → ℕ → ℕ → List ℕ → List ℕ → Path → ℕ → Ending → List ℕ → Type 0
Runs facts words preds mem watched order goods from b o after =
    (t : Table) (outcome enters : List ℕ → Bool) → Watching t facts preds mem watched enters → Seeking t facts words outcome enters →
    Begun t enters watched order goods from.keep from.masks.can from.later →
    answer_of o after ≡ search_from t outcome enters (take from.keep order) b 0

-- how a start of len entries, with can the mask of the events that may come behind it, was followed
abbrev pub FollowedAs : Table → (List ℕ → Bool) → ℕ → List ℕ → List ℕ → ℕ → ℕ → Option ℕ → Type 0
FollowedAs t enters watched order goods len can (Some later) = Begun t enters watched order goods len can later
FollowedAs t enters watched order goods len can None = reachable (clean t) enters (take len order) ≡ false

-- all that may come behind it is left to try, or nothing
abbrev pub LeftOf : ℕ → Option ℕ → Type 0
LeftOf can (Some later) = (later ≡ can) ⊎ (later ≡ 0)
LeftOf can None = Unit {0}

-- the same of every table that was handed in, where the start is clean
abbrev pub Follows : List (List ℕ) → ℕ → List ℕ → List ℕ → ℕ → ℕ → Option ℕ → Type 0
Follows facts watched order goods len can r =
    (t : Table) (enters : List ℕ → Bool) → Facts t facts → Enters t watched enters → clean t (take len order) ≡ true →
    FollowedAs t enters watched order goods len can r
