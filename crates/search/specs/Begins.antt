-- A search call along the prefixes that a walk gets to: how it begins, and what it replies.
use Rattle.std.specs.Prelude.{ℕ, ◌≡◌, Bool, true, false, List, Option, Some, None, ◌⊎◌, length, take, Result}
use Rattle.table.specs.declared.Table.{Table}
use Rattle.text_format.specs.Condition.{Condition, fits}
use Rattle.condition_reader.specs.Words.{code as words_of}
use Rattle.refusals.specs.declared.Refusal.{Refusal}
use Rattle.model.specs.Following.{meets, names_unknown}
use Rattle.model.specs.Prefixes.{clean}
use Rattle.successors.specs.CleanMasks.{slots}
use Rattle.engine.specs.State.{Holds}
use Rattle.engine.specs.Entered.{reachable}
use Rattle.witness_walk.specs.declared.Ending.{Ending}
use Rattle.witness_walk.specs.declared.Path.{Path}
use Rattle.witness_walk.specs.Running.{Enters, Watching, Seeking, Begun}
use Rattle.search.specs.Replies.{reply_of, length_of, table_reply, buffer_after, prefix_length}

-- the start stands at the front of the order, and a walk may go on from there
pub record Beginning (facts : List (List ℕ)) (preds : List ℕ) (mem watched : ℕ) (start order goods : List ℕ) (from : Path) : Type 0 where
  pub same : take from.keep order ≡ start
  pub holds : Holds preds mem order from.keep from.masks.placed from.masks.can
  pub left : (from.later ≡ from.masks.can) ⊎ (from.later ≡ 0)
  pub long : length goods ≡ slots
  pub begun : (t : Table) (enters : List ℕ → Bool) → Watching t facts preds mem watched enters →
      Begun t enters watched order goods from.keep from.masks.can from.later

-- a start that a walk doesn't get to has none
abbrev pub BeginsAs : List (List ℕ) → List ℕ → ℕ → ℕ → List ℕ → List ℕ → List ℕ → Option Path → Type 0
BeginsAs facts preds mem watched start order goods (Some from) = Beginning facts preds mem watched start order goods from
BeginsAs facts preds mem watched start order goods None =
    (t : Table) (enters : List ℕ → Bool) → Watching t facts preds mem watched enters → reachable (clean t) enters start ≡ false

-- a call along the prefixes that pass, for an outcome: the reply, the buffer and the length
pub record Replied (t : Table) (passes outcome : List ℕ → Bool) (start out : List ℕ) (b : ℕ) (r : Result Ending Refusal) (after : List ℕ) : Type 0 where
  pub reply : reply_of r after ≡ table_reply t passes outcome start out b
  pub buffer : after ≡ buffer_after (table_reply t passes outcome start out b) out
  pub length : length_of r ≡ prefix_length (table_reply t passes outcome start out b)

-- the same for each outcome that the words say, and each list that these watched readers make
abbrev pub Searches : Table → List (List ℕ) → List ℕ → ℕ → List ℕ → List ℕ → ℕ → Result Ending Refusal → List ℕ → Type 0
Searches t facts words watched start out b r after =
    (outcome enters : List ℕ → Bool) → Enters t watched enters → Seeking t facts words outcome enters →
    Replied t (reachable (clean t) enters) outcome start out b r after

-- the same along the clean prefixes, for the condition whose words these are
abbrev pub SearchesFor : Table → List ℕ → List ℕ → List ℕ → ℕ → Result Ending Refusal → List ℕ → Type 0
SearchesFor t words start out b r after =
    (c : Condition) → words ≡ words_of c → fits c ≡ true → names_unknown t c ≡ false →
    Replied t (clean t) (meets t c) start out b r after
