-- What one search call answers, over any list of prefixes and any goal.
use Rattle.std.specs.Prelude.{ℕ, suc, Bool, true, false, List, [], length, take, leb}
use Rattle.lists.specs.Lists.{any, first_or, last_or, leading}

-- found, with the order and the number visited; none left; spent, with the last prefix visited
pub data Answer : Type 0 where
  found : List ℕ → ℕ → Answer
  none_left : ℕ → Answer
  spent : List ℕ → ℕ → Answer

abbrev pub pick : Bool → Answer → Answer → Answer
pick true a b = a
pick false a b = b

-- the last prefix of the list; the start if there is none
abbrev pub last_visited : List ℕ → List (List ℕ) → List ℕ
last_visited s l = last_or (λ p. true) s l

-- l: the prefixes greater than the start s, ascending; b: the allowance. "found, with the first witness, if one is among
-- the first B; none left, if the list has at most B entries and no witness; otherwise spent. The number visited is ..
-- the witness's place counted from 1, the list's length, or B. .. spent writes the last prefix visited (the start, if B is 0)"
unfoldable pub answer : (List ℕ → Bool) → List (List ℕ) → List ℕ → ℕ → Answer
answer goal l s b =
    pick (any goal (take b l))
    (found (first_or goal [] l) (suc (leading goal l)))
    (pick (leb (length l) b) (none_left (length l)) (spent (last_visited s (take b l)) b))
