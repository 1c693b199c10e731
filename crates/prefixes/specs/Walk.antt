-- A walk: a list of search calls, each given the start that the calls before it left.
use Rattle.std.specs.Prelude.{ℕ, ◌+◌, Bool, true, false, ◌||◌, List, [], ◌∷◌, ◌++◌}
use Rattle.lists.specs.Reply.{Reply, refused, answered}
use Rattle.prefixes.specs.Answer.{Answer, found, none_left, spent}

module _ {R : Type 0} where
  -- "After found, the next start is the order written; after spent, the prefix written ..; after none left or a refusal,
  -- the start which that call was given."
  abbrev pub start_after : List ℕ → Reply R Answer → List ℕ
  start_after s (refused r) = s
  start_after s (answered (found p v)) = p
  start_after s (answered (none_left v)) = s
  start_after s (answered (spent p v)) = p

  -- "An order is handed out by an answer of found."
  abbrev pub handed_by : Reply R Answer → List (List ℕ)
  handed_by (refused r) = []
  handed_by (answered (found p v)) = p ∷ []
  handed_by (answered (none_left v)) = []
  handed_by (answered (spent p v)) = []

  -- "The visited numbers of found and spent"
  abbrev pub visited_by : Reply R Answer → ℕ
  visited_by (refused r) = 0
  visited_by (answered (found p v)) = v
  visited_by (answered (none_left v)) = 0
  visited_by (answered (spent p v)) = v

  abbrev pub said_none_left : Reply R Answer → Bool
  said_none_left (refused r) = false
  said_none_left (answered (found p v)) = false
  said_none_left (answered (none_left v)) = true
  said_none_left (answered (spent p v)) = false

  -- of calls of any kind C: reply s c is what the call c is given back from the start s
  module _ {C : Type 0} (reply : List ℕ → C → Reply R Answer) where
    -- "The start reached is the one a further call would get."
    unfoldable pub reached : List ℕ → List C → List ℕ
    reached s [] = s
    reached s (c ∷ cs) = reached (start_after s (reply s c)) cs

    -- the orders handed out, in the order of the calls
    unfoldable pub handed : List ℕ → List C → List (List ℕ)
    handed s [] = []
    handed s (c ∷ cs) = handed_by (reply s c) ++ handed (start_after s (reply s c)) cs

    -- the visited numbers of found and spent, added up
    unfoldable pub visited : List ℕ → List C → ℕ
    visited s [] = 0
    visited s (c ∷ cs) = visited_by (reply s c) + visited (start_after s (reply s c)) cs

    -- "A walk is finished once a call has said none left"
    unfoldable pub finished : List ℕ → List C → Bool
    finished s [] = false
    finished s (c ∷ cs) = said_none_left (reply s c) || finished (start_after s (reply s c)) cs
