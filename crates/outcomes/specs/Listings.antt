-- A listing: calls, each given the previous outcome that the calls before it left; and what they have given.
use Rattle.std.specs.Prelude.{ℕ, ◌≡◌, Bool, true, false, ◌||◌, List, [], ◌∷◌, ◌++◌, ◌↔◌}
use Rattle.lists.specs.Lists.{◌∈◌, last_or}
use Rattle.lists.specs.Ascending.{less, Ascending}
use Rattle.lists.specs.Reply.{Reply, refused, answered}
use Rattle.table.specs.declared.Table.{Table}
use Rattle.model.specs.Witness.{lawful}
use Rattle.outcomes.specs.Outcomes.{outcome_of, Listing, given, none_left, spent}

module _ {R : Type 0} where
  -- the outcome that the next call is given as the previous one: the last of those given, if there is one
  abbrev pub previous_after : List ℕ → Reply R Listing → List ℕ
  previous_after s (refused r) = s
  previous_after s (answered (given os)) = last_or (λ o. true) s os
  previous_after s (answered none_left) = s
  previous_after s (answered spent) = s

  abbrev pub given_by : Reply R Listing → List (List ℕ)
  given_by (refused r) = []
  given_by (answered (given os)) = os
  given_by (answered none_left) = []
  given_by (answered spent) = []

  abbrev pub said_none_left : Reply R Listing → Bool
  said_none_left (refused r) = false
  said_none_left (answered (given os)) = false
  said_none_left (answered none_left) = true
  said_none_left (answered spent) = false

  -- of calls of any kind C: reply s c is what the call c is given back after the previous outcome s
  module _ {C : Type 0} (reply : List ℕ → C → Reply R Listing) where
    -- the previous outcome that a further call would get
    unfoldable pub previous : List ℕ → List C → List ℕ
    previous s [] = s
    previous s (c ∷ cs) = previous (previous_after s (reply s c)) cs

    -- the outcomes given, in the order of the calls
    unfoldable pub all_given : List ℕ → List C → List (List ℕ)
    all_given s [] = []
    all_given s (c ∷ cs) = given_by (reply s c) ++ all_given (previous_after s (reply s c)) cs

    -- a call has said that none are left
    unfoldable pub exhausted : List ℕ → List C → Bool
    exhausted s [] = false
    exhausted s (c ∷ cs) = said_none_left (reply s c) || exhausted (previous_after s (reply s c)) cs

-- some lawful order gives o
abbrev pub IsOutcome : Table → List ℕ → Type 0
IsOutcome t o = (gmo : List ℕ) × (lawful t gmo ≡ true) × (outcome_of t gmo ≡ o)
