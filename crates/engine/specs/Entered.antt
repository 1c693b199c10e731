-- A walk need not enter each prefix that it visits: the extensions of one that it doesn't enter are passed over.
use Rattle.std.specs.Prelude.{ℕ, ◌≡◌, Bool, true, ◌&&◌, List, [], ◌↔◌, ◌≢◌, length, take}
use Rattle.lists.specs.Below.{every}
use Rattle.lists.specs.Lists.{◌∈◌}
use Rattle.lists.specs.Ascending.{Ascending}

-- every proper prefix of p is entered
unfoldable pub entered : (List ℕ → Bool) → List ℕ → Bool
entered enters p = every (length p) (λ k. enters (take k p))

-- p passes, and a walk that enters those prefixes gets to it
unfoldable pub reachable : (passes enters : List ℕ → Bool) → List ℕ → Bool
reachable passes enters p = passes p && entered enters p

-- every prefix is entered
abbrev pub always : List ℕ → Bool
always p = true

-- l has, ascending, the nonempty lists that pass
pub record Listing (passes : List ℕ → Bool) (l : List (List ℕ)) : Type 0 where
  pub exactly : (q : List ℕ) → (q ∈ l) ↔ ((q ≢ []) × (passes q ≡ true))
  pub ascending : Ascending l
