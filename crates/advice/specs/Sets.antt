-- Sets of events, as ascending lists of their numbers, in the order in which they are tried.
use Rattle.std.specs.Prelude.{ℕ, suc, List, [], ◌∷◌, ◌++◌, map, length, eqb}
use Rattle.lists.specs.Below.{below}
use Rattle.lists.specs.Lists.{keep}
use Rattle.prefixes.specs.Listed.{joined}

-- all sets of entries of an ascending list: those with its first entry, then those without
unfoldable pub sets : List ℕ → List (List ℕ)
sets [] = [] ∷ []
sets (x ∷ l) = map (λ s. x ∷ s) (sets l) ++ sets l

-- those of k entries. They stand there by their lists, "compared as prefixes are".
unfoldable pub of_size : List ℕ → ℕ → List (List ℕ)
of_size l k = keep (λ s. eqb (length s) k) (sets l)

-- "the empty set first, then by size, equal sizes by their ascending lists of event numbers"
unfoldable pub by_size : List ℕ → List (List ℕ)
by_size l = joined (of_size l) (below (suc (length l)))
