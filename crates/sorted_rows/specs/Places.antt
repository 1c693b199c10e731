-- Where one more goes in a list: the words of the promises inside this crate.
use Rattle.std.specs.Prelude.{ℕ, not, List, ◌∷◌, ◌++◌, ◌≡◌, take, drop}
use Rattle.lists.specs.Lists.{leading}
use Rattle.lists.specs.Ascending.{less, Ascending}
use Rattle.sorted_rows.specs.Sorted.{insert}

-- how many stand before the first that doesn't come before o
abbrev pub place_of : List ℕ → List (List ℕ) → ℕ
place_of o l = leading (λ q. not (less q o)) l

-- o put in before entry k
abbrev pub put_at : ℕ → List ℕ → List (List ℕ) → List (List ℕ)
put_at k o l = take k l ++ (o ∷ drop k l)

-- r is o's place among rows that ascend
abbrev pub PlacedAt : (o : List ℕ) → (l : List (List ℕ)) → (r : ℕ) → Type 0
PlacedAt o l r = Ascending l → r ≡ place_of o l

-- o was put in among rows that ascend, with room for so many
abbrev pub Puts : (room : ℕ) → (o : List ℕ) → (before after· : List (List ℕ)) → Type 0
Puts room o before after· = Ascending before → after· ≡ take room (insert o before)
