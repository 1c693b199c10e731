-- Lists of numbers in ascending order, each once.
use Rattle.std.specs.Prelude.{ℕ, zero, suc, cond, List, [], ◌∷◌, ◌++◌, take, drop}
use Rattle.lists.specs.Ascending.{less}

-- one more at its place in an ascending list; one that is there already isn't put in again
unfoldable pub insert : List ℕ → List (List ℕ) → List (List ℕ)
insert o [] = o ∷ []
insert o (q ∷ l) = let r = insert o l in cond (less q o) (q ∷ r) (cond (less o q) (o ∷ q ∷ l) (q ∷ l))

-- all of them, ascending, each once
unfoldable pub sorted : List (List ℕ) → List (List ℕ)
sorted [] = []
sorted (o ∷ l) = insert o (sorted l)

-- the first n rows of w numbers each, one behind the other
unfoldable pub rows : ℕ → ℕ → List ℕ → List (List ℕ)
rows w zero l = []
rows w (suc n) l = take w l ∷ rows w n (drop w l)

-- rows joined, one behind the other
unfoldable pub flat : List (List ℕ) → List ℕ
flat [] = []
flat (r ∷ rs) = r ++ flat rs
