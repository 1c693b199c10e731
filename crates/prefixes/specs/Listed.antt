-- The ascending list of the nonempty prefixes that pass a test, over any alphabet.
use Rattle.std.specs.Prelude.{ℕ, zero, suc, Bool, true, false, List, [], ◌∷◌, ◌++◌}
use Rattle.lists.specs.Lists.{keep}
use Rattle.lists.specs.Ascending.{less}

-- the lists that f gives for the entries, one after the other
abbrev pub joined : (ℕ → List (List ℕ)) → List ℕ → List (List ℕ)
joined f [] = []
joined f (x ∷ l) = f x ++ joined f l

-- a prefix that passes stands before its extensions; one that doesn't has none
abbrev pub branch : Bool → List ℕ → List (List ℕ) → List (List ℕ)
branch true p longer = p ∷ longer
branch false p longer = []

-- the extensions of p by at most n entries of the alphabet, each of which passes with all before it
unfoldable pub extensions : (List ℕ → Bool) → List ℕ → ℕ → List ℕ → List (List ℕ)
extensions ok alphabet zero p = []
extensions ok alphabet (suc n) p = joined (λ x. let q = p ++ (x ∷ []) in branch (ok q) q (extensions ok alphabet n q)) alphabet

-- "lists all nonempty clean prefixes .., ascending": for a prefix-closed test and an ascending alphabet
abbrev pub listed : (List ℕ → Bool) → List ℕ → ℕ → List (List ℕ)
listed ok alphabet n = extensions ok alphabet n []

-- "greater than" the start
abbrev pub after : List ℕ → List (List ℕ) → List (List ℕ)
after s l = keep (less s) l
