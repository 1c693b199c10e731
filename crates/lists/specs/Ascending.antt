-- Lists of numbers compared entry by entry; a list comes before its extensions.
use Rattle.std.specs.Prelude.{ℕ, ◌≡◌, Bool, true, false, cond, List, [], ◌∷◌, eqb, ltb}

abbrev pub less : List ℕ → List ℕ → Bool
less [] [] = false
less [] (y ∷ q) = true
less (x ∷ p) [] = false
less (x ∷ p) (y ∷ q) = cond (eqb x y) (less p q) (ltb x y)

-- every entry of the list is greater than p
abbrev pub AllAbove : List ℕ → List (List ℕ) → Type 0
AllAbove p [] = Unit {0}
AllAbove p (q ∷ l) = (less p q ≡ true) × AllAbove p l

-- ascending, and so each entry once
abbrev pub Ascending : List (List ℕ) → Type 0
Ascending [] = Unit {0}
Ascending (p ∷ l) = AllAbove p l × Ascending l
