-- Tests and parts of lists.
use Rattle.std.specs.Prelude.{ℕ, suc, ◌+◌, Bool, true, false, cond, not, ◌&&◌, ◌||◌, eqb}
use mathlib.Core.List.{List, [], ◌∷◌, Memᴰ}

-- a is an entry of the list
infix 50 ◌∈◌
abbrev pub ◌∈◌ : {A : Type 0} → A → List A → Type 0
a ∈ l = Memᴰ a l

-- every entry passes
abbrev pub all : {A : Type 0} → (A → Bool) → List A → Bool
all p [] = true
all p (x ∷ l) = p x && all p l

-- some entry passes
abbrev pub any : {A : Type 0} → (A → Bool) → List A → Bool
any p [] = false
any p (x ∷ l) = p x || any p l

abbrev pub kept : {A : Type 0} → Bool → A → List A → List A
kept true x l = x ∷ l
kept false x l = l

-- the entries that pass, in their order
abbrev pub keep : {A : Type 0} → (A → Bool) → List A → List A
keep p [] = []
keep p (x ∷ l) = kept (p x) x (keep p l)

-- e is in the list
abbrev pub has : ℕ → List ℕ → Bool
has e l = any (eqb e) l

-- how often e is in the list
abbrev pub count : ℕ → List ℕ → ℕ
count e [] = 0
count e (x ∷ l) = cond (eqb e x) 1 0 + count e l

-- no entry is there twice
abbrev pub distinct : List ℕ → Bool
distinct [] = true
distinct (x ∷ l) = not (has x l) && distinct l

-- a is in the list, and b stands after it
abbrev pub before : List ℕ → ℕ → ℕ → Bool
before [] a b = false
before (x ∷ l) a b = cond (eqb a x) (has b l) (before l a b)

-- the last entry that passes; d if none does
abbrev pub last_or : {A : Type 0} → (A → Bool) → A → List A → A
last_or p d [] = d
last_or p d (x ∷ l) = last_or p (cond (p x) x d) l

-- the first entry that passes; d if none does
abbrev pub first_or : {A : Type 0} → (A → Bool) → A → List A → A
first_or p d [] = d
first_or p d (x ∷ l) = cond (p x) x (first_or p d l)

-- how many entries stand before the first that passes; the length if none does
abbrev pub leading : {A : Type 0} → (A → Bool) → List A → ℕ
leading p [] = 0
leading p (x ∷ l) = cond (p x) 0 (suc (leading p l))
