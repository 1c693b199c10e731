-- What the order of the sets and an advice mean.
use Rattle.std.specs.Prelude.{ℕ, ◌<◌, ◌≡◌, true, false, List, [], ◌∷◌, ◌⊎◌, ◌↔◌, length}
use Rattle.lists.specs.Lists.{◌∈◌, all, has}
use Rattle.lists.specs.Ascending.{less}
use Rattle.prefixes.specs.Answer.{Answer, found, none_left, spent}
use Rattle.prefixes.specs.Statements.{Rising}
use Rattle.table.specs.declared.Table.{Table}
use Rattle.model.specs.Witness.{witness}
use Rattle.advice.specs.Sets.{by_size}
use Rattle.advice.specs.Advice.{clear_fences, with_fences, search_with, Advice, advised, undecided, fences_dont_help}

-- s is a set of entries of l, as an ascending list
abbrev pub IsSet : List ℕ → List ℕ → Type 0
IsSet l s = Rising s × (all (λ x. has x l) s ≡ true)

-- a is tried before b: it has fewer entries, or as many and the lesser list
abbrev pub Earlier : List ℕ → List ℕ → Type 0
Earlier a b = (length a < length b) ⊎ ((length a ≡ length b) × (less a b ≡ true))

-- each entry stands so to all behind it
abbrev pub Pairwise : (List ℕ → List ℕ → Type 0) → List (List ℕ) → Type 0
Pairwise R [] = Unit {0}
Pairwise R (s ∷ l) = ((q : List ℕ) → q ∈ l → R s q) × Pairwise R l

-- of an ascending list every set is tried, and in that order, and so once
pub record SetsRight (l : List ℕ) : Type 0 where
  pub exactly : (s : List ℕ) → (s ∈ by_size l) ↔ IsSet l s
  pub in_order : Pairwise Earlier (by_size l)

-- with the fences of s turned the outcome has a witness; no order is one
abbrev pub AllowedWith : Table → List ℕ → Type 0
AllowedWith t s = (gmo : List ℕ) × (witness (with_fences t s) gmo ≡ true)

abbrev pub ForbiddenWith : Table → List ℕ → Type 0
ForbiddenWith t s = (gmo : List ℕ) → witness (with_fences t s) gmo ≡ false

abbrev pub IsSpent : Answer → Type 0
IsSpent (found p v) = ⊥
IsSpent (none_left v) = ⊥
IsSpent (spent p v) = Unit {0}

-- s decides: "No smaller set .. forbids the outcome", nor does one of its size that is tried before it
pub record Decides (t : Table) (s : List ℕ) : Type 0 where
  pub fences : IsSet (clear_fences t) s
  pub allowed-before : (q : List ℕ) → IsSet (clear_fences t) q → Earlier q s → AllowedWith t q

-- what an advice says
abbrev pub AdviceRight : Table → ℕ → Advice → Type 0
AdviceRight t b (advised s) = Decides t s × ForbiddenWith t s
AdviceRight t b (undecided s) = Decides t s × IsSpent (search_with t b s)
AdviceRight t b fences_dont_help = AllowedWith t (clear_fences t) × ((q : List ℕ) → IsSet (clear_fences t) q → AllowedWith t q)
