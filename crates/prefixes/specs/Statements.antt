-- The vocabulary of the theorems: of the list of prefixes, of one answer, and of a whole walk.
use Rattle.std.specs.Prelude.{ℕ, zero, suc, ◌≡◌, Bool, true, not, List, [], ◌∷◌, ◌++◌, ◌⊎◌, length, ltb}
use Rattle.lists.specs.Reply.{Reply, refused, answered}
use Rattle.lists.specs.Lists.{all, keep}
use Rattle.lists.specs.Ascending.{less, Ascending}
use Rattle.prefixes.specs.Listed.{after}
use Rattle.prefixes.specs.Answer.{Answer, found, none_left, spent, pick, answer}
use Rattle.prefixes.specs.Walk.{reached, handed, visited, finished}

-- a list that passes passes without its last entry too
abbrev pub PrefixClosed : (List ℕ → Bool) → Type 0
PrefixClosed ok = (p : List ℕ) (x : ℕ) → ok (p ++ (x ∷ [])) ≡ true → ok p ≡ true

-- each entry is less than all behind it
abbrev pub Rising : List ℕ → Type 0
Rising [] = Unit {0}
Rising (x ∷ l) = (all (ltb x) l ≡ true) × Rising l

-- the search call as a walk along the list l: s was visited last, b may still be visited, n were visited so far
unfoldable pub seek : (List ℕ → Bool) → List (List ℕ) → List ℕ → ℕ → ℕ → Answer
seek goal [] s b n = none_left n
seek goal (p ∷ l) s zero n = spent s n
seek goal (p ∷ l) s (suc b) n = let r = seek goal l p b (suc n) in pick (goal p) (found p (suc n)) r

-- found or none left
abbrev pub Final : Answer → Type 0
Final (found p v) = Unit {0}
Final (none_left v) = Unit {0}
Final (spent p v) = ⊥

module _ {R C : Type 0} (goal : List ℕ → Bool) (l : List (List ℕ)) (reply : List ℕ → C → Reply R Answer) where
  -- every reply is a refusal, or the answer from its start for some allowance
  abbrev pub Honest : Type 0
  Honest = (s : List ℕ) (c : C) →
      ((r : R) × (reply s c ≡ refused r)) ⊎ ((b : ℕ) × (reply s c ≡ answered (answer goal (after s l) s b)))

  -- what the calls cs have done, from the empty start
  pub record Walked (cs : List C) : Type 0 where
    -- handed out are the witnesses up to the start reached
    pub exact : handed reply [] cs ≡ keep goal (keep (λ p. not (less (reached reply [] cs) p)) l)
    -- in ascending order, and so each once
    pub ascending : Ascending (handed reply [] cs)
    -- once none are left, no witness is greater than the start reached
    pub complete : finished reply [] cs ≡ true → keep goal (after (reached reply [] cs) l) ≡ []
    -- the visited numbers add up to the prefixes up to the start reached
    pub counted : visited reply [] cs ≡ length (keep (λ p. not (less (reached reply [] cs) p)) l)
    -- a finished walk that has handed out nothing: there is no witness
    pub forbidden : finished reply [] cs ≡ true → handed reply [] cs ≡ [] → keep goal l ≡ []
    -- where there is no witness, nothing is handed out
    pub conversely : keep goal l ≡ [] → handed reply [] cs ≡ []
