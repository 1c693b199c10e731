-- Two ways to reply that agree along a walk: the walk is the same by both.
use Prim.Native.Nat.{ℕ, ◌+◌}
use mathlib.Core.Path.{◌≡◌, refl, ap, ◌∙◌}
use mathlib.Core.Bool.{Bool, ◌||◌}
use mathlib.Core.List.{List, [], ◌∷◌, ◌++◌}
use Rattle.prefixes.specs.Answer.{Answer}
use Rattle.lists.specs.Reply.{Reply}
use Rattle.prefixes.specs.Walk.{start_after, handed_by, visited_by, said_none_left, reached, handed, visited, finished}

module _ {R C : Type 0} (f g : List ℕ → C → Reply R Answer) where
  -- each call is replied alike, from the start that those before it left
  abbrev pub Alike : List ℕ → List C → Type 0
  Alike s [] = Unit {0}
  Alike s (c ∷ cs) = (f s c ≡ g s c) × Alike (start_after s (f s c)) cs

  pub reached-alike : (s : List ℕ) (cs : List C) → Alike s cs → reached f s cs ≡ reached g s cs
  unfolding reached
  reached-alike s [] a = refl
  reached-alike s (c ∷ cs) a =
      reached-alike (start_after s (f s c)) cs a.1 ∙ ap (λ (r : Reply R Answer). reached g (start_after s r) cs) a.0

  pub handed-alike : (s : List ℕ) (cs : List C) → Alike s cs → handed f s cs ≡ handed g s cs
  unfolding handed
  handed-alike s [] a = refl
  handed-alike s (c ∷ cs) a =
      ap (λ (l : List (List ℕ)). handed_by (f s c) ++ l) (handed-alike (start_after s (f s c)) cs a.1)
      ∙ ap (λ (r : Reply R Answer). handed_by r ++ handed g (start_after s r) cs) a.0

  pub visited-alike : (s : List ℕ) (cs : List C) → Alike s cs → visited f s cs ≡ visited g s cs
  unfolding visited
  visited-alike s [] a = refl
  visited-alike s (c ∷ cs) a =
      ap (λ (n : ℕ). visited_by (f s c) + n) (visited-alike (start_after s (f s c)) cs a.1)
      ∙ ap (λ (r : Reply R Answer). visited_by r + visited g (start_after s r) cs) a.0

  pub finished-alike : (s : List ℕ) (cs : List C) → Alike s cs → finished f s cs ≡ finished g s cs
  unfolding finished
  finished-alike s [] a = refl
  finished-alike s (c ∷ cs) a =
      ap (λ (b : Bool). said_none_left (f s c) || b) (finished-alike (start_after s (f s c)) cs a.1)
      ∙ ap (λ (r : Reply R Answer). said_none_left r || finished g (start_after s r) cs) a.0
