-- Readers one behind the other.
use Prim.Native.Nat.{ℕ}
use mathlib.Core.Path.{◌≡◌, refl}
use mathlib.Core.List.{List}
use Rattle.text_format.specs.Reading.{Read, got, breach, and_then}

pub then-got : {A : Type 0} (m : Read A) → and_then m (λ a t. got a t) ≡ m
then-got (got a t) = refl
then-got (breach n t) = refl

pub then-then : {A B C : Type 0} (m : Read A) (f : A → List ℕ → Read B) (g : B → List ℕ → Read C) →
    and_then (and_then m f) g ≡ and_then m (λ a t. and_then (f a t) g)
then-then (got a t) f g = refl
then-then (breach n t) f g = refl

pub then_same : {A B : Type 0} (m : Read A) (f g : A → List ℕ → Read B) → ((a : A) (t : List ℕ) → f a t ≡ g a t) →
    and_then m f ≡ and_then m g
then_same (got a t) f g h = h a t
then_same (breach n t) f g h = refl
