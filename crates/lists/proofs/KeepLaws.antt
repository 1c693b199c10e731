-- Laws of what is kept of a list.
use Prim.Native.Nat.{ℕ}
use mathlib.Core.Path.{◌≡◌, refl, ap₂}
use mathlib.Core.Bool.{Bool, true, false}
use mathlib.Core.List.Memᴰ
use mathlib.Core.List.{List, [], ◌∷◌}
use Rattle.lists.specs.Lists.{◌∈◌, all, kept, keep}
use Rattle.lists.proofs.BoolLaws.{and_l, and_r}

-- tests that agree on the entries keep the same
pub keep_same : {A : Type 0} (f g : A → Bool) (l : List A) → ((x : A) → x ∈ l → f x ≡ g x) → keep f l ≡ keep g l
keep_same f g [] h = refl
keep_same {A} f g (x ∷ l) h =
    ap₂ (λ (b : Bool) (m : List A). kept b x m) (h x (Memᴰ.head refl)) (keep_same f g l (λ y m. h y (Memᴰ.tail m)))

-- a test that no entry passes keeps none
pub keep-none : {A : Type 0} (f : A → Bool) (l : List A) → ((x : A) → x ∈ l → f x ≡ false) → keep f l ≡ []
keep-none f [] h = refl
keep-none f (x ∷ l) h = rw (h x (Memᴰ.head refl)) (keep-none f l (λ y m. h y (Memᴰ.tail m)))

-- what every entry passes, it passes a weaker test too
pub all-weaken : (f g : ℕ → Bool) (l : List ℕ) → ((x : ℕ) → f x ≡ true → g x ≡ true) → all f l ≡ true → all g l ≡ true
all-weaken f g [] h k = refl
all-weaken f g (x ∷ l) h k = rw (h x (and_l (f x) (all f l) k)) (all-weaken f g l h (and_r (f x) (all f l) k))
