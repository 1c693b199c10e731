-- Laws for a loop that fills an array or a lent buffer from the front, entry i with f i.
use Prim.Native.Nat.{ℕ, zero, suc, ◌+◌, ◌≤◌, ◌<◌}
use mathlib.Core.Path.{◌≡◌, refl, sym, ap, ◌∙◌}
use mathlib.Core.Logic.{⊎_elim}
use mathlib.Core.List.{List, [], ◌∷◌, ◌++◌, append_assoc}
use native.Mathlib.Nat.{le_of_suc-le-suc, eq-or-lt_of_le}
use native.Mathlib.Numerals.{add-one}
use native.Mathlib.Omega.{arith}
use lib.ListN.{length, get_or, take, drop, set, length-append, length-drop, get_or-append}
use lib.Seq.{take-suc-set, take_all, drop-cons, set_at, get_or_at, get_or-take, length-take-le, ext_get_or}
use Rattle.lists.specs.Filled.{up_to}

pub length-up_to : {A : Type 0} (n : ℕ) (f : ℕ → A) → length (up_to n f) ≡ n
unfolding up_to
length-up_to zero f = refl
length-up_to (suc n) f = omega (arith, length-append (up_to n f) (f n ∷ []), length-up_to n f)

-- entry k is f k
pub get_or-up_to : {A : Type 0} (n : ℕ) (f : ℕ → A) (k : ℕ) (d : A) → k < n → get_or (up_to n f) k d ≡ f k
unfolding up_to
get_or-up_to zero f k d h = absurd (omega arith)
get_or-up_to (suc n) f k d h =
    ⊎_elim (λ (e : k ≡ n). get_or_at (up_to n f) (f n) [] d k (length-up_to n f ∙ sym e) ∙ ap f (sym e))
    (λ l. get_or-append (up_to n f) (f n ∷ []) d k (omega (arith, length-up_to n f)) ∙ get_or-up_to n f k d l)
    (eq-or-lt_of_le (le_of_suc-le-suc h))

-- a list that agrees with f at each position is made from it
pub up_to-same : {A : Type 0} (n : ℕ) (f : ℕ → A) (d : A) (l : List A) → length l ≡ n → ((k : ℕ) → k < n → get_or l k d ≡ f k) → l ≡ up_to n f
up_to-same n f d l e h =
    ext_get_or d l (up_to n f) (e ∙ sym (length-up_to n f)) (λ k i. h k (omega arith) ∙ sym (get_or-up_to n f k d (omega arith)))

-- the front of a list is made from its entries: copying fills too
pub take-filled : (n : ℕ) (l : List ℕ) → n ≤ length l → take n l ≡ up_to n (λ k. get_or l k 0)
take-filled n l h = up_to-same n (λ k. get_or l k 0) 0 (take n l) (length-take-le n l h) (λ k i. get_or-take n l k 0 i)

-- an array: one more entry is filled
pub up_to-more : {A : Type 0} (f : ℕ → A) (l : List A) (i : ℕ) {v : A} → i < length l → take i l ≡ up_to i f → v ≡ f i
    → take (i + 1) (set l i v) ≡ up_to (i + 1) f
unfolding up_to
up_to-more f l i h e q = rw (add-one i, take-suc-set l i _ h, e, q)

-- an array: all n entries are filled
pub up_to-done : {A : Type 0} (f : ℕ → A) (l : List A) (i n : ℕ) → take i l ≡ up_to i f → n ≤ i → i ≤ n → length l ≡ n → l ≡ up_to n f
up_to-done f l i n e p q h =
    let k : i ≡ n = omega arith in
    sym (take_all i l (omega arith)) ∙ e ∙ ap (λ (j : ℕ). up_to j f) k

-- a lent buffer, which was o: one more entry is filled
pub fill_more : {A : Type 0} (f : ℕ → A) (o l : List A) (i : ℕ) {v : A} → l ≡ up_to i f ++ drop i o → i < length o → v ≡ f i
    → set l i v ≡ up_to (i + 1) f ++ drop (i + 1) o
unfolding up_to
fill_more f o l i e h q =
    rw (e, q, add-one i, drop-cons o i (f i) h, set_at (up_to i f) (get_or o i (f i)) (drop (suc i) o) (f i) i (length-up_to i f))
    (simp append_assoc)

-- a lent buffer keeps its length
pub fill-long : {A : Type 0} (f : ℕ → A) (o l : List A) (i : ℕ) → l ≡ up_to i f ++ drop i o → i ≤ length o → length l ≡ length o
fill-long f o l i e h =
    omega (arith, ap length e, length-append (up_to i f) (drop i o), length-up_to i f, length-drop i o)
