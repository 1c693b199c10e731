-- What two tests keep of the numbers below a bound, where they differ at one number: a queue, oldest first, that it enters or leaves.
use Prim.Native.Nat.{ℕ, zero, suc, ◌+◌, ◌≤◌, ◌<◌}
use native.Mathlib.Nat.{eq-or-lt_of_le}
use native.Mathlib.Omega.{arith}
use mathlib.Core.Path.{◌≡◌, refl, sym, ap, ap₂, ◌∙◌}
use mathlib.Core.Bool.{Bool, true, false}
use mathlib.Core.List.{List, [], ◌∷◌, ◌++◌}
use mathlib.Core.Logic.{⊎_elim}
use Rattle.lists.specs.Below.{up_from, below}
use Rattle.lists.specs.Lists.{kept, keep}

-- none of the numbers from k on is kept
pub kept-none : (f : ℕ → Bool) (k m : ℕ) → ((x : ℕ) → k ≤ x → f x ≡ false) → keep f (up_from k m) ≡ []
unfolding up_from
kept-none f k zero h = refl
kept-none f k (suc m) h = rw (h k (omega arith)) (kept-none f (suc k) m (λ x l. h x (omega arith)))

module _ (f g : ℕ → Bool) where
  -- the same ones are
  kept_same : (k m : ℕ) → ((x : ℕ) → k ≤ x → f x ≡ g x) → keep f (up_from k m) ≡ keep g (up_from k m)
  unfolding up_from
  kept_same k zero h = refl
  kept_same k (suc m) h = ap₂ (λ (b : Bool) (l : List ℕ). kept b k l) (h k (omega arith)) (kept_same (suc k) m (λ x l. h x (omega arith)))

  pub queue-same : (n : ℕ) → ((x : ℕ) → f x ≡ g x) → keep f (below n) ≡ keep g (below n)
  queue-same n h = kept_same 0 n (λ x l. h x)

  module _ (e : ℕ) (off : f e ≡ false) (on : g e ≡ true) where
    enters-from : (k m : ℕ) → k ≤ e → e < k + m → ((x : ℕ) → x < e → f x ≡ g x) →
        ((x : ℕ) → e < x → (f x ≡ false) × (g x ≡ false)) → keep g (up_from k m) ≡ keep f (up_from k m) ++ (e ∷ [])
    unfolding up_from
    enters-from k zero l i under over = absurd (omega arith)
    enters-from k (suc m) l i under over =
        ⊎_elim here (λ q. later (f k) (under k q) (enters-from (suc k) m q (omega arith) under over)) (eq-or-lt_of_le l)
      where
        here : k ≡ e → kept (g k) k (keep g (up_from (suc k) m)) ≡ kept (f k) k (keep f (up_from (suc k) m)) ++ (e ∷ [])
        here q =
            rw (
              ap f q ∙ off,
              ap g q ∙ on,
              kept-none f (suc k) m (λ x j. (over x (omega arith)).0),
              kept-none g (suc k) m (λ x j. (over x (omega arith)).1),
            )
            (ap (λ (x : ℕ). x ∷ []) q)

        later : (b : Bool) → b ≡ g k → keep g (up_from (suc k) m) ≡ keep f (up_from (suc k) m) ++ (e ∷ []) →
            kept (g k) k (keep g (up_from (suc k) m)) ≡ kept b k (keep f (up_from (suc k) m)) ++ (e ∷ [])
        later true q h = rw (sym q) (ap (λ (l : List ℕ). k ∷ l) h)
        later false q h = rw (sym q) h

    -- e enters, behind the others
    pub queue-enters : (n : ℕ) → e < n → ((x : ℕ) → x < e → f x ≡ g x) →
        ((x : ℕ) → e < x → (f x ≡ false) × (g x ≡ false)) → keep g (below n) ≡ keep f (below n) ++ (e ∷ [])
    queue-enters n l under over = enters-from 0 n (omega arith) (omega arith) under over

  module _ (e : ℕ) (on : f e ≡ true) (off : g e ≡ false) where
    leaves-from : (k m : ℕ) → k ≤ e → e < k + m → ((x : ℕ) → x < e → (f x ≡ false) × (g x ≡ false)) →
        ((x : ℕ) → e < x → f x ≡ g x) → keep f (up_from k m) ≡ e ∷ keep g (up_from k m)
    unfolding up_from
    leaves-from k zero l i under over = absurd (omega arith)
    leaves-from k (suc m) l i under over =
        ⊎_elim
        (λ (q : k ≡ e). rw (ap f q ∙ on, ap g q ∙ off, kept_same (suc k) m (λ x j. over x (omega arith)))
        (ap (λ (x : ℕ). x ∷ keep g (up_from (suc k) m)) q))
        (λ q. rw ((under k q).0, (under k q).1) (leaves-from (suc k) m q (omega arith) under over)) (eq-or-lt_of_le l)

    -- e leaves, the first of them
    pub queue-leaves : (n : ℕ) → e < n → ((x : ℕ) → x < e → (f x ≡ false) × (g x ≡ false)) →
        ((x : ℕ) → e < x → f x ≡ g x) → keep f (below n) ≡ e ∷ keep g (below n)
    queue-leaves n l under over = leaves-from 0 n (omega arith) (omega arith) under over
