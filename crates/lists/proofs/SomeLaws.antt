-- Laws of the tests below a bound: the lowest number that passes, whether some or every one passes.
use Prim.Native.Nat.{ℕ, zero, suc, ◌+◌, ◌≤◌, ◌<◌}
use mathlib.Core.Path.{◌≡◌, refl, sym, ap, ◌∙◌}
use mathlib.Core.Bool.{Bool, true, false, cond, not, ◌&&◌, ◌||◌, or-true, true≢false}
use mathlib.Core.Logic.{⊎_elim}
use native.Mathlib.Nat.{eq-or-lt_of_le, le_of_suc-le-suc}
use native.Mathlib.Omega.{arith}
use lib.Dec.{ltb}
use borrow.Author.Tests.{ltb-true, ltb-false, lt-ltb, le-ltb, not-true, not-false}
use Rattle.lists.specs.Below.{first_from, lowest, some, every, IsLowest}
use Rattle.lists.proofs.BoolLaws.{and_l, and_r, and_both, bool-ext}

-- the search from k stops by k + m
first-le : (f : ℕ → Bool) (k m : ℕ) → first_from f k m ≤ k + m
unfolding first_from
first-le f k zero = omega arith
first-le f k (suc m) = go (f k) (first-le f (suc k) m)
  where
    go : (b : Bool) → first_from f (suc k) m ≤ suc k + m → cond b k (first_from f (suc k) m) ≤ k + suc m
    go true h = omega arith
    go false h = omega arith

-- where the search stops early, the number passes
first-hit : (f : ℕ → Bool) (k m : ℕ) → first_from f k m < k + m → f (first_from f k m) ≡ true
unfolding first_from
first-hit f k zero h = absurd (omega arith)
first-hit f k (suc m) h = go (f k) refl h (first-hit f (suc k) m)
  where
    go : (b : Bool) → f k ≡ b → cond b k (first_from f (suc k) m) < k + suc m
        → (first_from f (suc k) m < suc k + m → f (first_from f (suc k) m) ≡ true) → f (cond b k (first_from f (suc k) m)) ≡ true
    go true e h r = e
    go false e h r = r (omega arith)

-- no number that the search passed over passes
first-least : (f : ℕ → Bool) (k m j : ℕ) → k ≤ j → j < first_from f k m → f j ≡ false
unfolding first_from
first-least f k zero j l h = absurd (omega arith)
first-least f k (suc m) j l h = go (f k) refl h (first-least f (suc k) m j)
  where
    go : (b : Bool) → f k ≡ b → j < cond b k (first_from f (suc k) m) → (suc k ≤ j → j < first_from f (suc k) m → f j ≡ false) → f j ≡ false
    go true e h r = absurd (omega arith)
    go false e h r = ⊎_elim (λ (q : k ≡ j). ap f (sym q) ∙ e) (λ q. r q h) (eq-or-lt_of_le l)

-- tests that agree stop the search at the same number
first-same : (f g : ℕ → Bool) (k m : ℕ) → ((j : ℕ) → j < k + m → f j ≡ g j) → first_from f k m ≡ first_from g k m
unfolding first_from
first-same f g k zero e = refl
first-same f g k (suc m) e =
    rw (e k (omega arith), first-same f g (suc k) m (λ j l. e j (omega arith)))

-- the lowest is at most the bound
pub lowest-le : (n : ℕ) (f : ℕ → Bool) → lowest n f ≤ n
lowest-le n f = omega (arith, first-le f 0 n)

-- the lowest passes, where it is below the bound
pub lowest-hit : (n : ℕ) (f : ℕ → Bool) → lowest n f < n → f (lowest n f) ≡ true
lowest-hit n f h = first-hit f 0 n (omega arith)

-- no number under the lowest passes
pub lowest-least : (n : ℕ) (f : ℕ → Bool) (k : ℕ) → k < lowest n f → f k ≡ false
lowest-least n f k h = first-least f 0 n k (omega arith) h

-- the lowest number is the lowest, where some passes
pub is-lowest : (n : ℕ) (f : ℕ → Bool) → some n f ≡ true → IsLowest n f (lowest n f)
is-lowest n f h =
    let l : lowest n f < n = ltb-true _ _ h in
    (l, lowest-hit n f l, λ j k. lowest-least n f j k)

-- and no other number is
pub lowest-is : (n : ℕ) (f : ℕ → Bool) (k : ℕ) → IsLowest n f k → lowest n f ≡ k
lowest-is n f k h = go (ltb (lowest n f) k) refl (ltb k (lowest n f)) refl
  where
    go : (a : Bool) → ltb (lowest n f) k ≡ a → (b : Bool) → ltb k (lowest n f) ≡ b → lowest n f ≡ k
    go true p b q =
        let l = ltb-true (lowest n f) k p in
        absurd (true≢false (sym (lowest-hit n f (omega (arith, h.0))) ∙ h.2 (lowest n f) l))
    go false p true q = absurd (true≢false (sym h.1 ∙ lowest-least n f k (ltb-true k (lowest n f) q)))
    go false p false q = omega (arith, ltb-false (lowest n f) k p, ltb-false k (lowest n f) q)

-- tests that agree below the bound have the same lowest
pub lowest-same : (n : ℕ) (f g : ℕ → Bool) → ((k : ℕ) → k < n → f k ≡ g k) → lowest n f ≡ lowest n g
lowest-same n f g e = first-same f g 0 n (λ j l. e j (omega arith))

-- one that passes is some
pub some_at : (n : ℕ) (f : ℕ → Bool) (k : ℕ) → k < n → f k ≡ true → some n f ≡ true
some_at n f k l e = go (some n f) refl
  where
    go : (b : Bool) → some n f ≡ b → b ≡ true
    go true q = refl
    go false q = absurd (true≢false (sym e ∙ lowest-least n f k (omega (arith, ltb-false (lowest n f) n q))))

-- some that passes can be named
pub some-found : (n : ℕ) (f : ℕ → Bool) → some n f ≡ true → (k : ℕ) × (k < n) × (f k ≡ true)
some-found n f h = let l = ltb-true (lowest n f) n h in (lowest n f, l, lowest-hit n f l)

-- where none passes, there is not some
pub some-none : (n : ℕ) (f : ℕ → Bool) → ((k : ℕ) → k < n → f k ≡ false) → some n f ≡ false
some-none n f h = go (some n f) refl
  where
    go : (b : Bool) → some n f ≡ b → b ≡ false
    go true q = let r = some-found n f q in absurd (true≢false (sym r.2 ∙ h r.0 r.1))
    go false q = refl

-- where there is not some, none passes
pub none-at : (n : ℕ) (f : ℕ → Bool) (k : ℕ) → some n f ≡ false → k < n → f k ≡ false
none-at n f k h l = lowest-least n f k (omega (arith, ltb-false (lowest n f) n h))

-- tests that agree below the bound answer the same
pub some_same : (n : ℕ) (f g : ℕ → Bool) → ((k : ℕ) → k < n → f k ≡ g k) → some n f ≡ some n g
some_same n f g e = ap (λ (x : ℕ). ltb x n) (lowest-same n f g e)

-- where every one passes, each does
pub every-at : (n : ℕ) (f : ℕ → Bool) (k : ℕ) → every n f ≡ true → k < n → f k ≡ true
every-at n f k h l = not-false (f k) (none-at n (λ j. not (f j)) k (not-true (some n (λ j. not (f j))) h) l)

-- where each passes, every one does
pub at_every : (n : ℕ) (f : ℕ → Bool) → ((k : ℕ) → k < n → f k ≡ true) → every n f ≡ true
at_every n f h = ap not (some-none n (λ j. not (f j)) (λ k l. ap not (h k l)))

-- tests that agree below the bound
pub every-same : (n : ℕ) (f g : ℕ → Bool) → ((k : ℕ) → k < n → f k ≡ g k) → every n f ≡ every n g
every-same n f g e = ap not (some_same n (λ k. not (f k)) (λ k. not (g k)) (λ k l. ap not (e k l)))

-- every one passes two tests at once
pub every-both : (n : ℕ) (f g : ℕ → Bool) → every n (λ k. f k && g k) ≡ (every n f && every n g)
every-both n f g =
    bool-ext (every n (λ k. f k && g k)) (every n f && every n g)
    (λ h. and_both (every n f) _ (at_every n f (λ k l. and_l (f k) (g k) (every-at n (λ k. f k && g k) k h l)))
    (at_every n g (λ k l. and_r (f k) (g k) (every-at n (λ k. f k && g k) k h l))))
    (λ h. at_every n (λ k. f k && g k) (λ k l. and_both (f k) (g k) (every-at n f k (and_l (every n f) _ h) l)
    (every-at n g k (and_r (every n f) _ h) l)))

-- the lowest is below the bound: there is some
pub some_below : (n k : ℕ) (f : ℕ → Bool) → k ≡ lowest n f → k < n → some n f ≡ true
some_below n k f e h = ap (λ (j : ℕ). ltb j n) (sym e) ∙ lt-ltb k n h

-- it isn't: there is none
pub none_below : (n k : ℕ) (f : ℕ → Bool) → k ≡ lowest n f → n ≤ k → some n f ≡ false
none_below n k f e h = ap (λ (j : ℕ). ltb j n) (sym e) ∙ le-ltb k n h

-- of one number more: there was some, or it passes
pub some_more : (n : ℕ) (f : ℕ → Bool) → some (n + 1) f ≡ (some n f || f n)
some_more n f = go (some n f) refl (f n) refl
  where
    go : (b : Bool) → some n f ≡ b → (c : Bool) → f n ≡ c → some (n + 1) f ≡ (b || c)
    go true e c q = let r = some-found n f e in some_at (n + 1) f r.0 (omega (arith, r.1)) r.2
    go false e true q = some_at (n + 1) f n (omega arith) q
    go false e false q =
        some-none (n + 1) f
        (λ k l. ⊎_elim (λ (d : k ≡ n). ap f d ∙ q) (λ d. none-at n f k e d) (eq-or-lt_of_le (le_of_suc-le-suc (omega arith))))

-- some that passes one of two tests passes the first or the second
pub some_or : (n : ℕ) (f g : ℕ → Bool) → some n (λ k. f k || g k) ≡ (some n f || some n g)
some_or n f g = go (some n f) refl (some n g) refl
  where
    go : (b : Bool) → some n f ≡ b → (c : Bool) → some n g ≡ c → some n (λ k. f k || g k) ≡ (b || c)
    go true e c q =
        let r = some-found n f e in
        some_at n (λ k. f k || g k) r.0 r.1 (ap (λ (s : Bool). s || g r.0) r.2)
    go false e true q =
        let r = some-found n g q in
        some_at n (λ k. f k || g k) r.0 r.1 (ap (λ (s : Bool). f r.0 || s) r.2 ∙ or-true (f r.0))
    go false e false q = some-none n (λ k. f k || g k) (λ k l. rw (none-at n f k e l) (none-at n g k q l))

-- what doesn't look at the number can be asked once
pub some-and : (n : ℕ) (b : Bool) (f : ℕ → Bool) → some n (λ k. b && f k) ≡ (b && some n f)
some-and n true f = refl
some-and n false f = some-none n (λ k. false) (λ k l. refl)
