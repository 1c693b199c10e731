-- Laws for a loop that tests 0, 1, 2, .. in turn and stops at the first number that passes.
use Prim.Native.Nat.{ℕ, suc, ◌+◌, ◌-◌, ◌≤◌, ◌<◌}
use mathlib.Core.Path.{◌≡◌, refl, sym, ap, ◌∙◌}
use mathlib.Core.Bool.{Bool, true, false}
use native.Mathlib.Nat.{sub-zero}
use native.Mathlib.Numerals.{add-one}
use native.Mathlib.Omega.{arith}
use lib.Dec.{ltb}
use borrow.Author.Tests.{lt-ltb, le-ltb}
use Rattle.lists.specs.Below.{first_from, lowest, some}

-- none of the numbers below k passes: the search of n numbers is the search of those left
abbrev pub Scanned : (ℕ → Bool) → ℕ → ℕ → Type 0
Scanned f n k = (k ≤ n) × (lowest n f ≡ first_from f k (n - k))

-- nothing is tested yet
pub scan-start : (f : ℕ → Bool) (n : ℕ) → Scanned f n 0
scan-start f n = (omega arith, simp sub-zero)

first-hit : (f : ℕ → Bool) (k m : ℕ) → f k ≡ true → first_from f k (suc m) ≡ k
unfolding first_from
first-hit f k m h = rw h refl

first-skip : (f : ℕ → Bool) (k m : ℕ) → f k ≡ false → first_from f k (suc m) ≡ first_from f (suc k) m
unfolding first_from
first-skip f k m h = rw h refl

first-none : (f : ℕ → Bool) (k : ℕ) → first_from f k 0 ≡ k
unfolding first_from
first-none f k = refl

-- k doesn't pass: go on
pub scan-more : (f : ℕ → Bool) (n k : ℕ) → Scanned f n k → k < n → f k ≡ false → Scanned f n (k + 1)
scan-more f n k s l h =
    let e : n - k ≡ suc (n - (k + 1)) = omega arith in
    (omega arith, s.1 ∙ ap (first_from f k) e ∙ first-skip f k (n - (k + 1)) h ∙ ap (λ (j : ℕ). first_from f j (n - (k + 1))) (sym (add-one k)))

-- k passes: it is the lowest
pub scan-hit : (f : ℕ → Bool) (n k : ℕ) → Scanned f n k → k < n → f k ≡ true → lowest n f ≡ k
scan-hit f n k s l h =
    let e : n - k ≡ suc (n - (k + 1)) = omega arith in
    s.1 ∙ ap (first_from f k) e ∙ first-hit f k (n - (k + 1)) h

-- all were tested: none passes
pub scan-end : (f : ℕ → Bool) (n k : ℕ) → Scanned f n k → n ≤ k → lowest n f ≡ n
scan-end f n k s l =
    let e : n - k ≡ 0 = omega arith in
    let q : k ≡ n = omega arith in
    s.1 ∙ ap (first_from f k) e ∙ first-none f k ∙ q

-- the same of "some number passes"
pub some-hit : (f : ℕ → Bool) (n k : ℕ) → Scanned f n k → k < n → f k ≡ true → some n f ≡ true
some-hit f n k s l h = ap (λ (j : ℕ). ltb j n) (scan-hit f n k s l h) ∙ lt-ltb k n l

pub some_end : (f : ℕ → Bool) (n k : ℕ) → Scanned f n k → n ≤ k → some n f ≡ false
some_end f n k s l = ap (λ (j : ℕ). ltb j n) (scan-end f n k s l) ∙ le-ltb n n (omega arith)
