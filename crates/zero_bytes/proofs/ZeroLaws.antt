-- A sum isn't zero exactly if one of its numbers isn't.
use Prim.Native.Nat.{ℕ, zero, suc, ◌+◌, ◌<◌}
use mathlib.Core.Path.{◌≡◌, sym, ap, ◌∙◌}
use mathlib.Core.Bool.{Bool, true, false, not}
use mathlib.Core.Logic.{⊎_elim}
use native.Mathlib.Nat.{eq-or-lt_of_le}
use native.Mathlib.Omega.{arith}
use lib.Dec.{eqb}
use borrow.Author.Tests.{ne_eqb}
use Rattle.lists.specs.Below.{some}
use Rattle.lists.proofs.SomeLaws.{some_at, some-found, some-none, none-at}

positive : (n : ℕ) → 0 < n → not (eqb n 0) ≡ true
positive n h = ap not (ne_eqb n 0 (λ q. absurd (omega (arith, q))))

-- one more number
pub sum_more : (f : ℕ → Bool) (i sum b : ℕ) → not (eqb sum 0) ≡ some i f → f i ≡ not (eqb b 0) →
    not (eqb (sum + b) 0) ≡ some (i + 1) f
sum_more f i zero zero h e = sym (some-none (i + 1) f none)
  where
    none : (k : ℕ) → k < i + 1 → f k ≡ false
    none k l = ⊎_elim (λ (q : k ≡ i). ap f q ∙ e) (λ q. none-at i f k (sym h) q) (eq-or-lt_of_le (omega arith))
sum_more f i zero (suc b) h e =
    positive (zero + suc b) (omega arith) ∙ sym (some_at (i + 1) f i (omega arith) (e ∙ positive (suc b) (omega arith)))
sum_more f i (suc sum) b h e =
    let r = some-found i f (sym h ∙ positive (suc sum) (omega arith)) in
    positive (suc sum + b) (omega arith) ∙ sym (some_at (i + 1) f r.0 (omega (arith, r.1)) r.2)
