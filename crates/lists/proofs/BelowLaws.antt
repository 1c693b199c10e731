-- Laws of the numbers below a bound, and of those among them that pass a test.
use Prim.Native.Nat.{ℕ, zero, suc, ◌+◌, ◌≤◌}
use native.Mathlib.Omega.{arith}
use native.Mathlib.Numerals.{add-one}
use mathlib.Core.Path.{◌≡◌, ap, ◌∙◌}
use mathlib.Core.Bool.{Bool, true, false, ◌&&◌}
use mathlib.Core.List.{List, [], ◌∷◌, ◌++◌}
use lib.ListN.{length}
use lib.Dec.{ltb}
use borrow.Author.Tests.{lt-ltb, le-ltb}
use Rattle.lists.specs.Below.{up_from, below}
use Rattle.lists.specs.Lists.{kept, keep}
use Rattle.lists.proofs.QueueLaws.{kept-none}

from_more : (k m : ℕ) → up_from k (suc m) ≡ up_from k m ++ ((k + m) ∷ [])
unfolding up_from
from_more k zero = let e : k ≡ k + 0 = omega arith in ap (λ (x : ℕ). x ∷ []) e
from_more k (suc m) =
    let e : suc k + m ≡ k + suc m = omega arith in
    ap (λ (l : List ℕ). k ∷ l) (from_more (suc k) m ∙ ap (λ (x : ℕ). up_from (suc k) m ++ (x ∷ [])) e)

-- one number more
pub below_more : (n : ℕ) → below (n + 1) ≡ below n ++ (n ∷ [])
below_more n =
    let e : 0 + n ≡ n = omega arith in
    ap below (add-one n) ∙ from_more 0 n ∙ ap (λ (x : ℕ). below n ++ (x ∷ [])) e

from-few : (f : ℕ → Bool) (k m : ℕ) → length (keep f (up_from k m)) ≤ m
unfolding up_from
from-few f k zero = omega arith
from-few f k (suc m) = go (f k) (from-few f (suc k) m)
  where
    go : (b : Bool) → length (keep f (up_from (suc k) m)) ≤ m → length (kept b k (keep f (up_from (suc k) m))) ≤ suc m
    go true h = omega arith
    go false h = omega arith

-- no more than n of them pass
pub below-few : (f : ℕ → Bool) (n : ℕ) → length (keep f (below n)) ≤ n
below-few f n = from-few f 0 n

from-under : (f : ℕ → Bool) (n k m j : ℕ) → k + m ≡ n → m ≤ j → keep (λ x. ltb x n && f x) (up_from k j) ≡ keep f (up_from k m)
unfolding up_from
from-under f n k zero j e l =
    kept-none (λ x. ltb x n && f x) k j (λ x i. ap (λ (b : Bool). b && f x) (le-ltb x n (omega arith)))
from-under f n k (suc m) zero e l = absurd (omega arith)
from-under f n k (suc m) (suc j) e l =
    rw (lt-ltb k n (omega arith)) (ap (λ (r : List ℕ). kept (f k) k r) (from-under f n (suc k) m j (omega arith) (omega arith)))

-- those below a larger bound that are below n and pass
pub below-under : (f : ℕ → Bool) (n w : ℕ) → n ≤ w → keep (λ x. ltb x n && f x) (below w) ≡ keep f (below n)
below-under f n w l = from-under f n 0 n w (omega arith) l
