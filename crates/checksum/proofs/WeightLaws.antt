-- Laws of plain and weighted sums of lists of any length.
use Prim.Native.Nat.{ℕ, zero, suc, ◌+◌, ◌*◌, ◌≤◌}
use mathlib.Core.Path.{◌≡◌, refl, sym}
use mathlib.Core.List.{List, [], ◌∷◌, ◌++◌}
use native.Mathlib.Nat.{add-mul, mul-add, mul-le-mul}
use native.Mathlib.Omega.{arith}
use lib.ListN.{length, get_or}
use Rattle.checksum.specs.Checksum.{weighted_from}
use Rattle.checksum.specs.Lanes.{added, plain}

-- a place further on, each byte counts once more
weighted-next : (k : ℕ) (l : List ℕ) → weighted_from (k + 1) l ≡ weighted_from k l + plain l
unfolding weighted_from plain
weighted-next k [] = refl
weighted-next k (b ∷ l) = omega (arith, weighted-next (k + 1) l, add-mul (k + 1) 1 b)

pub plain-append : (l m : List ℕ) → plain (l ++ m) ≡ plain l + plain m
unfolding plain
plain-append [] m = omega arith
plain-append (b ∷ l) m = omega (arith, plain-append l m)

-- what stands behind l counts by as many places more as l has
pub weighted-append : (k : ℕ) (l m : List ℕ) → weighted_from k (l ++ m) ≡ weighted_from k l + length l * plain m + weighted_from k m
unfolding weighted_from plain
weighted-append k [] m = omega arith
weighted-append k (b ∷ l) m =
    omega (arith, weighted-append (k + 1) l m, weighted-next k m, add-mul (length l) 1 (plain m))

pub length-added : (a b : List ℕ) → length a ≡ length b → length (added a b) ≡ length a
unfolding added
length-added [] [] e = refl
length-added [] (y ∷ b) e = refl
length-added (x ∷ a) [] e = absurd (omega (arith, e))
length-added (x ∷ a) (y ∷ b) e = omega (arith, length-added a b (omega (arith, e)))

pub plain-added : (a b : List ℕ) → length a ≡ length b → plain (added a b) ≡ plain a + plain b
unfolding added plain
plain-added [] [] e = refl
plain-added [] (y ∷ b) e = absurd (omega (arith, e))
plain-added (x ∷ a) [] e = absurd (omega (arith, e))
plain-added (x ∷ a) (y ∷ b) e = omega (arith, plain-added a b (omega (arith, e)))

pub weighted-added : (k : ℕ) (a b : List ℕ) → length a ≡ length b → weighted_from k (added a b) ≡ weighted_from k a + weighted_from k b
unfolding added weighted_from
weighted-added k [] [] e = refl
weighted-added k [] (y ∷ b) e = absurd (omega (arith, e))
weighted-added k (x ∷ a) [] e = absurd (omega (arith, e))
weighted-added k (x ∷ a) (y ∷ b) e = omega (arith, weighted-added (k + 1) a b (omega (arith, e)), mul-add (k + 1) x y)

pub get_or-added : (a b : List ℕ) (k : ℕ) → length a ≡ length b → get_or (added a b) k 0 ≡ get_or a k 0 + get_or b k 0
unfolding added
get_or-added [] [] k e = refl
get_or-added [] (y ∷ b) k e = absurd (omega (arith, e))
get_or-added (x ∷ a) [] k e = absurd (omega (arith, e))
get_or-added (x ∷ a) (y ∷ b) zero e = refl
get_or-added (x ∷ a) (y ∷ b) (suc k) e = get_or-added a b k (omega (arith, e))

-- no lane is more than all of them
pub plain_at : (a : List ℕ) (k : ℕ) → get_or a k 0 ≤ plain a
unfolding plain
plain_at [] k = omega arith
plain_at (x ∷ a) zero = omega arith
plain_at (x ∷ a) (suc k) = omega (arith, plain_at a k)

-- no byte counts more often than the last place says
pub weighted-small : (k : ℕ) (l : List ℕ) → weighted_from k l ≤ (k + length l) * plain l
unfolding weighted_from plain
weighted-small k [] = omega arith
weighted-small k (b ∷ l) =
    let n : k + 1 + length l ≡ k + suc (length l) = omega arith in
    let first = mul-le-mul {n₁ = k + 1} {m₁ = b} {n₂ = k + 1 + length l} {m₂ = b} (omega arith) (omega arith) in
    rw (sym n) (omega (arith, weighted-small (k + 1) l, first, mul-add (k + 1 + length l) b (plain l)))
