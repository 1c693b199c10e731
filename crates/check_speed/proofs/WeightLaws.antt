-- Laws for a loop that adds byte after byte, each with its weight.
use Prim.Native.Nat.{ℕ, suc, ◌+◌, ◌*◌, ◌≤◌, ◌<◌}
use mathlib.Core.Path.{◌≡◌, ap, ◌∙◌}
use mathlib.Core.List.{List, [], ◌∷◌, ◌++◌}
use native.Mathlib.Nat.{le_of_lt, mul-le-mul}
use native.Mathlib.Numerals.{add-one}
use native.Mathlib.Omega.{arith}
use lib.ListN.{length, get_or, take}
use lib.Seq.{take-suc, take_all, length-take-le}
use Rattle.checksum.specs.Checksum.{covered, weighted_from, checksum}

-- the last byte stands apart
weighted-snoc : (k : ℕ) (l : List ℕ) (b : ℕ) → weighted_from k (l ++ (b ∷ [])) ≡ weighted_from k l + (k + length l + 1) * b
unfolding weighted_from
weighted-snoc k [] b =
    let e : (k + 1) * b ≡ (k + 0 + 1) * b = ap (λ (n : ℕ). n * b) (omega arith) in
    omega (arith, e)
weighted-snoc k (x ∷ l) b =
    let e : (k + 1 + length l + 1) * b ≡ (k + suc (length l) + 1) * b = ap (λ (n : ℕ). n * b) (omega arith) in
    omega (arith, weighted-snoc (k + 1) l b, e)

-- one more byte
pub weighted-more : (l : List ℕ) (i : ℕ) → i < length l
    → weighted_from 0 (take (i + 1) l) ≡ weighted_from 0 (take i l) + (i + 1) * get_or l i 0
weighted-more l i h =
    let n = length-take-le i l (le_of_lt h) in
    let e : (0 + length (take i l) + 1) * get_or l i 0 ≡ (i + 1) * get_or l i 0 = ap (λ (k : ℕ). k * get_or l i 0) (omega (arith, n)) in
    ap (λ (n : ℕ). weighted_from 0 (take n l)) (add-one i)
    ∙ ap (weighted_from 0) (take-suc l i 0 h)
    ∙ weighted-snoc 0 (take i l) (get_or l i 0)
    ∙ ap (λ (n : ℕ). weighted_from 0 (take i l) + n) e

-- a weighted byte is small
pub weighted-small : (i n b : ℕ) → i < n → b < 256 → (i + 1) * b ≤ n * 255
weighted-small i n b h k = mul-le-mul {n₂ = n} {m₂ = 255} (omega arith) (omega arith)

-- all bytes that the check covers were added
pub weighted-done : (l : List ℕ) (i : ℕ) → length (take covered l) ≤ i → weighted_from 0 (take i (take covered l)) ≡ checksum l
unfolding checksum
weighted-done l i h = ap (weighted_from 0) (take_all i (take covered l) h)
