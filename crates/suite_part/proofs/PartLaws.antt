-- Block k of a suite: empty exactly where the suite has no block k.
use Prim.Native.Nat.{ℕ, suc, ◌+◌, ◌-◌, ◌*◌, ◌≤◌, min}
use mathlib.Core.Path.{◌≡◌, refl, ap, ◌∙◌}
use mathlib.Core.Bool.{false}
use mathlib.Core.Logic.{◌↔◌}
use mathlib.Core.List.{List, [], ◌∷◌, cons-ne-nil}
use native.Mathlib.Omega.{arith}
use lib.ListN.{length, take, drop, length-take, length-drop, drop_of_length-le}
use lib.Seq.{take-nil}
use Rattle.std.proofs.lemmas.List.{take_min}
use borrow.Author.Tests.{ltb-false, le-ltb}
use Rattle.edition.specs.Limits.{block_length}
use Rattle.suite_part.specs.Part.{block_of, block_count, in_suite}

-- where all bytes stand before block k, it is empty
pub part_none : (s : List ℕ) (k : ℕ) → length s ≤ block_length * k → block_of s k ≡ []
unfolding block_of
part_none s k h = ap (take block_length) (drop_of_length-le s h) ∙ take-nil block_length

-- any other block begins with byte 512 k, and goes on for a block or to the suite's end
pub part : (s : List ℕ) (k to : ℕ) → to ≡ min (length s) (block_length * k + block_length)
    → take (to - block_length * k) (drop (block_length * k) s) ≡ block_of s k
unfolding block_of
part s k to e =
    let l : List ℕ = drop (block_length * k) s in
    let n = length-drop (block_length * k) s in
    let q : to - block_length * k ≡ min block_length (length l) = omega (arith, n, e) in
    ap (λ (m : ℕ). take m l) q ∙ take_min block_length l

-- it has all the bytes of a block
pub part_length : (s : List ℕ) (k : ℕ) (p : List ℕ) → block_length * k + block_length ≤ length s → p ≡ block_of s k → block_length ≤ length p
unfolding block_of
part_length s k p h e =
    let n = length-drop (block_length * k) s in
    omega (arith, ap length e, length-take block_length (drop (block_length * k) s), n)

nothing_left : {A : Type 0} (n : ℕ) (l : List A) → take (suc n) l ≡ [] → length l ≡ 0
nothing_left n [] e = refl
nothing_left n (x ∷ l) e = absurd (cons-ne-nil x (take n l) e)

-- an empty block k has all bytes before it
part-empty : (s : List ℕ) (k : ℕ) → block_of s k ≡ [] → length s ≤ block_length * k
unfolding block_of
part-empty s k e = omega (arith, nothing_left (block_length - 1) (drop (block_length * k) s) e, length-drop (block_length * k) s)

-- "then, and only then, an empty part is handed back"
pub empty-exactly : (s : List ℕ) (k : ℕ) → (block_of s k ≡ []) ↔ (in_suite s k ≡ false)
empty-exactly s k = (
  (λ e. le-ltb k (block_count s) (omega (arith, part-empty s k e))),
  (λ e. part_none s k (omega (arith, ltb-false k (block_count s) e))),
)
