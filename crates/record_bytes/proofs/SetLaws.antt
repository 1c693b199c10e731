-- Laws of bytes that are set one behind the other.
use Prim.Native.Nat.{ℕ, suc, ◌+◌}
use mathlib.Core.Path.{◌≡◌, refl, ap, ◌∙◌}
use mathlib.Core.List.{List, [], ◌∷◌, ◌++◌}
use native.Mathlib.Nat.{add-zero}
use native.Mathlib.Numerals.{add-one}
use native.Mathlib.Omega.{arith}
use lib.ListN.{length, set}
use lib.Seq.{sets}

-- four bytes
pub set-four : (l : List ℕ) (at a b d e : ℕ) →
    set (set (set (set l (at + 0) a) (at + 1) b) (at + 2) d) (at + 3) e ≡ sets l at (a ∷ b ∷ d ∷ e ∷ [])
set-four l at a b d e =
    let two : at + 2 ≡ suc (suc at) = omega arith in
    let three : at + 3 ≡ suc (suc (suc at)) = omega arith in
    rw (add-zero at, add-one at, two, three) refl

-- two lists of bytes
sets-append : (a b l : List ℕ) (at : ℕ) → sets (sets l at a) (at + length a) b ≡ sets l at (a ++ b)
sets-append [] b l at = ap (λ (i : ℕ). sets l i b) (add-zero at)
sets-append (x ∷ a) b l at =
    let e : at + suc (length a) ≡ suc at + length a = omega arith in
    ap (λ (i : ℕ). sets (sets (set l at x) (suc at) a) i b) e ∙ sets-append a b (set l at x) (suc at)

-- the second list behind the first, which is set already
pub sets_more : (a b l m : List ℕ) (at n : ℕ) → m ≡ sets l at a → n ≡ at + length a → sets m n b ≡ sets l at (a ++ b)
sets_more a b l m at n e h =
    ap (λ (k : List ℕ). sets k n b) e ∙ ap (λ (i : ℕ). sets (sets l at a) i b) h ∙ sets-append a b l at
