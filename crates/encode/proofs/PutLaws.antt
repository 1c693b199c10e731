-- Laws of lists that are joined, and of the values, set one behind the other.
use Prim.Native.Nat.{ℕ, zero, suc, ◌+◌, ◌*◌, ◌≤◌}
use mathlib.Core.Path.{◌≡◌, refl, sym, ap, ◌∙◌}
use mathlib.Core.List.{List, ◌++◌}
use native.Mathlib.Numerals.{add-one}
use native.Mathlib.Omega.{arith}
use lib.ListN.{length, get_or, length-append}
use lib.Seq.{sets}
use Rattle.edition.specs.Limits.{max_locations}
use Rattle.record_bytes.specs.RecordBytes.{two}
use Rattle.encode.specs.Encoded.{joined, value_bytes}
use Rattle.record_bytes.proofs.SetLaws.{sets_more}

-- lists of one length, joined
pub length-joined : (w n : ℕ) (f : ℕ → List ℕ) → ((k : ℕ) → length (f k) ≡ w) → length (joined n f) ≡ w * n
unfolding joined
length-joined w zero f h = omega arith
length-joined w (suc n) f h =
    let e : w * suc n ≡ w * n + w = omega arith in
    omega (arith, length-append (joined n f) (f n), length-joined w n f h, h n, e)

-- one more list
pub joined-more : (n : ℕ) (f : ℕ → List ℕ) → joined (n + 1) f ≡ joined n f ++ f n
unfolding joined
joined-more n f = rw (add-one n) refl

-- a value for each location: one more is set
pub values-more : (vs l m n : List ℕ) (at x : ℕ) → m ≡ sets l at (joined x (λ y. two (get_or vs y 0))) → n ≡ sets m (at + 2 * x) (two (get_or vs x 0))
    → n ≡ sets l at (joined (x + 1) (λ y. two (get_or vs y 0)))
values-more vs l m n at x e f =
    let g : ℕ → List ℕ = λ y. two (get_or vs y 0) in
    f
    ∙ sets_more (joined x g) (g x) l m at (at + 2 * x) e (omega (arith, length-joined 2 x g (λ k. refl)))
    ∙ ap (λ (b : List ℕ). sets l at b) (sym (joined-more x g))

-- all are set
pub values-done : (vs l m : List ℕ) (at x : ℕ) → max_locations ≤ x → x ≤ max_locations → m ≡ sets l at (joined x (λ y. two (get_or vs y 0)))
    → m ≡ sets l at (value_bytes vs)
unfolding value_bytes
values-done vs l m at x h k e =
    let q : x ≡ max_locations = omega arith in
    e ∙ ap (λ (n : ℕ). sets l at (joined n (λ y. two (get_or vs y 0)))) q
