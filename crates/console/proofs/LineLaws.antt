-- A line that a text is added to, byte by byte.
use Prim.Native.Nat.{ℕ, ◌≤◌}
use mathlib.Core.List.{List, [], ◌++◌, append-nil, append_assoc}
use mathlib.Core.Path.{◌≡◌, sym, ap, ◌∙◌, subst}
use lib.ListN.{length, take, length-append}
use lib.Seq.{take_all}
use native.Mathlib.Omega.{arith}
use Rattle.console.specs.declared.line.Line.{Line}
use Rattle.console.specs.Lines.{room, kept, AddsTo}

-- At last all of it is.
pub whole : (xs ys text : List ℕ) (n i : ℕ) → length text ≤ i → take n xs ≡ ys ++ take i text → take n xs ≡ ys ++ text
whole xs ys text n i h e = rw (take_all i text h) at e

-- One text after another.
pub then : (l m r : Line) (xs ys : List ℕ) → AddsTo l xs m → AddsTo m ys r → AddsTo l (xs ++ ys) r
unfolding AddsTo
then l m r xs ys p q fits =
    let long = length-append xs ys in
    let x = p (omega (arith, fits, long)) in
    let y = q (omega (arith, fits, long, x.0)) in
    (omega (arith, long, x.0, y.0), y.1 ∙ ap (λ (zs : List ℕ). zs ++ ys) x.1 ∙ append_assoc (kept l) xs ys)

-- The same text.
pub same_text : (l r : Line) {xs ys : List ℕ} → xs ≡ ys → AddsTo l xs r → AddsTo l ys r
same_text l r e h = subst (λ (zs : List ℕ). AddsTo l zs r) e h

-- No text.
pub nothing : (l : Line) → AddsTo l [] l
unfolding AddsTo
nothing l fits = (omega arith, sym (append-nil (kept l)))

-- A text that has room, in a line that was empty.
pub first-text : (l r : Line) (xs : List ℕ) → l.len ≡ 0 → length xs ≤ room → AddsTo l xs r → kept r ≡ xs
unfolding AddsTo
first-text l r xs e fits h = (h (omega (arith, e, fits))).1 ∙ ap (λ (n : ℕ). take n l.bytes ++ xs) e
