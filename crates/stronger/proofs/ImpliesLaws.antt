-- Tests of which one implies the other, and what is made of them.
use Prim.Native.Nat.{ℕ}
use mathlib.Core.Path.{◌≡◌, refl, sym, ap, ◌∙◌, subst}
use mathlib.Core.Bool.{Bool, true, false, ◌&&◌, ◌||◌, or-true}
use Rattle.lists.specs.Below.{some}
use Rattle.lists.proofs.BoolLaws.{and_l, and_r, and_both, or-taken}
use Rattle.lists.proofs.SomeLaws.{some_at, some-found}

-- what the first says, the second says
abbrev pub Implies : Bool → Bool → Type 0
Implies a b = a ≡ true → b ≡ true

pub same-implies : {a b : Bool} → a ≡ b → Implies a b
same-implies p h = sym p ∙ h

pub and-grows : {a b c d : Bool} → Implies a c → Implies b d → Implies (a && b) (c && d)
and-grows {a} {b} {c} {d} f g h = and_both c d (f (and_l a b h)) (g (and_r a b h))

pub or-grows : {a b c d : Bool} → Implies a c → Implies b d → Implies (a || b) (c || d)
or-grows {a = true} {b} {c} {d} f g h = sym (or-taken c d (f refl))
or-grows {a = false} {b} {c} {d} f g h = ap (λ (x : Bool). c || x) (g h) ∙ or-true c

pub some-grows : {n m : ℕ} (f g : ℕ → Bool) → n ≡ m → ((k : ℕ) → Implies (f k) (g k)) → Implies (some n f) (some m g)
some-grows {n} f g q h s =
    let r = some-found n f s in
    subst (λ (m : ℕ). some m g ≡ true) q (some_at n g r.0 r.1 (h r.0 r.2))
