-- What `array::from_fn` gives of a closure that changes nothing.
use Prim.Native.Nat.{ℕ, zero, suc, ◌+◌, ◌≤◌, ◌<◌}
use mathlib.Core.Path.{◌≡◌, sym, ap, subst, ◌∙◌}
use mathlib.Core.Logic.{⊎_elim}
use mathlib.Core.List.{List}
use native.Mathlib.Nat.{eq-or-lt_of_le}
use native.Mathlib.Omega.{arith}
use lib.ListN.{get_or}
use denote.Param.Members.{Mut, Called}
use Rattle.std.specs.Array.{IsFromFnResult, IsFromFnResultFrom}
use Rattle.lists.specs.Filled.{up_to}
use Rattle.lists.proofs.FilledLaws.{up_to-same}

-- a call of the closure f at j gives h j, and leaves f as it is
abbrev pub Gives : {F B : Type 0} → Mut F (ℕ × Unit {0}) B → F → (ℕ → B) → Type 0
Gives {F} {B} g f h = (j : ℕ) (y : B) (q : F) → Called g f (j, tt) y q → (q ≡ f) × (y ≡ h j)

entry : {F B : Type 0} (g : Mut F (ℕ × Unit {0}) B) (f : F) (h : ℕ → B) (ys : List B) (d : B) (i n : ℕ)
    → Gives g f h → IsFromFnResultFrom g f ys i n → (k : ℕ) → i ≤ k → k < i + n → get_or ys k d ≡ h k
entry g f h ys d i zero law w k low high = absurd (omega arith)
entry g f h ys d i (suc n) law (q, y, at, called, rest) k low high =
    let step = law i y q called in
    ⊎_elim
    (λ (e : i ≡ k). ap (λ (j : ℕ). get_or ys j d) (sym e) ∙ at.1 d ∙ step.1 ∙ ap h e)
    (λ l. entry g f h ys d (i + 1) n law (subst (λ (p : _). IsFromFnResultFrom g p ys (i + 1) n) step.0 rest) k (omega arith) (omega arith))
    (eq-or-lt_of_le low)

pub from_fn-same : {F B : Type 0} (g : Mut F (ℕ × Unit {0}) B) (f : F) (h : ℕ → B) (ys : List B) (d : B) (n : ℕ)
    → Gives g f h → IsFromFnResult g f ys n → ys ≡ up_to n h
from_fn-same g f h ys d n law w = up_to-same n h d ys w.long (λ k l. entry g f h ys d 0 n law w.each k (omega arith) (omega arith))
