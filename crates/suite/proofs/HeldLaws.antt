-- The bytes held at the front of a buffer.
use Prim.Native.Nat.{ℕ, ◌-◌, ◌≤◌}
use mathlib.Core.List.{List, [], ◌++◌, append_assoc}
use mathlib.Core.Path.{◌≡◌, sym, ap, ◌∙◌}
use native.Mathlib.Omega.{arith}
use lib.ListN.{length, take, drop, length-take, length-drop, drop_of_length-le}
use lib.Seq.{take-take, take_at, length-take-le}
use Rattle.std.specs.Prelude.{Result, Ok, Err}
use Rattle.console.specs.Input.{Holds}
use Rattle.edition.specs.Limits.{two, blocks_of}
use Rattle.suite_walk.proofs.WalkLaws.{near}
use Rattle.suite.specs.declared.held.Step.{Step}
use Rattle.suite.specs.Held.{Turn}

-- What is held once more was read is what was held before it.
pub holds_on : {E : Type 0} (held n : ℕ) (before mid after : List ℕ) (r : Result ℕ E) → length mid ≡ length before → Holds {E = E} held before mid (Ok n)
    → Holds n mid after r → Holds held before after r
holds_on held n before mid after (Ok m) l h k = (
  omega (arith, h.0, k.0),
  omega (arith, l, k.1),
  sym (take-take held n after h.0) ∙ ap (take held) k.2 ∙ take-take held n mid h.0 ∙ h.2,
)
holds_on held n before mid after (Err e) l h k = tt

-- What it passed is at most three blocks, and what it left is in the buffer.
pub few : (held : ℕ) (before after : List ℕ) (step : Step) → Turn held before after step
    → (step.blocks ≤ blocks_of two) × (step.held ≤ length before)
few held before after step t = (omega (arith, t.pass.moved, near t.bytes 0), omega (arith, t.fit, t.pass.within))

-- The bytes behind the first `past` come to the front.
pub rotated : (past held : ℕ) (b r rest : List ℕ) → past ≤ held → held ≤ length b → r ≡ drop past (take held b) ++ take past (take held b)
    → take (held - past) (r ++ rest) ≡ drop past (take held b)
rotated past held b r rest h k e =
    let front : List ℕ = drop past (take held b) in
    let n : length front ≡ held - past = omega (arith, length-drop past (take held b), length-take-le held b k) in
    ap (λ (xs : List ℕ). take (held - past) (xs ++ rest)) e
    ∙ ap (take (held - past)) (append_assoc front (take past (take held b)) rest)
    ∙ take_at front (take past (take held b) ++ rest) (held - past) n

pub none-left : (past held : ℕ) (b : List ℕ) → held ≤ past → [] ≡ drop past (take held b)
none-left past held b h = sym (drop_of_length-le (take held b) {i = past} (omega (arith, length-take held b)))
