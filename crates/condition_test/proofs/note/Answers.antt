use Prim.Native.Nat.{ℕ}
use mathlib.Core.Path.{refl, ap, ◌∙◌}
use mathlib.Core.List.{[], ◌∷◌}
use lib.ListN.{get_or}
use borrow.Author.Tests.{lt-ltb, le-ltb}
use Rattle.condition_test.proofs.RunLaws.{as-number}
use Rattle.condition_test.proofs.note.Goals as goal

pub returns-then-depth-len : goal.returns-then-depth-len
returns-then-depth-len c = let a = c.args in
    rw (lt-ltb _ _ c.if-depth-len.true) (ap (λ (b : ℕ). a.next ∷ b ∷ a.depth ∷ get_or a.kept.now 3 0 ∷ []) (c.from.ensures ∙ as-number a.bit))

pub returns-else-depth-len : goal.returns-else-depth-len
returns-else-depth-len c = rw (le-ltb _ _ c.if-depth-len.false) refl
