use Prim.Native.Nat.{ℕ}
use mathlib.Core.Path.{refl, ap, ap₂, ◌∙◌}
use mathlib.Core.Bool.{◌&&◌, ◌||◌, not}
use Rattle.dependency_lines.specs.Passing.{lacking, may_break}
use Rattle.dependency_lines.proofs.may_break.Goals as goal

pub returns : goal.returns
unfolding may_break
returns c = let p = c.args.p in
    rw c.from.ensures
    (ap₂ ◌||◌
    (ap₂ ◌||◌
    (ap₂ ◌||◌ (c.lacks.ensures ∙ ap (λ (x : ℕ). lacking x p.sources) c.named.ensures)
    (ap₂ ◌&&◌ (ap not c.writes.ensures) refl))
    (ap₂ ◌&&◌ c.memory.ensures c.lacks-2.ensures))
    refl)
