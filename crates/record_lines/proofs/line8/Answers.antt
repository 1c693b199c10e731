use Rattle.refusals.specs.TableLines.{annotations_wrong, both_at_once, load_releases, writer_acquires}
use mathlib.Core.Path.{◌≡◌}
use mathlib.Core.Bool.{Bool, ◌&&◌, ◌||◌, not}
use lib.Dec.{eqb}
use Rattle.table.specs.Events.{load, store, lr, sc}
use Rattle.record_lines.proofs.line8.Goals as goal

-- the test of the annotations, of what the calls gave
wrong-same : (l s m n b d a x r y : Bool) → m ≡ n → b ≡ d → a ≡ x → r ≡ y
    → (m && (b || l && r && not a || s && a && not r)) ≡ (n && (d || l && y && not x || s && x && not y))
wrong-same l s m n b d a x r y e f g h = cc

pub returns : goal.returns
unfolding annotations_wrong both_at_once load_releases writer_acquires
returns c = let k = c.args.e.kind in
    wrong-same (eqb k load || eqb k lr) (eqb k store || eqb k sc) _ _ _ _ _ _ _ _ c.memory.ensures c.both_at_once.ensures c.acquires-acquire.ensures
    c.releases-release.ensures
