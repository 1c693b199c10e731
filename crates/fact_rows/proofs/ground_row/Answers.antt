use Prim.Native.Nat.{ℕ, ◌<◌}
use mathlib.Core.Path.{refl, sym, subst, ◌∙◌}
use Rattle.table.specs.Events.{capacity}
use Rattle.masks.proofs.PartLaws.{lowest-room}
use Rattle.fact_rows.proofs.AroundLaws.{ground-other, ground-none, ground-writer}
use Rattle.fact_rows.proofs.ground_row.Goals as goal

pub returns-then-not-writes : goal.returns-then-not-writes
returns-then-not-writes c = ground-other _ _ _ (sym c.writes.ensures ∙ c.if-not-writes.true) c.own_row.ensures

pub returns-then-window-eq0 : goal.returns-then-window-eq0
returns-then-window-eq0 c = ground-none _ _ (sym c.writes.ensures ∙ c.if-not-writes.false) c.if-window-eq0.true

pub under-requires : goal.under-requires
under-requires c = subst (λ (x : ℕ). x < capacity) (sym c.lowest_set.ensures)
    (lowest-room _ c.if-window-eq0.false c.ranges.window.fits)

pub returns : goal.returns
returns c = ground-writer _ _ _ _ _ (sym c.writes.ensures ∙ c.if-not-writes.false)
    c.if-window-eq0.false c.lowest_set.ensures c.under.ensures refl
