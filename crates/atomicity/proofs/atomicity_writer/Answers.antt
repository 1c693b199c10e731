use mathlib.Core.Path.{◌≡◌, ap, ◌∙◌}
use Rattle.lists.specs.Below.{lowest}
use Rattle.model.specs.Axioms.{breaks_pair}
use Rattle.table.specs.declared.EventNo.{EventNo}
use Rattle.atomicity.proofs.AtomicityLaws.{writer-late, writer-between}
use Rattle.atomicity.proofs.LowestLaws.{found-lowest}
use Rattle.atomicity.proofs.atomicity_writer.Goals as goal
use Rattle.atomicity.proofs.atomicity_writer.Goals.{After-unwrap_or-s}

lowest-sc : (c : After-unwrap_or-s) → let a = c.args in
    c.unwrap_or-s.result.0 ≡ lowest a.t.count (breaks_pair a.t a.rf.now a.gmo.now a.l.0)
lowest-sc c = ap (λ (e : EventNo). e.0) c.unwrap_or-s.ensures ∙ found-lowest _ _ _ c.lowest_sc.ensures

pub returns-then-write_is_late : goal.returns-then-write_is_late
returns-then-write_is_late c = let p = goal.at.returns-then-write_is_late c in
    c.returned_from.ensures
    ∙ writer-late _ _ _ _ _ (lowest-sc p.After-unwrap_or-s) (rw c.write_is_late.ensures at c.if-write_is_late.true)

pub returns-else-write_is_late : goal.returns-else-write_is_late
returns-else-write_is_late c = let p = goal.at.returns-else-write_is_late c in
    ap (λ (e : EventNo). e.0) c.unwrap_or.ensures ∙ found-lowest _ _ _ c.lowest_intruder.ensures
    ∙ writer-between _ _ _ _ _ (lowest-sc p.After-unwrap_or-s) (rw c.write_is_late.ensures at c.if-write_is_late.false)
