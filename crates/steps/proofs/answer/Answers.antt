use Rattle.steps.proofs.ReplyLaws.{other-model}
use Rattle.steps.proofs.answer.Goals as goal

pub returns-then-t-ne-RVTSO : goal.returns-then-t-ne-RVTSO
returns-then-t-ne-RVTSO c = other-model _ _ _ c.if-t-ne-RVTSO.true

pub step_behind-requires : goal.step_behind-requires
step_behind-requires c = record { tso = c.requires.1 c.if-t-ne-RVTSO.false; sets = c.of_table-sets.ensures; pred = c.predecessors-pred.ensures }
