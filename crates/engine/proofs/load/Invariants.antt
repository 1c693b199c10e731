use Rattle.engine.proofs.LoadLaws.{Reading}
use Rattle.engine.proofs.load.Given as goal

abbrev pub invariant-loop-len : goal.invariant-loop-len
invariant-loop-len l = Reading l.pred l.succ l.mem l.start l.order l.len l.placed l.can
