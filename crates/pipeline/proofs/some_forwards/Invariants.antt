use Prim.Native.Nat.{◌-◌}
use Rattle.lists.proofs.ScanLaws.{Scanned}
use Rattle.pipeline.specs.Between.{forwards}
use Rattle.pipeline.proofs.some_forwards.Given as goal

abbrev pub invariant-loop-m : goal.invariant-loop-m
invariant-loop-m l = Scanned (forwards l.t l.w l.a.0 l.b.0) l.t.count l.m
