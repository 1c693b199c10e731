use Prim.Native.Nat.{◌-◌}
use Rattle.lists.proofs.ScanLaws.{Scanned}
use Rattle.synchronization.specs.Between.{separates}
use Rattle.synchronization.proofs.rule4.Given as goal

abbrev pub invariant-loop-m : goal.invariant-loop-m
invariant-loop-m l = Scanned (separates l.t l.a.0 l.b.0) l.t.count l.m
