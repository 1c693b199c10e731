use Prim.Native.Nat.{◌-◌}
use Rattle.lists.proofs.ScanLaws.{Scanned}
use Rattle.pipeline.specs.Between.{addresses}
use Rattle.pipeline.proofs.some_addresses.Given as goal

abbrev pub invariant-loop-m : goal.invariant-loop-m
invariant-loop-m l = Scanned (addresses l.t l.a.0 l.b.0) l.t.count l.m
