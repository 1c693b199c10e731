use Prim.Native.Nat.{◌-◌}
use Rattle.lists.proofs.ScanLaws.{Scanned}
use Rattle.overlap.specs.Between.{overwrites}
use Rattle.overlap.proofs.some_overwrites.Given as goal

abbrev pub invariant-loop-m : goal.invariant-loop-m
invariant-loop-m l = Scanned (overwrites l.t l.a.0 l.b.0) l.t.count l.m
