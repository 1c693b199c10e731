use Rattle.lists.proofs.ScanLaws.{Scanned}
use Rattle.table.specs.Events.{reserves}
use Rattle.table.proofs.some_reserves.Given as goal

abbrev pub invariant-loop-m : goal.invariant-loop-m
invariant-loop-m l = Scanned (reserves l.t l.a.0 l.b.0) l.t.count l.m
