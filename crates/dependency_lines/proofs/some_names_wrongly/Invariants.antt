use Rattle.table.specs.Events.{capacity}
use Rattle.masks.proofs.LeftLaws.{Left}
use Rattle.dependency_lines.proofs.DependencyLaws.{wrongly}
use Rattle.dependency_lines.proofs.some_names_wrongly.Given as goal

abbrev pub invariant-loop-m : goal.invariant-loop-m
invariant-loop-m l = Left (wrongly l.t l.k.0) capacity l.names l.m-iterator.0
