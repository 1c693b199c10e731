use lib.ListN.{take}
use Rattle.console.specs.Lines.{AddsTo}
use Rattle.console.specs.Texts.{spaced}
use Rattle.console.proofs.line.Line.list.Given as goal

abbrev pub invariant-loop-b : goal.invariant-loop-b
invariant-loop-b l = AddsTo l.initial.self (spaced (take l.b-index l.bytes)) l.self
