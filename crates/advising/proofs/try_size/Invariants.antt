use Rattle.advice.specs.Advice.{search_with}
use Rattle.advising.specs.Chosen.{events_in}
use Rattle.advising.proofs.TryLaws.{MasksLeft}
use Rattle.advising.proofs.try_size.Given as goal

abbrev pub invariant-loop-m : goal.invariant-loop-m
invariant-loop-m l = MasksLeft (search_with l.t l.allowance) (events_in l.fences) l.size l.m
