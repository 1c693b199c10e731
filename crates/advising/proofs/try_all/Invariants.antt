use Rattle.advice.specs.Advice.{search_with}
use Rattle.advising.specs.Chosen.{events_in}
use Rattle.advising.proofs.TryLaws.{SizesLeft}
use Rattle.advising.proofs.try_all.Given as goal

abbrev pub invariant-loop-size : goal.invariant-loop-size
invariant-loop-size l = SizesLeft (search_with l.t l.allowance) (events_in l.fences) l.size
