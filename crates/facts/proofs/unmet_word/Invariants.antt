use Prim.Native.Nat.{◌-◌}
use Rattle.masks.proofs.GatherLaws.{Gathered}
use Rattle.order_facts.specs.Facts.{unmet}
use Rattle.facts.proofs.unmet_word.Given as goal

abbrev pub invariant-loop-x : goal.invariant-loop-x
invariant-loop-x l = Gathered (unmet l.t) l.t.locations l.x l.mask
