use Prim.Native.Nat.{◌≤◌}
use mathlib.Core.Path.{◌≡◌}
use lib.ListN.{length, take}
use Rattle.lists.specs.Lists.{has}
use Rattle.lists.specs.Filled.{up_to}
use Rattle.table.specs.Events.{capacity, event}
use Rattle.advice.specs.Advice.{turned}
use Rattle.advising.specs.Chosen.{events_in}
use Rattle.advising.proofs.with_fences.Given as goal

abbrev pub invariant-loop-k : goal.invariant-loop-k
invariant-loop-k l = (l.k ≤ capacity) × (length l.events ≡ capacity) × (take l.k l.events ≡ up_to l.k (λ j. turned (has j (events_in l.set)) (event l.t j)))
