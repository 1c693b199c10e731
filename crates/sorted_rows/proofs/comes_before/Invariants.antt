use mathlib.Core.Path.{◌≡◌}
use lib.ListN.{drop}
use Rattle.lists.specs.Ascending.{less}
use Rattle.sorted_rows.proofs.comes_before.Given as goal

abbrev pub invariant-loop-k : goal.invariant-loop-k
invariant-loop-k l = less l.a l.b ≡ less (drop l.k l.a) (drop l.k l.b)
