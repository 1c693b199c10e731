use Prim.Native.Nat.{ℕ, ◌-◌}
use mathlib.Core.Bool.{true, ◌||◌}
use mathlib.Core.List.{List}
use lib.Dec.{eqb}
use Rattle.masks.proofs.GatherLaws.{Gathered}
use Rattle.masks.proofs.SortLaws.{Sorted}
use Rattle.edition.specs.Limits.{max_harts, max_locations}
use Rattle.table.specs.declared.Table.{Table}
use Rattle.table.specs.Events.{kind, hart, location, reads, writes, lr, sc}
use Rattle.table.specs.Annotations.{acquire, release, rcsc}
use Rattle.event_sets.proofs.of_table.Given as goal

-- of the events those before k are sorted into the sets
pub record Sorting (t : Table) (k readers writers acquires releases rcscs reserving : ℕ) (harts locations : List ℕ) : Type 0 where
  pub readers-so-far : Gathered (reads t) t.count k readers
  pub writers-so-far : Gathered (writes t) t.count k writers
  pub acquires-so-far : Gathered (acquire t) t.count k acquires
  pub releases-so-far : Gathered (release t) t.count k releases
  pub rcscs-so-far : Gathered (rcsc t) t.count k rcscs
  pub reserving-so-far : Gathered (λ e. eqb (kind t e) lr || eqb (kind t e) sc) t.count k reserving
  pub harts-so-far : Sorted (λ e. true) (hart t) max_harts t.count k harts
  pub locations-so-far : Sorted (λ e. true) (location t) max_locations t.count k locations

abbrev pub invariant-loop-k : goal.invariant-loop-k
invariant-loop-k l = Sorting l.t l.k l.readers l.writers l.acquires l.releases l.rcscs l.reserving l.harts l.locations
