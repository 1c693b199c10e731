use Prim.Native.Nat.{ℕ, ◌-◌}
use mathlib.Core.List.{List}
use Rattle.lists.proofs.PaddedLaws.{Padded}
use Rattle.masks.proofs.GatherLaws.{Gathered}
use Rattle.table.specs.declared.Table.{Table}
use Rattle.table.specs.Events.{capacity, event}
use Rattle.model.specs.Returns.{initial_value}
use Rattle.order_facts.specs.Facts.{mask_by, opens, good, wrong}
use Rattle.facts.proofs.look.Given as goal

-- the events before e are looked at
pub record Looking (t : Table) (e : ℕ) (window values : List ℕ) (goods wrongs : ℕ) : Type 0 where
  pub windows-so-far : Padded (λ (k : ℕ). mask_by t (opens t k)) capacity t.count e window
  pub values-so-far : Padded (λ (k : ℕ). (event t k).read) capacity t.count e values
  pub good-so-far : Gathered (good t (initial_value t)) t.count e goods
  pub wrong-so-far : Gathered (wrong t) t.count e wrongs

abbrev pub invariant-loop-e : goal.invariant-loop-e
invariant-loop-e l = Looking l.t l.e l.window l.values l.good l.wrong
