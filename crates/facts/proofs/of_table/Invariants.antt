use Prim.Native.Nat.{ℕ, ◌-◌}
use mathlib.Core.List.{List}
use Rattle.lists.proofs.PaddedLaws.{Padded}
use Rattle.table.specs.declared.Table.{Table}
use Rattle.table.specs.Events.{capacity}
use Rattle.order_facts.specs.Facts.{mask_by, own_writer, needed, grounds, guards, here, right, peers}
use Rattle.facts.proofs.of_table.Given as goal

-- the rows of the events before e are filled
pub record Filling (t : Table) (e : ℕ) (ownRows needsRows groundRows guardsRows hereRows rightRows peersRows : List ℕ) : Type 0 where
  pub own-so-far : Padded (λ (k : ℕ). mask_by t (own_writer t k)) capacity t.count e ownRows
  pub needs-so-far : Padded (λ (k : ℕ). mask_by t (needed t k)) capacity t.count e needsRows
  pub ground-so-far : Padded (λ (k : ℕ). mask_by t (grounds t k)) capacity t.count e groundRows
  pub guards-so-far : Padded (λ (k : ℕ). mask_by t (guards t k)) capacity t.count e guardsRows
  pub here-so-far : Padded (λ (k : ℕ). mask_by t (here t k)) capacity t.count e hereRows
  pub right-so-far : Padded (λ (k : ℕ). mask_by t (right t k)) capacity t.count e rightRows
  pub peers-so-far : Padded (λ (k : ℕ). mask_by t (peers t k)) capacity t.count e peersRows

abbrev pub invariant-loop-e : goal.invariant-loop-e
invariant-loop-e l = Filling l.t l.e l.own l.needs l.ground l.guards l.here l.right l.peers
