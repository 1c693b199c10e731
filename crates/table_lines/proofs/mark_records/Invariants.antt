use Prim.Native.Nat.{ℕ}
use Rattle.masks.proofs.GatherLaws.{Gathered}
use Rattle.table.specs.declared.Table.{Table}
use Rattle.table.specs.Events.{memory}
use Rattle.refusals.specs.TableLines.{line7, line8}
use Rattle.table_lines.proofs.mark_records.Given as goal

-- of the records those before k are marked
pub record Marking (t : Table) (k fields annotations memories : ℕ) : Type 0 where
  pub fields-so-far : Gathered (line7 t) t.count k fields
  pub annotations-so-far : Gathered (line8 t) t.count k annotations
  pub memory-so-far : Gathered (memory t) t.count k memories

abbrev pub invariant-loop-k : goal.invariant-loop-k
invariant-loop-k l = Marking l.t l.k l.fields l.annotations l.memory
