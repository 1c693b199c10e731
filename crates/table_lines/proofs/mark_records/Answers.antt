use Prim.Native.Nat.{◌<◌}
use native.Mathlib.Omega.{arith}
use Rattle.masks.proofs.GatherLaws.{gather-start, gather-more, gather-end}
use Rattle.table.specs.Events.{memory_events, memory_mask}
use Rattle.table.proofs.EventTests.{of_events}
use Rattle.refusals.specs.TableLines.{line7, line8}
use Rattle.table_lines.proofs.mark_records.Goals as goal

pub loop-k-init : goal.loop-k-init
loop-k-init c = record {
  fields-so-far = gather-start _ _;
  annotations-so-far = gather-start _ _;
  memory-so-far = gather-start _ _;
}

pub loop-k-preserved : goal.loop-k-preserved
unfolding line7 line8 of_events
loop-k-preserved c = let v = c.loop-k.invariant in
    let l : c.loop-k.k < c.args.t.count = omega arith in
    record {
      fields-so-far = gather-more _ _ _ _ _ v.fields-so-far l (rw (c.line7.ensures, c.from.ensures) at c.one_if-fields.ensures);
      annotations-so-far = gather-more _ _ _ _ _ v.annotations-so-far l (rw (c.line8.ensures, c.from.ensures) at c.one_if-annotations.ensures);
      memory-so-far = gather-more _ _ _ _ _ v.memory-so-far l (rw (c.memory.ensures, c.from.ensures) at c.one_if-memory.ensures);
    }

pub returns : goal.returns
unfolding memory_mask memory_events
returns c = let v = c.loop-k.invariant in
    record {
      fields_value = gather-end _ _ _ _ v.fields-so-far (omega arith);
      annotations_value = gather-end _ _ _ _ v.annotations-so-far (omega arith);
      memory_value = gather-end _ _ _ _ v.memory-so-far (omega arith);
    }
