use mathlib.Core.Path.{refl}
use native.Mathlib.Omega.{arith}
use lib.Seq.{get_or-take}
use Rattle.table.specs.Events.{event, no_event}
use Rattle.encode.proofs.BegunLaws.{begun-record, begun-records, begun-start, length-begun-front}
use Rattle.encode.proofs.put_records.Goals as goal

pub loop-k-init : goal.loop-k-init
loop-k-init c = let a = c.args in
    (omega arith, refl, begun-start a.t a.block.now c.requires)

pub put_record-requires : goal.put_record-requires
put_record-requires c = let a = c.args in
    omega (arith, length-begun-front a.t a.block.now c.requires)

pub loop-k-preserved : goal.loop-k-preserved
unfolding event
loop-k-preserved c = let v = c.loop-k in
    let a = c.args in
    (omega arith, omega arith, begun-record a.t v.k v.block c.put_record.new.block (omega arith) v.invariant.2 (rw (get_or-take 16 a.t.events v.k no_event (omega arith)) at c.put_record.ensures))

pub returns : goal.returns
returns c = let v = c.loop-k in
    let a = c.args in
    begun-records a.t v.k v.block v.invariant.0 (omega arith) v.invariant.2
