use Prim.Native.Nat.{ℕ}
use mathlib.Core.Path.{◌≡◌, subst}
use native.Mathlib.Omega.{arith}
use lib.Seq.{get_or-take}
use Rattle.table.specs.Events.{no_event}
use Rattle.table.proofs.EventTests.{of_events}
use Rattle.table_lines.specs.Used.{Touches}
use Rattle.table_lines.proofs.UsedLaws.{touches-start, touches-more}
use Rattle.table_lines.proofs.touched.Goals as goal

pub loop-e-init : goal.loop-e-init
loop-e-init c = (omega arith, touches-start _)

pub one_if-mask-requires : goal.one_if-mask-requires
unfolding of_events
one_if-mask-requires c = let k = c.loop-e.e-index in
    let t = c.args.t in
    rw (c.from.ensures, get_or-take t.count t.events k no_event (omega arith))
    (omega (arith, c.requires.1, c.requires.2 k (omega arith)))

pub loop-e-preserved : goal.loop-e-preserved
unfolding of_events
loop-e-preserved c = let k = c.loop-e.e-index in
    let t = c.args.t in
    let slot = get_or-take t.count t.events k no_event (omega arith) in
    (omega arith, touches-more t k _ _ c.loop-e.invariant.1 (rw (c.memory-memory.ensures, c.from.ensures, slot) at c.one_if-mask.ensures))

pub returns : goal.returns
returns c = let b = c.loop-e in
    let t = c.args.t in
    let all : b.e-index ≡ t.count = omega (arith, b.invariant.0) in
    subst (λ (n : ℕ). Touches t n b.mask) all b.invariant.1
