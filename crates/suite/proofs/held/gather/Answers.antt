use mathlib.Core.Path.{sym, subst}
use native.Mathlib.Omega.{arith}
use lib.Seq.{length-take-le}
use Rattle.edition.specs.Limits.{block_length}
use Rattle.console.specs.Input.{Holds}
use Rattle.suite.proofs.HeldLaws.{holds_on}
use Rattle.suite.proofs.held.gather.Goals as goal

pub slice_bounds-begins_two-end-then-n-ge-BLOCK : goal.slice_bounds-begins_two-end-then-n-ge-BLOCK
slice_bounds-begins_two-end-then-n-ge-BLOCK c = let filled = c.fill_to in
    sym (length-take-le block_length filled.new.buffer (omega (arith, filled.auto)))

pub begins_two-requires : goal.begins_two-requires
begins_two-requires c = let filled = c.fill_to in
    omega (arith, length-take-le block_length filled.new.buffer (omega (arith, filled.auto)))

pub returns-then-begins_two : goal.returns-then-begins_two
returns-then-begins_two c = let filled = c.fill_to in
    let held = subst (Holds _ _ _) c.in_ok-n.was filled.ensures in
    holds_on _ _ _ _ _ c.fill_to-then-begins_two.result filled.auto.buffer held c.fill_to-then-begins_two.ensures
