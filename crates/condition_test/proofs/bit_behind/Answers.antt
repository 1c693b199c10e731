use native.Mathlib.Omega.{arith}
use lib.ListN.{take}
use Rattle.condition_test.proofs.AtomLaws.{turn-atom, turn-not, turn-stays}
use Rattle.condition_test.proofs.bit_behind.Goals as goal

pub returns-then-kind-le-ENDS : goal.returns-then-kind-le-ENDS
returns-then-kind-le-ENDS c = let a = c.args in record {
  turns_by = turn-atom a.facts.now a.left.now (take a.len a.order.now) a.bit a.word _ c.kind_of-kind.ensures
      c.if-kind-le-ENDS.true _ c.atom_holds.result.depth c.atom_holds.ensures.holds_by;
  depth_le_capacity = c.atom_holds.ensures.depth_le_capacity;
}

pub returns-then-kind-eq-NOT : goal.returns-then-kind-eq-NOT
returns-then-kind-eq-NOT c = let a = c.args in record {
  turns_by = turn-not a.facts.now a.left.now (take a.len a.order.now) a.bit a.word _ c.kind_of-kind.ensures
      c.if-kind-le-ENDS.false c.if-kind-eq-NOT.true;
  depth_le_capacity = omega arith;
}

pub returns : goal.returns
returns c = let a = c.args in record {
  turns_by = turn-stays a.facts.now a.left.now (take a.len a.order.now) a.bit a.word _ c.kind_of-kind.ensures
      c.if-kind-le-ENDS.false c.if-kind-eq-NOT.false;
  depth_le_capacity = omega arith;
}
