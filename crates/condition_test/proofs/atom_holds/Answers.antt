use lib.ListN.{take}
use Rattle.condition_test.proofs.AtomLaws.{atom-read, atom-end}
use Rattle.condition_test.proofs.atom_holds.Goals as goal

pub returns-then-kind_of-eq-RETURNS : goal.returns-then-kind_of-eq-RETURNS
returns-then-kind_of-eq-RETURNS c = let a = c.args in record {
  holds_by = atom-read a.facts.now a.left.now (take a.len a.order.now) a.word _ _ c.kind_of.ensures
      c.number_of-number.ensures c.if-kind_of-eq-RETURNS.true _ _ c.value_read-told.result.depth c.value_read-told.ensures.reads_by c.value_of.ensures;
  depth_le_capacity = c.value_read-told.ensures.depth_le_capacity;
}

pub returns-else-kind_of-eq-RETURNS : goal.returns-else-kind_of-eq-RETURNS
returns-else-kind_of-eq-RETURNS c = let a = c.args in record {
  holds_by = atom-end a.facts.now a.left.now (take a.len a.order.now) a.word _ _ c.kind_of.ensures
      c.number_of-number.ensures c.if-kind_of-eq-RETURNS.false _ _ c.value_at_end-told.result.depth
      c.value_at_end-told.ensures.ends_by c.value_of-else-kind_of-eq-RETURNS.ensures;
  depth_le_capacity = c.value_at_end-told.ensures.depth_le_capacity;
}
