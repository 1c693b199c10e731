use native.Mathlib.Omega.{arith}
use Rattle.masks.proofs.PartLaws.{lowest-room}
use Rattle.fact_rows.specs.FactRows.{mask}
use Rattle.state_test.specs.Board.{kind_row, memory_word}
use Rattle.state_test.proofs.ChosenLaws.{and_again, chosen-quiet, chosen-set, chosen-all}
use Rattle.state_test.proofs.choice.Goals as goal

pub one-requires : goal.one-requires
one-requires c = omega (arith, c.lowest_set.ensures, lowest-room _ c.if-quiet-ne0.true c.less-quiet.type_inv)

pub returns-then-quiet-ne0 : goal.returns-then-quiet-ne0
returns-then-quiet-ne0 c t b a = chosen-quiet b _ _ a _ _ _ _ _ c.less-readers.ensures (c.opening.ensures t b) c.less-quiet.ensures
    c.if-quiet-ne0.true c.less-quiet.type_inv c.lowest_set.ensures c.one.ensures

pub persists-requires : goal.persists-requires
persists-requires c = and_again c.smallest.result (mask c.args.ties.now kind_row memory_word)

pub returns-then-persists : goal.returns-then-persists
returns-then-persists c t b a = chosen-set b _ _ a _ _ (c.persists.ensures t b) c.if-persists.true

pub returns-else-persists : goal.returns-else-persists
returns-else-persists c t b a = chosen-all b _ _ a
