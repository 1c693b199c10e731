use lib.ListN.{take}
use Rattle.fact_rows.specs.FactRows.{row}
use Rattle.fact_rows.specs.ValueRows.{written_row}
use Rattle.order_values.proofs.AlongLaws.{along-none}
use Rattle.outcome_values.proofs.OutcomeLaws.{gives}
use Rattle.outcome_values.proofs.outcome.Goals as goal

pub returns-then-facts-eq0 : goal.returns-then-facts-eq0
returns-then-facts-eq0 c = let a = c.args in record {
  gives = gives a.facts.now (row a.facts.now written_row) (take a.len a.order.now) a.readers a.locations _ _
      (along-none a.facts.now a.order.now a.len c.if-facts-eq0.true)
      c.outcome_by.ensures.gives_by;
  upper_bound = c.outcome_by.ensures.upper_bound;
}

pub returns : goal.returns
returns c = let a = c.args in record {
  gives = gives a.facts.now c.left_values-left.result (take a.len a.order.now) a.readers a.locations _ _
      c.left_values-left.ensures c.outcome_by-2.ensures.gives_by;
  upper_bound = c.outcome_by-2.ensures.upper_bound;
}
