use Rattle.fact_rows.specs.FactRows.{row}
use Rattle.fact_rows.specs.ValueRows.{written_row}
use Rattle.order_values.proofs.AlongLaws.{along-none}
use Rattle.condition_test.proofs.RunLaws.{meets-kept, meets_on}
use Rattle.condition_test.proofs.meets.Goals as goal

pub returns-then-words-kept : goal.returns-then-words-kept
returns-then-words-kept c = let a = c.args in record {
  meets = meets-kept a.seen.now a.order.now a.len a.facts.now a.words.now a.kept.now c.resume.new.kept
      c.resume.ensures c.if-words-kept.true;
  seen_len = c.requires.1;
}

pub returns-then-facts-eq0 : goal.returns-then-facts-eq0
returns-then-facts-eq0 c = let a = c.args in record {
  meets = meets_on a.seen.now a.order.now a.len a.facts.now a.words.now a.kept.now c.resume.new.kept
      c.resume.ensures (row a.facts.now written_row)
      (along-none a.facts.now a.order.now a.len c.if-facts-eq0.true) _
      c.run_on.new.kept (c.run_on.ensures.goes_on, c.run_on.ensures.kept_bound);
  seen_len = c.requires.0.long;
}

pub returns : goal.returns
returns c = let a = c.args in record {
  meets = meets_on a.seen.now a.order.now a.len a.facts.now a.words.now a.kept.now c.resume.new.kept
      c.resume.ensures c.left_values-left.result c.left_values-left.ensures _
      c.run_on-2.new.kept (c.run_on-2.ensures.goes_on, c.run_on-2.ensures.kept_bound);
  seen_len = c.requires.0.long;
}
