use native.Mathlib.Omega.{arith}
use lib.ListN.{take}
use Rattle.outcome_values.proofs.OutcomeLaws.{joined}
use Rattle.outcome_values.proofs.outcome_by.Goals as goal

pub returns : goal.returns
returns c = let g = c.go_along in
    let left_in = c.go_along.new.returned in
    let a = c.args in
    let told = c.returned_values-n.ensures in
    let ended = c.final_values.ensures in record {
      gives_by = rw c.from.ensures (joined a.facts.now a.left.now (take a.len a.order.now) a.readers a.locations left_in c.go_along.new.at
          g.ensures.returns_in g.ensures.ends_in _ _ _ told.upper_bound.0 told.upper_bound.1 told.values_after ended.values_after);
      upper_bound = (omega (arith, told.upper_bound.0, c.requires.1), ended.values_len);
    }
