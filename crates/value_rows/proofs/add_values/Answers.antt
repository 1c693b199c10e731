use mathlib.Core.Path.{refl}
use Rattle.fact_rows.specs.ValueRows.{Narrow}
use Rattle.value_rows.proofs.RowsLaws.{facts-kept, values-set}
use Rattle.value_rows.proofs.add_values.Goals as goal

pub returns : goal.returns
returns c = let t = c.args.t in
    let written = c.written.ensures in
    let actions = c.actions.ensures in
    let initial = c.initial.ensures in
    let narrow : Narrow t = record {
      initial = initial.narrow_initial;
      written = written.narrow_written;
      operation = λ e l. (actions.narrow_actions e l).0;
      operand = λ e l. (actions.narrow_actions e l).1;
    } in
    let long = c.row_count.ensures in
    let words = c.words.ensures in (
      facts-kept c.args.facts.now long _ _ _ _ _ _ _ words.value words.row_len t c.requires.2,
      values-set c.args.facts.now long _ _ _ _ _ _ _ words.value words.row_len t narrow c.places.ensures
          written.value actions.value c.writers.ensures initial.value refl,
    )
