use mathlib.Core.Path.{ap}
use lib.ListN.{set}
use Rattle.fact_rows.specs.ValueRows.{operated_word}
use Rattle.value_rows.proofs.words.Goals as goal

pub returns : goal.returns
returns c = record { value = ap (set c.args.row operated_word) c.operated.ensures; row_len = c.well_formed.1.0.1.0.1 }
