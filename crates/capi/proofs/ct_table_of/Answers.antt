use Rattle.block.specs.Reading.{table_of}
use mathlib.Core.Path.{sym, ap, ◌∙◌}
use Rattle.capi.proofs.ct_table_of.Goals as goal

pub returns-in-Ok : goal.returns-in-Ok
returns-in-Ok c = sym (ap table_of c.in-Ok.is) ∙ c.read.ensures.1

pub returns-in-Err : goal.returns-in-Err
returns-in-Err c = c.no_table.ensures ∙ sym (ap table_of c.in-Err.is) ∙ c.read.ensures.1
