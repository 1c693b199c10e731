use mathlib.Core.Path.{refl}
use Rattle.fact_rows.proofs.AroundLaws.{needs-plain, needs-itself}
use Rattle.fact_rows.proofs.needs_row.Goals as goal

pub returns-then-x-eq-STORE : goal.returns-then-x-eq-STORE
returns-then-x-eq-STORE c = needs-plain _ _ c.under-named.ensures c.if-x-eq-STORE.true

pub returns-else-x-eq-STORE : goal.returns-else-x-eq-STORE
returns-else-x-eq-STORE c = needs-itself _ _ _ _ c.under-named.ensures c.one.ensures c.if-x-eq-STORE.false refl
