use mathlib.Core.Path.{refl}
use borrow.Author.Tests.{eq-eqb, ne_eqb}
use Rattle.synchronization.proofs.added.Goals as goal

pub returns-then-model-eq-RVTSO : goal.returns-then-model-eq-RVTSO
returns-then-model-eq-RVTSO c = rw (eq-eqb _ _ c.if-model-eq-RVTSO.true) c.ztso.ensures

pub returns-else-model-eq-RVTSO : goal.returns-else-model-eq-RVTSO
returns-else-model-eq-RVTSO c = rw (ne_eqb _ _ c.if-model-eq-RVTSO.false) refl
