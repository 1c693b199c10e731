use mathlib.Core.Path.{refl}
use borrow.Author.Tests.{eq-eqb, ne_eqb}
use Rattle.table.specs.Annotations.{ztso}
use Rattle.synchronization.proofs.ztso.Goals as goal

pub returns-then-kind : goal.returns-then-kind
unfolding ztso
returns-then-kind c = rw c.if-kind.true refl

pub returns-then-kind-2 : goal.returns-then-kind-2
unfolding ztso
returns-then-kind-2 c = rw (c.if-kind.false, c.if-kind-2.true) refl

pub returns-then-kind-eq-AMO : goal.returns-then-kind-eq-AMO
unfolding ztso
returns-then-kind-eq-AMO c = rw (c.if-kind.false, c.if-kind-2.false, eq-eqb _ _ c.if-kind-eq-AMO.true) refl

pub returns : goal.returns
unfolding ztso
returns c = rw (c.if-kind.false, c.if-kind-2.false, ne_eqb _ _ c.if-kind-eq-AMO.false) refl
