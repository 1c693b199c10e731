use native.Mathlib.Omega.{arith}
use mathlib.Core.Path.{subst}
use Rattle.outcome_listing.specs.Gathering.{Within, Fits}
use Rattle.outcome_listing.proofs.DeliverLaws.{none-delivered, over-delivered, rows-delivered}
use Rattle.outcome_listing.proofs.deliver.Goals as goal

pub returns-then-n-eq0 : goal.returns-then-n-eq0
returns-then-n-eq0 c =
    let w = none-delivered c.args.width c.args.kept.now c.args.out.now c.args.gathered _ c.in-Some.is c.if-n-eq0.true in
    record { out_after = w.0; out_after_2 = w.1.0; result_value = w.1.1 }

pub copy_rows-requires : goal.copy_rows-requires
copy_rows-requires c = let e = c.in-Some.is in
    rw c.from.ensures (subst (Fits _ _) e c.requires.1, subst (Fits _ _) e c.requires.2)

pub overflow_cast-result : goal.overflow_cast-result
overflow_cast-result c = let n = subst (Within _) c.in-Some.is c.requires.0 in
    omega (arith, n)

pub returns-in-None : goal.returns-in-None
returns-in-None c =
    let w = over-delivered c.args.width c.args.kept.now c.args.out.now c.args.gathered c.in-None.is in
    record { out_after = w.0; out_after_2 = w.1.0; result_value = w.1.1 }

pub returns-else-n-eq0 : goal.returns-else-n-eq0
returns-else-n-eq0 c =
    let w = rows-delivered c.args.width c.args.kept.now c.args.out.now c.args.gathered _ _ c.in-Some.is c.if-n-eq0.false c.requires.1
    (rw c.from.ensures at c.copy_rows.ensures) in
    record { out_after = w.0; out_after_2 = w.1.0; result_value = w.1.1 }
