use native.Mathlib.Omega.{arith}
use mathlib.Core.Path.{◌≡◌, refl, sym, ap, ◌∙◌}
use Rattle.std.proofs.lemmas.Result.{err_from_is_err_and}
use Rattle.advising.specs.Replies.{advice_of}
use lib.ListN.{length}
use lib.Count.{ones}
use Rattle.advising.specs.Chosen.{events_in}
use Rattle.advising.proofs.EventLaws.{events-count}
use Rattle.advising.proofs.TryLaws.{sizes-start, sizes-stop, sizes-on, sizes-end}
use Rattle.advising.proofs.try_all.Goals as goal
use Rattle.advising.proofs.try_all.Goals.{Start}

-- as many sizes as fences, and the empty set's
count : (c : Start) → ones c.args.fences ≡ length (events_in c.args.fences)
count c = events-count _ c.ranges.fences.fits

pub loop-size-init : goal.loop-size-init
loop-size-init c = sizes-start _ _

pub returns-in_err-said : goal.returns-in_err-said
returns-in_err-said c =
    let p = err_from_is_err_and c.from_residual.result c.from_residual.ensures.1 in
    rw (p.1, p.2) (sizes-stop _ _ _ c.loop-size.invariant (omega (arith, count (goal.at.returns-in_err-said c).Start))
    (sym (ap advice_of c.in_err-said.was) ∙ c.try_size.ensures) refl refl)

pub returns-then-decides : goal.returns-then-decides
returns-then-decides c = sizes-stop _ _ _ c.loop-size.invariant (omega (arith, count (goal.at.returns-then-decides c).Start))
    (sym (ap advice_of c.in_ok-said.was) ∙ c.try_size.ensures) c.decides.ensures c.if-decides.true

pub loop-size-preserved : goal.loop-size-preserved
loop-size-preserved c = sizes-on _ _ _ c.loop-size.invariant (omega (arith, count (goal.at.loop-size-preserved c).Start))
    (sym (ap advice_of c.in_ok-said.was) ∙ c.try_size.ensures) c.decides.ensures c.if-decides.false

pub returns : goal.returns
returns c = sizes-end _ _ _ c.loop-size.invariant (omega (arith, count (goal.at.returns c).Start))

pub returns-else-decides : goal.returns-else-decides
returns-else-decides c = sizes-end _ _ _
    (sizes-on _ _ _ c.loop-size.invariant (omega (arith, count (goal.at.returns-else-decides c).Start))
    (sym (ap advice_of c.in_ok-said.was) ∙ c.try_size.ensures) c.decides.ensures c.if-decides.false)
    (omega (arith, count (goal.at.returns-else-decides c).Start))
