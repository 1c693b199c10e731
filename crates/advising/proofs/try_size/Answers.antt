use Prim.Native.Nat.{ℕ, ◌^◌}
use native.Mathlib.Omega.{arith}
use mathlib.Core.Path.{refl, sym, ap, ◌∙◌}
use Rattle.std.proofs.lemmas.Result.{err_from_is_err_and}
use Rattle.advising.specs.Replies.{advice_of}
use Rattle.advising.proofs.EventLaws.{events-count}
use Rattle.advising.proofs.TryLaws.{masks-start, masks-skip, masks-stop, masks-on, masks-end}
use Rattle.advising.proofs.try_size.Goals as goal

pub one-m-requires : goal.one-m-requires
one-m-requires c = omega (arith, events-count _ c.ranges.fences.fits, c.requires.1)

pub loop-m-init : goal.loop-m-init
loop-m-init c = masks-start _ _ _ _ (c.one-m.ensures ∙ ap (λ (n : ℕ). 2 ^ n) (events-count _ c.ranges.fences.fits))

pub returns-in_err-said : goal.returns-in_err-said
returns-in_err-said c =
    let p = err_from_is_err_and c.from_residual.result c.from_residual.ensures.1 in
    rw (p.1, p.2) (masks-stop _ _ _ _ c.loop-m.invariant (omega arith) c.if-m-size.true c.chosen.ensures
    (sym (ap advice_of c.in_err-said.was) ∙ c.try_set.ensures) refl refl)

pub returns-then-decides : goal.returns-then-decides
returns-then-decides c = masks-stop _ _ _ _ c.loop-m.invariant (omega arith) c.if-m-size.true c.chosen.ensures
    (sym (ap advice_of c.in_ok-said.was) ∙ c.try_set.ensures) c.decides.ensures c.if-decides.true

pub loop-m-preserved-else-decides : goal.loop-m-preserved-else-decides
loop-m-preserved-else-decides c = masks-on _ _ _ _ c.loop-m.invariant (omega arith) c.if-m-size.true c.chosen.ensures
    (sym (ap advice_of c.in_ok-said.was) ∙ c.try_set.ensures) c.decides.ensures c.if-decides.false

pub loop-m-preserved : goal.loop-m-preserved
loop-m-preserved c = masks-skip _ _ _ _ c.loop-m.invariant (omega arith) c.if-m-size.false

pub returns : goal.returns
returns c = masks-end _ _ _ _ c.loop-m.invariant (omega arith)
