use Prim.Native.Nat.{ℕ}
use mathlib.Core.Path.{◌≡◌, ap, ◌∙◌}
use mathlib.Core.List.{map}
use native.Mathlib.Omega.{arith}
use lib.ListN.{take}
use Rattle.text.specs.Texts.{covering}
use Rattle.text.proofs.CoverLaws.{cover-more}
use Rattle.text.proofs.least.Goals as goal

pub loop-k-preserved : goal.loop-k-preserved
loop-k-preserved c = let v = c.loop-k in (
  omega arith,
  cover-more (λ e. e.hart) _ v.k _ _ (omega arith) v.invariant.1 c.larger-harts.ensures,
  cover-more (λ e. e.location.0) _ v.k _ _ (omega arith) v.invariant.2 c.larger-locations.ensures,
)

pub returns : goal.returns
returns c = let v = c.loop-k in
    let l = c.args.events in
    let k : v.k ≡ c.args.count = omega arith in record { harts_value = v.invariant.1 ∙ ap (λ (j : ℕ). covering (map (λ e. e.hart) (take j l))) k; locations_value = v.invariant.2 ∙ ap (λ (j : ℕ). covering (map (λ e. e.location.0) (take j l))) k }
