use native.Mathlib.Omega.{arith}
use Rattle.console.proofs.LineLaws.{whole}
use Rattle.console.specs.Lines.{kept, AddsTo}
use Rattle.console.proofs.line.Line.text.Goals as goal

pub returns : goal.returns
unfolding AddsTo
returns c = let v = c.loop-b in
    λ fits.
    let e = v.invariant.1 fits in
    (omega (arith, e.0), whole v.self.bytes (kept c.args.self) c.args.text.now v.self.len v.b-index (omega arith) e.1)
