use mathlib.Core.Path.{ap, sym}
use mathlib.Core.Bool.{Bool}
use Rattle.advice.specs.Advice.{turned}
use Rattle.advising.proofs.turned.Goals as goal

pub returns-then-turns : goal.returns-then-turns
returns-then-turns c = ap (λ (b : Bool). turned b c.args.e) (sym c.if-turns.true)
