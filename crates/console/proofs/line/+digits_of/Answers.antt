use native.Mathlib.Omega.{arith}
use Rattle.console.proofs.TextLaws.{no-digit, one-digit, more-digits}
use Rattle.console.proofs.line.+digits_of.Goals as goal

pub returns-then-k-eq0-clause-value : goal.returns-then-k-eq0-clause-value
returns-then-k-eq0-clause-value t c = no-digit _ _ c.if-k-eq0.true

pub returns-then-n-lt10-clause-value : goal.returns-then-n-lt10-clause-value
returns-then-n-lt10-clause-value t c = one-digit _ _ _ c.if-k-eq0.false c.if-n-lt10.true c.requires

pub returns-else-n-lt10-clause-value : goal.returns-else-n-lt10-clause-value
returns-else-n-lt10-clause-value t c = more-digits _ _ _ _ c.if-k-eq0.false c.if-n-lt10.false (omega arith) c.digits_of-front.ensures.value
