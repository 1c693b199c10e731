use Rattle.text.proofs.UnknownLaws.{unknown-event, unknown-other}
use Rattle.text.proofs.word_unknown.Goals as goal

pub returns-then-kind-eq-RETURNS : goal.returns-then-kind-eq-RETURNS
returns-then-kind-eq-RETURNS c = unknown-event _ _ _ c.args.word _ c.if-kind-eq-RETURNS.true c.reads.ensures

pub returns : goal.returns
returns c = unknown-other _ _ _ c.args.word c.if-kind-eq-RETURNS.false
