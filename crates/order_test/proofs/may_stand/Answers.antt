use Rattle.order_test.proofs.TellLaws.{tell-stated, tell-stands, tell-falls}
use Rattle.order_test.proofs.may_stand.Goals as goal

pub returns-then-reads_stated : goal.returns-then-reads_stated
returns-then-reads_stated c = tell-stands _ _ _ (tell-stated _ _ _ c.reads_stated.ensures) _ c.may_place.ensures c.if-reads_stated.true

pub returns-else-reads_stated : goal.returns-else-reads_stated
returns-else-reads_stated c =
    rw c.if-reads_stated.false (tell-falls _ _ _ (tell-stated _ _ _ c.reads_stated.ensures) c.if-reads_stated.false)
