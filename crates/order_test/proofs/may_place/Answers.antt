use Rattle.order_test.proofs.TellLaws.{tell-place, tell-barred}
use Rattle.order_test.proofs.may_place.Goals as goal

pub returns-then-may_read : goal.returns-then-may_read
returns-then-may_read c = tell-place _ _ _ _ _ c.may_read.ensures c.may_write.ensures c.if-may_read.true

pub returns-else-may_read : goal.returns-else-may_read
returns-else-may_read c = rw c.if-may_read.false (tell-barred _ _ _ _ c.may_read.ensures c.if-may_read.false)
