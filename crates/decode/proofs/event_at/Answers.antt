use borrow.Author.Tests.{lt-ltb, le-ltb}
use Rattle.decode.specs.Decoded.{event_at}
use Rattle.decode.proofs.event_at.Goals as goal

-- `event_at`: by the test whether the block has record k.
pub returns-then-k-lt-EVENTS : goal.returns-then-k-lt-EVENTS
unfolding event_at
returns-then-k-lt-EVENTS c = rw (lt-ltb _ _ c.if-k-lt-EVENTS.true) c.record_at.ensures

pub returns-else-k-lt-EVENTS : goal.returns-else-k-lt-EVENTS
unfolding event_at
returns-else-k-lt-EVENTS c = rw (le-ltb _ _ c.if-k-lt-EVENTS.false) c.no_event.ensures
