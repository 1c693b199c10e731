-- What is asked of an event when it takes its place in an order, over any set of events that are placed before it. Rules 2, 3 and
-- 12, which "look at what was returned", and atomicity can be asked so, and so can the value read: no return need be known.
use Rattle.std.specs.Prelude.{ℕ, Bool, cond, ◌&&◌, ◌||◌, not, eqb, ltb}
use Rattle.lists.specs.Below.{some, every, below}
use Rattle.lists.specs.Lists.{last_or}
use Rattle.table.specs.declared.Table.{Table}
use Rattle.table.specs.Events.{event, kind, hart, location, reads, writes, same_location, po, between, paired, store}
use Rattle.table.specs.Annotations.{address_depends, data_depends}
use Rattle.model.specs.Rules.{static_ppo}

-- w is an earlier writer of r's hart to r's location
unfoldable pub own : Table → ℕ → ℕ → Bool
own t r w = writes t w && same_location t w r && po t w r

-- b's "address or data depends on a"
unfoldable pub depends : Table → ℕ → ℕ → Bool
depends t b a = address_depends t b a || data_depends t b a

-- b, later on a's hart, reads a's location again: "Both read one location, no writer to it strictly between" (rule 2)
unfoldable pub rereads : Table → ℕ → ℕ → Bool
rereads t a b =
    po t a b && reads t a && reads t b && same_location t a b
    && not (some t.count (λ m. between t a m b && writes t m && same_location t m a))

module _ (t : Table) (placed : ℕ → Bool) where
  -- every event that passes is placed
  unfoldable pub within : (ℕ → Bool) → Bool
  within f = every t.count (λ a. not (f a) || placed a)

  -- no "steady predecessor missing"
  unfoldable pub ready : ℕ → Bool
  ready e = within (λ a. static_ppo t a e)

  -- the latest of r's own writers that isn't placed, which r returns from; the number of events if all are placed
  unfoldable pub forwarder : ℕ → ℕ
  forwarder r = last_or (λ w. own t r w && not (placed w)) t.count (below t.count)

  -- w may be returned from before it is placed: no "AMO or SC" (rule 3), and all that its "address or data depends on" is placed
  -- (rule 12)
  unfoldable pub may_forward : ℕ → Bool
  may_forward w = eqb (kind t w) store && within (depends t w)

  -- the reader r may be placed
  unfoldable pub may_read : ℕ → Bool
  may_read r = not (ltb (forwarder r) t.count) || may_forward (forwarder r)

  -- Rule 2's window at the reader a is open: a isn't placed, one that reads again is, and all that a's hart wrote before. Then a
  -- would return from a write that is placed now, and the other doesn't.
  unfoldable pub open_read : ℕ → Bool
  open_read a = not (writes t a) && not (placed a) && some t.count (λ b. rereads t a b && placed b) && within (own t a)

  -- Atomicity's window at the LR l is open: l is placed, its SC isn't, and all that l's hart wrote before is. Then a write that is
  -- placed now stands after what l returned from, and before the SC.
  unfoldable pub open_pair : ℕ → Bool
  open_pair l = placed l && some t.count (λ s. paired t l s && not (placed s)) && within (own t l)

  -- "no other hart's write to the location": w is one, and finds a window open
  unfoldable pub intruding : ℕ → ℕ → Bool
  intruding w r = same_location t w r && not (eqb (hart t w) (hart t r)) && (open_read r || open_pair r)

  -- the writer w may be placed
  unfoldable pub may_write : ℕ → Bool
  may_write w = not (some t.count (intruding w))

  -- e may be placed: as a reader, and as a writer
  unfoldable pub may_place : ℕ → Bool
  may_place e = (not (reads t e) || may_read e) && (not (writes t e) || may_write e)

  -- the value that the reader r returns if it is placed now; value: what is at each location
  unfoldable pub value_now : (ℕ → ℕ) → ℕ → ℕ
  value_now value r = cond (ltb (forwarder r) t.count) (event t (forwarder r)).written (value (location t r))

  -- "each reader returns its stated value": e does, if it reads
  unfoldable pub reads_stated : (ℕ → ℕ) → ℕ → Bool
  reads_stated value e = not (reads t e) || eqb (value_now value e) (event t e).read
