-- What the test of an order reads in place of the table: for each event masks of others. A row that says nothing of an event, as
-- that of the own writers of one that doesn't read, is empty, so that no kind need be asked.
use Rattle.std.specs.Prelude.{ℕ, Bool, cond, not, ◌&&◌, ◌||◌, get_or, eqb, ltb}
use Rattle.lists.specs.Below.{below, some}
use Rattle.lists.specs.Lists.{keep}
use Rattle.masks.specs.Bit.{bit}
use Rattle.masks.specs.MaskOf.{mask_of}
use Rattle.table.specs.declared.Table.{Table}
use Rattle.table.specs.Events.{event, kind, hart, location, reads, writes, same_location, paired, store}
use Rattle.model.specs.Returns.{initial_value}
use Rattle.placing.specs.Guards.{own, depends, rereads, within, forwarder}

-- the mask of the events that pass
unfoldable pub mask_by : Table → (ℕ → Bool) → ℕ
mask_by t f = mask_of (keep f (below t.count))

-- own: w is an own writer of the reader r
unfoldable pub own_writer : Table → ℕ → ℕ → Bool
own_writer t r w = reads t r && own t r w

-- needs: a has to be placed before a reader returns from w: what w's "address or data depends on" (rule 12), and w itself if it is
-- an "AMO or SC" (rule 3)
unfoldable pub needed : Table → ℕ → ℕ → Bool
needed t w a = depends t w a || not (eqb (kind t w) store) && eqb a w

-- window: b, placed before v, opens v's window. Of a reader that doesn't write those that read again (rule 2), of an SC the LR
-- paired with it (atomicity).
unfoldable pub opens : Table → ℕ → ℕ → Bool
opens t v b = not (writes t v) && rereads t v b || paired t b v

-- ground: w has to be placed before v's window is open. The own writers, of an SC those of its LR.
unfoldable pub grounds : Table → ℕ → ℕ → Bool
grounds t v w = not (writes t v) && own_writer t v w || some t.count (λ l. paired t l v && own_writer t l w)

-- v's window is open, unless v is placed
unfoldable pub is_open : Table → (ℕ → Bool) → ℕ → Bool
is_open t placed v = some t.count (λ b. opens t v b && placed b) && within t placed (grounds t v)

-- guards: v, of another hart and with a window, is at the location that w writes
unfoldable pub guards : Table → ℕ → ℕ → Bool
guards t w v = writes t w && same_location t w v && not (eqb (hart t w) (hart t v)) && some t.count (opens t v)

-- here: r reads the location that w writes
unfoldable pub here : Table → ℕ → ℕ → Bool
here t w r = writes t w && reads t r && same_location t w r

-- right: and w writes the value that r states
unfoldable pub right : Table → ℕ → ℕ → Bool
right t w r = here t w r && eqb (event t w).written (event t r).read

-- good: r doesn't read, or states the value at its location; value: what is at each location
unfoldable pub good : Table → (ℕ → ℕ) → ℕ → Bool
good t value r = not (reads t r) || eqb (value (location t r)) (event t r).read

-- if e reads, it returns its stated value: what its forwarder wrote, else what is at its location, by the good
unfoldable pub reads_good : Table → (placed now : ℕ → Bool) → ℕ → Bool
reads_good t placed now e =
    not (reads t e)
    || cond (ltb (forwarder t placed e) t.count) (eqb (event t (forwarder t placed e)).written (event t e).read) (now e)

-- peers: another writer to the location that w writes
unfoldable pub peers : Table → ℕ → ℕ → Bool
peers t w v = writes t w && writes t v && same_location t v w && not (eqb v w)

-- wrong: w writes, and the final value of its location is stated and isn't what it writes
unfoldable pub wrong : Table → ℕ → Bool
wrong t w = writes t w && bit t.stated (location t w) && not (eqb (event t w).written (get_or t.finals (location t w) 0))

-- nothing writes to location x, and its stated final value isn't the initial one
unfoldable pub unmet : Table → ℕ → Bool
unmet t x =
    bit t.stated x && not (some t.count (λ w. writes t w && eqb (location t w) x))
    && not (eqb (initial_value t x) (get_or t.finals x 0))
