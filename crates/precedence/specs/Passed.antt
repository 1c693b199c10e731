-- What the rows of the masks are made of beside the sets of events: masks that run along the events. They are of every hart; a row
-- keeps those of its event's hart.
use Rattle.std.specs.Prelude.{ℕ, ◌<◌, ◌≡◌, Bool, ◌&&◌, ◌||◌, not, eqb, ltb}
use Rattle.lists.specs.Below.{below, some}
use Rattle.lists.specs.Lists.{keep}
use Rattle.masks.specs.MaskOf.{mask_of}
use Rattle.table.specs.declared.Event.{Event}
use Rattle.table.specs.declared.Table.{Table}
use Rattle.table.specs.Events.{event, kind, reads, writes, memory, po, lr, sc, fence, fencetso}
use Rattle.table.specs.Annotations.{flags, address_depends, pr, pw, sr, sw}
use Rattle.event_sets.specs.declared.Sets.{Sets}
use Rattle.event_sets.specs.Sets.{set_of, sets_of}
use Rattle.precedence.specs.declared.Passed.{Passed}

-- a is a memory event earlier on e's hart
unfoldable pub earlier : Table → ℕ → ℕ → Bool
earlier t e a = po t a e && memory t a

-- rule 13, before event k: "some m .. has an address dependency on a"
unfoldable pub addressed : Table → ℕ → ℕ → Bool
addressed t k a = some k (λ m. earlier t m a && memory t m && address_depends t m a)

-- a is in the predecessor set of fence f: "a reads and pr or a writes and pw"
unfoldable pub precedes : Table → ℕ → ℕ → Bool
precedes t f a = eqb (kind t f) fence && (reads t a && pr (flags t f) || writes t a && pw (flags t f))

-- f is a fence that puts a before what reads: ".. with b reads and sr", "or fence.tso, where event a reads"
unfoldable pub before_reads : Table → ℕ → ℕ → Bool
before_reads t f a = precedes t f a && sr (flags t f) || eqb (kind t f) fencetso && reads t a

-- before what writes: ".. or b writes and sw", "or fence.tso, where event a reads or both write"
unfoldable pub before_writes : Table → ℕ → ℕ → Bool
before_writes t f a = precedes t f a && sw (flags t f) || eqb (kind t f) fencetso && (reads t a || writes t a)

-- rule 4, before event k: "A fence between"
unfoldable pub fenced_reads : Table → ℕ → ℕ → Bool
fenced_reads t k a = some k (λ f. earlier t f a && before_reads t f a)

unfoldable pub fenced_writes : Table → ℕ → ℕ → Bool
fenced_writes t k a = some k (λ f. earlier t f a && before_writes t f a)

-- e is an LR or SC
unfoldable pub reserving : Table → ℕ → Bool
reserving t e = eqb (kind t e) lr || eqb (kind t e) sc

-- rule 8, before event k: a is an LR, and no LR or SC of its hart stands behind it
unfoldable pub reserved : Table → ℕ → ℕ → Bool
reserved t k a = ltb a k && eqb (kind t a) lr && not (some k (λ m. po t a m && reserving t m))

-- the masks before event k
unfoldable pub passed_at : Table → ℕ → Passed
passed_at t k =
    record {
      memory = mask_of (keep (memory t) (below k));
      addressed = set_of t (addressed t k);
      before_reads = set_of t (fenced_reads t k);
      before_writes = set_of t (fenced_writes t k);
      reserved = set_of t (reserved t k);
    }

-- P holds of each table whose sets are s, and each of its events that is e
abbrev pub OfEvent : Sets → Event → (Table → ℕ → Type 0) → Type 0
OfEvent s e P = (t : Table) (k : ℕ) → s ≡ sets_of t → e ≡ event t k → P t k

-- P holds of each table whose sets are s, whose masks before event k are p, and whose event k is e
abbrev pub AtEvent : Sets → Passed → ℕ → Event → (Table → Type 0) → Type 0
AtEvent s p k e P = (t : Table) → k < t.count → s ≡ sets_of t → p ≡ passed_at t k → e ≡ event t k → P t
