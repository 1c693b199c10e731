-- "Stronger tests never allow more": "two good tables that differ only in that the second sets further fence bits, dependency
-- bits or annotations, or turns RCpc into RCsc".
use Rattle.std.specs.Prelude.{ℕ, Bool, true, false, ◌&&◌, ◌||◌, not, List, [], ◌∷◌, eqb}
use Rattle.std.specs.Int.Bits.{bit_or}
use Rattle.table.specs.declared.Event.{Event}
use Rattle.table.specs.declared.Table.{Table}
use Rattle.table.specs.Events.{memory_kind, fencing_kind}
use Rattle.table.specs.Annotations.{acquire_sc, release_sc, acquiring, releasing}

-- each bit that is set in m is set in n
abbrev pub within : (m n : ℕ) → Bool
within m n = eqb (bit_or m n) n

abbrev pub implies : Bool → Bool → Bool
implies a b = not a || b

-- "annotations, or turns RCpc into RCsc": an acquire stays one, and an RCsc one stays RCsc; so do releases. RCsc in the place of
-- RCpc clears a bit, so the flags aren't compared bit by bit.
unfoldable pub stronger_annotations : (first second : ℕ) → Bool
stronger_annotations f g =
    implies (acquiring f) (acquiring g) && implies (acquire_sc f) (acquire_sc g)
    && implies (releasing f) (releasing g) && implies (release_sc f) (release_sc g)

-- the flags of a memory event are its annotations, those of a fence "fence bits"
unfoldable pub stronger_flags : (first second : Event) → Bool
stronger_flags d e =
    implies (memory_kind d.kind) (stronger_annotations d.flags e.flags)
    && implies (fencing_kind d.kind) (within d.flags e.flags)

-- "dependency bits"
unfoldable pub stronger_masks : (first second : Event) → Bool
stronger_masks d e = within d.addr e.addr && within d.«data» e.«data» && within d.ctrl e.ctrl

-- "differ only in that": the rest of an event is the same, so a fence never becomes a fence.tso
unfoldable pub same_access : (first second : Event) → Bool
same_access d e = eqb d.kind e.kind && eqb d.hart e.hart && eqb d.location.0 e.location.0

unfoldable pub same_values : (first second : Event) → Bool
same_values d e =
    eqb d.read e.read && eqb d.written e.written && eqb d.operation e.operation && eqb d.operand e.operand

unfoldable pub stronger_event : (first second : Event) → Bool
stronger_event d e = same_access d e && same_values d e && stronger_flags d e && stronger_masks d e

-- as many entries in both, and each of the first passes with that of the second
abbrev pub pairwise : {A : Type 0} → (A → A → Bool) → (first second : List A) → Bool
pairwise p [] [] = true
pairwise p [] (y ∷ m) = false
pairwise p (x ∷ l) [] = false
pairwise p (x ∷ l) (y ∷ m) = p x y && pairwise p l m

-- and the rest of a table is the same, its model too
unfoldable pub same_header : (first second : Table) → Bool
same_header t u =
    eqb t.harts u.harts && eqb t.locations u.locations && eqb t.count u.count
    && eqb t.stated u.stated && eqb t.model u.model

unfoldable pub same_test : (first second : Table) → Bool
same_test t u = same_header t u && pairwise eqb t.initial u.initial && pairwise eqb t.finals u.finals

-- the second table is at least as strong as the first, event by event
unfoldable pub stronger : (first second : Table) → Bool
stronger t u = same_test t u && pairwise stronger_event t.events u.events
