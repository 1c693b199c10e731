-- What a table that no line refuses has, beside the limits: blanks past its events, and masks of events of the test.
use Prim.Native.Nat.{ℕ, ◌/◌, ◌^◌, ◌≤◌, ◌<◌}
use mathlib.Core.Path.{◌≡◌, refl, sym, ap, ◌∙◌}
use mathlib.Core.Bool.{Bool, true, false, ◌&&◌, ◌||◌}
use native.Mathlib.Omega.{arith}
use lib.Dec.{eqb, ltb, leb}
use borrow.Author.Tests.{ltb-true, ltb-false, leb-true, le-ltb, le-leb, eqb-true, not-false}
use Rattle.lists.specs.Below.{some}
use Rattle.lists.proofs.BoolLaws.{and_l, and_r, and_right, or_off}
use Rattle.lists.proofs.SomeLaws.{some-none, none-at}
use Rattle.masks.specs.Bit.{bit}
use Rattle.masks.proofs.SubsetLaws.{past-limit}
use Rattle.edition.specs.Limits.{one, max_locations, most_events}
use Rattle.table.specs.declared.Event.{Event}
use Rattle.table.specs.declared.Table.{Table}
use Rattle.table.specs.Events.{capacity, no_event, event, po}
use Rattle.table.proofs.SameFields.{event-same}
use Rattle.refusals.specs.Lines.{accepted, first_line}
use Rattle.refusals.specs.TableLines.{blank, line6, initial_not_zero, final_not_zero, past_not_blank, line7, line9, names, names_wrongly, data_of_non_writer, lacks_control, table_lines}
use Rattle.refusals.proofs.TablePassed.{TablePassed, table-passed}
use Rattle.writer.specs.Fits.{EventFits, TableFits}

-- the last of some tests for zero
last-zero : (b : Bool) (n : ℕ) → (b && eqb n 0) ≡ true → (b ≡ true) × (n ≡ 0)
last-zero b n h = (and_l b (eqb n 0) h, eqb-true n 0 (and_r b (eqb n 0) h))

-- all fields zero: the blank
blank-is : (e : Event) → blank e ≡ true → e ≡ no_event
unfolding blank
blank-is e h =
    let operand = last-zero _ e.operand h in
    let operation = last-zero _ e.operation operand.0 in
    let written = last-zero _ e.written operation.0 in
    let read = last-zero _ e.read written.0 in
    let ctrl = last-zero _ e.ctrl read.0 in
    let «data» = last-zero _ e.«data» ctrl.0 in
    let addr = last-zero _ e.addr «data».0 in
    let flags = last-zero _ e.flags addr.0 in
    let location = last-zero _ e.location.0 flags.0 in
    let hart = last-zero _ e.hart location.0 in
    event-same e no_event (eqb-true e.kind 0 hart.0) hart.1 location.1 flags.1 addr.1 «data».1 ctrl.1 read.1 written.1 operation.1 operand.1

-- past the events stand blanks
past-blank : (t : Table) (k : ℕ) → line6 t ≡ false → t.count ≤ k → k < capacity → event t k ≡ no_event
unfolding line6 past_not_blank
past-blank t k h l m =
    let initial = some max_locations (initial_not_zero t.locations t.initial) in
    let finals = some max_locations (final_not_zero t.stated t.finals) in
    let off = (or_off (initial || finals) (some capacity (past_not_blank t)) h).1 in
    let e = none-at capacity (past_not_blank t) k off m in
    blank-is (event t k) (not-false _ (rw (le-leb t.count k l) at e))

-- a mask of 32 bits, none of them past the first 16
mask-small : (m : ℕ) → m < 2 ^ 32 → ((x : ℕ) → most_events one ≤ x → x < capacity → bit m x ≡ false) → m < 2 ^ 16
mask-small m h off =
    let none : some capacity (λ x. bit m x && leb (most_events one) x) ≡ false = some-none capacity (λ x. bit m x && leb (most_events one) x) each in
    let e : m / 2 ^ 16 ≡ 0 = eqb-true (m / 2 ^ 16) 0 (not-false (eqb (m / 2 ^ 16) 0) (sym (past-limit capacity (most_events one) m h) ∙ none)) in
    omega (arith, e)
  where
    each : (x : ℕ) → x < capacity → (bit m x && leb (most_events one) x) ≡ false
    each x l = go (leb (most_events one) x) refl
      where
        go : (b : Bool) → leb (most_events one) x ≡ b → (bit m x && b) ≡ false
        go true e = rw (off x (leb-true (most_events one) x e) l) refl
        go false e = and_right (bit m x) false refl

-- record k of the test names no event past the first 16
names-early : (t : Table) (k x : ℕ) → line9 t k ≡ false → k < most_events one → most_events one ≤ x → x < capacity → names t k x ≡ false
unfolding line9 names_wrongly po
names-early t k x h l m n =
    let a = (or_off (some capacity (names_wrongly t k) || data_of_non_writer t k) (some t.count (lacks_control t k)) h).0 in
    let b = (or_off (some capacity (names_wrongly t k)) (data_of_non_writer t k) a).0 in
    let e = none-at capacity (names_wrongly t k) x b n in
    and_first (names t k x) (rw (le-ltb x k (omega arith)) at e)
  where
    and_first : (b : Bool) → (b && true) ≡ false → b ≡ false
    and_first true e = e
    and_first false e = refl

-- the masks of a record have two bytes
pub record MasksSmall (e : Event) : Type 0 where
  pub addr : e.addr < 2 ^ 16
  pub «data» : e.«data» < 2 ^ 16
  pub ctrl : e.ctrl < 2 ^ 16

names-none : (t : Table) (k x : ℕ) → names t k x ≡ false
    → (bit (event t k).addr x ≡ false) × (bit (event t k).«data» x ≡ false) × (bit (event t k).ctrl x ≡ false)
unfolding names
names-none t k x h =
    let e = event t k in
    let a = or_off (bit e.addr x || bit e.«data» x) (bit e.ctrl x) h in
    let b = or_off (bit e.addr x) (bit e.«data» x) a.0 in
    (b.0, b.1, a.1)

masks-named : (t : Table) (k : ℕ) → EventFits (event t k) → ((x : ℕ) → most_events one ≤ x → x < capacity → names t k x ≡ false) → MasksSmall (event t k)
masks-named t k f off =
    record {
      addr = mask-small (event t k).addr f.addr (λ x l m. (names-none t k x (off x l m)).0);
      «data» = mask-small (event t k).«data» f.«data» (λ x l m. (names-none t k x (off x l m)).1);
      ctrl = mask-small (event t k).ctrl f.ctrl (λ x l m. (names-none t k x (off x l m)).2);
    }

-- what reading a block of the table gives back relies on
pub record Good (t : Table) : Type 0 where
  pub masks : (k : ℕ) → k < most_events one → MasksSmall (event t k)
  pub past : (k : ℕ) → most_events one ≤ k → k < capacity → event t k ≡ no_event

pub good : (t : Table) (extra : Bool) → TableFits t → first_line t.count (table_lines (most_events one) extra t) ≡ accepted → Good t
good t extra f h =
    record { masks = λ k l. small k l (ltb k t.count) refl; past = λ k l m. past-blank t k passed.unused (omega (arith, passed.counts.events)) m }
  where
    passed : TablePassed (line7 t) (most_events one) extra t
    passed = table-passed (most_events one) extra t h

    small : (k : ℕ) → k < most_events one → (b : Bool) → ltb k t.count ≡ b → MasksSmall (event t k)
    small k l true e =
        masks-named t k (f.each k (omega arith))
        (λ x m n. names-early t k x (none-at t.count (line9 t) k passed.dependencies (ltb-true k t.count e)) l m n)
    small k l false e =
        let z = past-blank t k passed.unused (ltb-false k t.count e) (omega arith) in
        record {
          addr = omega (arith, ap (λ (d : Event). d.addr) z);
          «data» = omega (arith, ap (λ (d : Event). d.«data») z);
          ctrl = omega (arith, ap (λ (d : Event). d.ctrl) z);
        }
