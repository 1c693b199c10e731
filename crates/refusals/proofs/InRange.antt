-- What a table that line 5 doesn't refuse has, and an event that line 7 doesn't, of a block or a text.
use Prim.Native.Nat.{ℕ, ◌≤◌, ◌<◌}
use mathlib.Core.Path.{◌≡◌, refl}
use mathlib.Core.Bool.{Bool, true, false, ◌||◌, or-true}
use borrow.Author.Tests.{ltb-false, leb-false, le-ltb}
use lib.Dec.{eqb, ltb, leb}
use Rattle.lists.proofs.BoolLaws.{or_off}
use Rattle.edition.specs.Limits.{max_harts, max_locations}
use Rattle.table.specs.declared.Event.{Event}
use Rattle.table.specs.declared.Table.{Table}
use Rattle.table.specs.Events.{event, hart, location, fencetso}
use Rattle.refusals.specs.TableLines.{outside, states_missing, unknown_model, header_wrong, line5}
use Rattle.refusals.specs.TableLines.{field_out_of_range, value_not_zero, fence_not_zero, operation_out_of_range, operand_not_zero}
use Rattle.refusals.specs.TableLines.{not_applied, shape_wrong, fields_wrong, line7, value_stated, text_line7}

-- the three counts are in range, where the edition allows so many events
pub record InRange (most : ℕ) (t : Table) : Type 0 where
  pub harts : t.harts ≤ max_harts
  pub locations : t.locations ≤ max_locations
  pub events : t.count ≤ most

-- line 5, clause by clause
record Clauses (most : ℕ) (t : Table) : Type 0 where
  harts : outside t.harts max_harts ≡ false
  locations : outside t.locations max_locations ≡ false
  events : outside t.count most ≡ false
  finals : states_missing t.stated t.locations ≡ false
  model : unknown_model t.model ≡ false

clauses : (most : ℕ) (t : Table) → line5 most t ≡ false → Clauses most t
unfolding line5 header_wrong
clauses most t h =
    let counts = outside t.harts max_harts || outside t.locations max_locations || outside t.count most in
    let model = or_off (counts || states_missing t.stated t.locations) (unknown_model t.model) h in
    let finals = or_off counts (states_missing t.stated t.locations) model.0 in
    let events = or_off (outside t.harts max_harts || outside t.locations max_locations) (outside t.count most) finals.0 in
    let locations = or_off (outside t.harts max_harts) (outside t.locations max_locations) events.0 in
    record { harts = locations.0; locations = locations.1; events = events.1; finals = finals.1; model = model.1 }

pub in-range : (most : ℕ) (t : Table) → line5 most t ≡ false → InRange most t
in-range most t h =
    let passed = clauses most t h in
    record {
      harts = up_to t.harts max_harts passed.harts;
      locations = up_to t.locations max_locations passed.locations;
      events = up_to t.count most passed.events;
    }
  where
    up_to : (n m : ℕ) → outside n m ≡ false → n ≤ m
    up_to n m h = ltb-false m n (or_off (eqb n 0) (ltb m n) h).1

-- nor does line 5 where as many events are allowed as it has
pub fewer-in-range : (most fewer : ℕ) (t : Table) → line5 most t ≡ false → t.count ≤ fewer → line5 fewer t ≡ false
unfolding line5 header_wrong
fewer-in-range most fewer t h l =
    let passed = clauses most t h in
    let some-event = (or_off (eqb t.count 0) (ltb most t.count) passed.events).0 in
    rw (passed.harts, passed.locations, some-event, le-ltb fewer t.count l, passed.finals, passed.model) refl

-- with more events it does
pub too_many : (most : ℕ) (t : Table) → ltb most t.count ≡ true → line5 most t ≡ true
unfolding line5 header_wrong
too_many most t h = simp (or-true, h) refl

-- what line 7 asks of a record is at least that its fields are in range
abbrev pub AsksRange : Table → (ℕ → Bool) → Type 0
AsksRange t asked = (k : ℕ) → asked k ≡ false → field_out_of_range t.harts t.locations (event t k) ≡ false

shape-range : (harts locations : ℕ) (e : Event) → shape_wrong harts locations e ≡ false → field_out_of_range harts locations e ≡ false
unfolding shape_wrong
shape-range harts locations e h =
    let range = field_out_of_range harts locations e in
    let operand = or_off (range || value_not_zero e || fence_not_zero e || operation_out_of_range e) (operand_not_zero e) h in
    let operation = or_off (range || value_not_zero e || fence_not_zero e) (operation_out_of_range e) operand.0 in
    let fences = or_off (range || value_not_zero e) (fence_not_zero e) operation.0 in
    (or_off range (value_not_zero e) fences.0).0

pub block-asks-range : (t : Table) → AsksRange t (line7 t)
unfolding line7 fields_wrong
block-asks-range t k h = shape-range t.harts t.locations (event t k) (or_off _ (not_applied (event t k)) h).0

pub text-asks-range : (t : Table) → AsksRange t (text_line7 t)
unfolding text_line7
text-asks-range t k h = shape-range t.harts t.locations (event t k) (or_off _ (value_stated (event t k)) h).0

-- the hart and the location of event k are in the test
pub places-in-range : (t : Table) (k : ℕ) → field_out_of_range t.harts t.locations (event t k) ≡ false
    → (hart t k < t.harts) × (location t k < t.locations)
unfolding field_out_of_range hart location
places-in-range t k h =
    let e = event t k in
    let at-hart = outside e.kind fencetso || leb t.harts e.hart in
    let flags = or_off (at-hart || leb t.locations e.location.0) (leb 16 e.flags) h in
    let location = or_off at-hart (leb t.locations e.location.0) flags.0 in
    let hart = or_off (outside e.kind fencetso) (leb t.harts e.hart) location.0 in
    (leb-false t.harts e.hart hart.1, leb-false t.locations e.location.0 location.1)
