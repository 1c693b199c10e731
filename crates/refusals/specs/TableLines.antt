-- "When the bench declines a table": lines 5 to 11 and 21, each a test of the table. `most` is the number of events that the edition
-- allows, `extra` what line 6 says of bytes that are no field of the table.
use Rattle.std.specs.Prelude.{ℕ, ◌^◌, Bool, ◌&&◌, ◌||◌, not, List, [], ◌∷◌, ◌++◌, get_or, eqb, ltb, leb}
use Rattle.lists.specs.Below.{some}
use Rattle.masks.specs.Bit.{bit}
use Rattle.edition.specs.Limits.{max_harts, max_locations}
use Rattle.operation.specs.Operation.{no_operation, amominu, applied}
use Rattle.table.specs.declared.Event.{Event}
use Rattle.table.specs.declared.Table.{Table}
use Rattle.table.specs.Events.{capacity, event, kind, location, writes, memory, same_location, po, paired, reading_kind, writing_kind, memory_kind, fencing_kind, load, store, amo, lr, sc, fencetso}
use Rattle.table.specs.Annotations.{rvtso, acquire_pc, acquire_sc, release_pc, release_sc, acquiring, releasing}
use Rattle.refusals.specs.Lines.{Line, whole, record_of}

-- n is not one of 1 .. most
abbrev pub outside : ℕ → ℕ → Bool
outside n most = eqb n 0 || ltb most n

-- x has a stated final value and isn't in the test
unfoldable pub missing : (stated locations : ℕ) → ℕ → Bool
missing stated locations x = bit stated x && leb locations x

-- "the final mask names a location not in the test"
unfoldable pub states_missing : (stated locations : ℕ) → Bool
states_missing stated locations = some max_locations (missing stated locations)

-- "Header byte 9 becomes the model, 0 or 1; others are refusal 5"
abbrev pub unknown_model : ℕ → Bool
unknown_model model = ltb rvtso model

-- 5: "harts, locations or events out of range, or the final mask names a location not in the test"
unfoldable pub header_wrong : (most harts locations events stated model : ℕ) → Bool
header_wrong most harts locations events stated model =
    outside harts max_harts || outside locations max_locations || outside events most || states_missing stated locations || unknown_model model

unfoldable pub line5 : (most : ℕ) → Table → Bool
line5 most t = header_wrong most t.harts t.locations t.count t.stated t.model

-- "initial values of locations not in the test"
unfoldable pub initial_not_zero : (locations : ℕ) (initial : List ℕ) → ℕ → Bool
initial_not_zero locations initial x = leb locations x && not (eqb (get_or initial x 0) 0)

-- "final values not stated"
unfoldable pub final_not_zero : (stated : ℕ) (finals : List ℕ) → ℕ → Bool
final_not_zero stated finals x = not (bit stated x) && not (eqb (get_or finals x 0) 0)

-- every field of the record is zero
unfoldable pub blank : Event → Bool
blank e =
    eqb e.kind 0 && eqb e.hart 0 && eqb e.location.0 0 && eqb e.flags 0 && eqb e.addr 0 && eqb e.«data» 0
    && eqb e.ctrl 0 && eqb e.read 0 && eqb e.written 0 && eqb e.operation 0 && eqb e.operand 0

-- "records past the events"
unfoldable pub past_not_blank : Table → ℕ → Bool
past_not_blank t k = leb t.count k && not (blank (event t k))

-- 6, of the table: a value or record that the test doesn't use isn't zero
unfoldable pub line6 : Table → Bool
line6 t =
    some max_locations (initial_not_zero t.locations t.initial) || some max_locations (final_not_zero t.stated t.finals)
    || some capacity (past_not_blank t)

-- 7: "kind, hart, location or flags out of range", in a test with so many harts and locations
unfoldable pub field_out_of_range : ℕ → ℕ → Event → Bool
field_out_of_range harts locations e = outside e.kind fencetso || leb harts e.hart || leb locations e.location.0 || leb 16 e.flags

-- "a non-reader with a value read or a non-writer with a value written that isn't zero"
unfoldable pub value_not_zero : Event → Bool
value_not_zero e =
    not (reading_kind e.kind) && not (eqb e.read 0) || not (writing_kind e.kind) && not (eqb e.written 0)

-- "a fence with location or mask not zero; flags on fence.tso"
unfoldable pub fence_not_zero : Event → Bool
fence_not_zero e =
    fencing_kind e.kind
    && (not (eqb e.location.0 0) || not (eqb e.addr 0) || not (eqb e.«data» 0) || not (eqb e.ctrl 0))
    || eqb e.kind fencetso && not (eqb e.flags 0)

-- "Only an AMO may have an operation", 0 to 6
unfoldable pub operation_out_of_range : Event → Bool
operation_out_of_range e = ltb amominu e.operation || not (eqb e.kind amo) && not (eqb e.operation no_operation)

-- "0 none (the written value is as stated, operand 0)"
unfoldable pub operand_not_zero : Event → Bool
operand_not_zero e = eqb e.operation no_operation && not (eqb e.operand 0)

-- "With one, the written value must be the operation applied to the value read."
unfoldable pub not_applied : Event → Bool
not_applied e = not (eqb e.operation no_operation) && not (eqb e.written (applied e.operation e.read e.operand))

-- what blocks and texts ask of a record
unfoldable pub shape_wrong : ℕ → ℕ → Event → Bool
shape_wrong harts locations e =
    field_out_of_range harts locations e || value_not_zero e || fence_not_zero e || operation_out_of_range e || operand_not_zero e

-- one of these holds of a record
unfoldable pub fields_wrong : ℕ → ℕ → Event → Bool
fields_wrong harts locations e = shape_wrong harts locations e || not_applied e

unfoldable pub line7 : Table → ℕ → Bool
line7 t k = fields_wrong t.harts t.locations (event t k)

-- "The value read must be 0 in every line, and so must the written value of an AMO with an operation": it isn't
unfoldable pub value_stated : Event → Bool
value_stated e = not (eqb e.read 0) || not (eqb e.operation no_operation) && not (eqb e.written 0)

-- 7, of a text: "T-05's check of that value isn't made in texts"
unfoldable pub text_line7 : Table → ℕ → Bool
text_line7 t k = shape_wrong t.harts t.locations (event t k) || value_stated (event t k)

-- 8: "both acquires or both releases at once"
unfoldable pub both_at_once : Event → Bool
both_at_once e = acquire_pc e.flags && acquire_sc e.flags || release_pc e.flags && release_sc e.flags

-- "a load or LR with release and no acquire": an AMO may have either alone
unfoldable pub load_releases : Event → Bool
load_releases e = (eqb e.kind load || eqb e.kind lr) && releasing e.flags && not (acquiring e.flags)

-- "a plain store or SC with acquire and no release"
unfoldable pub writer_acquires : Event → Bool
writer_acquires e = (eqb e.kind store || eqb e.kind sc) && acquiring e.flags && not (releasing e.flags)

-- one of these holds of a memory event
unfoldable pub annotations_wrong : Event → Bool
annotations_wrong e = memory_kind e.kind && (both_at_once e || load_releases e || writer_acquires e)

unfoldable pub line8 : Table → ℕ → Bool
line8 t k = annotations_wrong (event t k)

-- one of the three masks of k names m
unfoldable pub names : Table → ℕ → ℕ → Bool
names t k m = bit (event t k).addr m || bit (event t k).«data» m || bit (event t k).ctrl m

-- 9: "a mask names an event that isn't earlier on the same hart, or is a plain store or a fence"
unfoldable pub names_wrongly : Table → ℕ → ℕ → Bool
names_wrongly t k m = names t k m && (not (po t m k) || eqb (kind t m) store || fencing_kind (kind t m))

-- "a data mask on a non-writer"
unfoldable pub data_of_non_writer : Table → ℕ → Bool
data_of_non_writer t k = not (writes t k) && not (eqb (event t k).«data» 0)

-- "a control mask with a bit that some later memory event of that hart lacks": j is such an event
unfoldable pub lacks_control : Table → ℕ → ℕ → Bool
lacks_control t k j = po t k j && memory t j && some capacity (λ m. bit (event t k).ctrl m && not (bit (event t j).ctrl m))

unfoldable pub line9 : Table → ℕ → Bool
line9 t k = some capacity (names_wrongly t k) || data_of_non_writer t k || some t.count (lacks_control t k)

-- l is an LR paired with k, to the same location
unfoldable pub paired_here : Table → ℕ → ℕ → Bool
paired_here t k l = paired t l k && same_location t l k

-- 10: "an SC whose nearest earlier LR or SC on its hart isn't an LR to the same location"
unfoldable pub line10 : Table → ℕ → Bool
line10 t k = eqb (kind t k) sc && not (some t.count (paired_here t k))

-- 11: "no memory event"
unfoldable pub line11 : Table → Bool
line11 t = not (some t.count (memory t))

-- a memory event touches location x
unfoldable pub touched : Table → ℕ → Bool
touched t x = some t.count (λ e. memory t e && eqb (location t e) x)

-- 21: "a location no memory event touches and whose final value isn't stated", where `named` has those that are stated
unfoldable pub line21 : (named : ℕ → Bool) → Table → Bool
line21 named t = some t.locations (λ x. not (touched t x) && not (named x))

-- lines 7 to 11, by what line 7 asks of a record
unfoldable pub record_lines_by : (ℕ → Bool) → Table → List Line
record_lines_by asked t =
    record_of 7 asked ∷ record_of 8 (line8 t) ∷ record_of 9 (line9 t) ∷ record_of 10 (line10 t) ∷ whole 11 (line11 t) ∷ []

unfoldable pub record_lines : Table → List Line
record_lines t = record_lines_by (line7 t) t

-- lines 5 to 11, in their order, by what line 7 asks of a record
unfoldable pub table_lines_by : (asked : ℕ → Bool) (most : ℕ) (extra : Bool) → Table → List Line
table_lines_by asked most extra t = whole 5 (line5 most t) ∷ whole 6 (extra || line6 t) ∷ record_lines_by asked t

-- of a block: 21 is "checked after 11"
unfoldable pub table_lines : (most : ℕ) (extra : Bool) → Table → List Line
table_lines most extra t = table_lines_by (line7 t) most extra t ++ (whole 21 (line21 (bit t.stated) t) ∷ [])
