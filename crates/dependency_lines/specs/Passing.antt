-- Lines 9 and 10 asked of an event by what its hart has passed.
use Rattle.std.specs.Prelude.{ℕ, ◌+◌, ◌^◌, ◌≡◌, Bool, false, cond, ◌&&◌, ◌||◌, not, eqb}
use Rattle.std.specs.Int.Bits.{bit_or}
use Rattle.lists.specs.Below.{some}
use Rattle.masks.specs.Bit.{bit}
use Rattle.table.specs.declared.Event.{Event}
use Rattle.table.specs.declared.Table.{Table}
use Rattle.table.specs.Events.{capacity, store, lr, sc, writing_kind, memory_kind, fencing_kind}
use Rattle.refusals.specs.TableLines.{line9, line10}
use Rattle.dependency_lines.specs.declared.Passed.{Passed}

-- b lacks a bit of a
abbrev pub lacking : ℕ → ℕ → Bool
lacking a b = some capacity (λ m. bit a m && not (bit b m))

-- e names an event that isn't among the sources, has data without writing, lacks a control bit or is an SC that no LR is paired with
unfoldable pub may_break : Passed → Event → Bool
may_break p e =
    lacking (bit_or (bit_or e.addr e.«data») e.ctrl) p.sources
    || not (writing_kind e.kind) && not (eqb e.«data» 0)
    || memory_kind e.kind && lacking p.controls e.ctrl
    || eqb e.kind sc && not (eqb p.reserved (e.location.0 + 1))

-- what e leaves of the hart's LR
unfoldable pub reserved_after : ℕ → Event → ℕ
reserved_after r e = cond (eqb e.kind lr) (e.location.0 + 1) (cond (eqb e.kind sc) 0 r)

-- a mask may name an event of this kind
abbrev pub nameable : ℕ → Bool
nameable kind = not (eqb kind store) && not (fencing_kind kind)

-- what the hart has passed once event k, which is e, is passed
unfoldable pub after : Passed → ℕ → Event → Passed
after p k e =
    record {
      sources = bit_or p.sources (cond (nameable e.kind) (2 ^ k) 0);
      controls = bit_or p.controls e.ctrl;
      reserved = reserved_after p.reserved e;
    }

-- where nothing is found, lines 9 and 10 hold of no event
abbrev pub Clears : Table → Bool → Type 0
Clears t found = found ≡ false → (some t.count (line9 t) ≡ false) × (some t.count (line10 t) ≡ false)
