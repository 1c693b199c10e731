-- Lines 5 to 11 of a text's table are those of it as a block's.
use Prim.Native.Nat.{ℕ, ◌+◌, ◌<◌}
use mathlib.Core.Path.{◌≡◌, refl, sym, ap, ap₂, subst, ◌∙◌}
use mathlib.Core.Bool.{Bool, true, false, cond, not, ◌&&◌, ◌||◌}
use mathlib.Core.List.{List, [], ◌∷◌}
use native.Mathlib.Omega.{arith}
use lib.ListN.{length, get_or, set, length-set}
use lib.Seq.{get_or-set_same, get_or-set_other}
use lib.Dec.{eqb, ltb, leb}
use borrow.Author.Tests.{eqb-true, eqb-false, ltb-true, ltb-false, lt-ltb, le-ltb, lt-leb}
use Rattle.lists.specs.Below.{lowest, some}
use Rattle.lists.proofs.BoolLaws.{or_off, and_right}
use Rattle.lists.proofs.SomeLaws.{lowest-same, some_same, none-at}
use Rattle.table.specs.declared.Event.{Event}
use Rattle.table.specs.declared.Table.{Table}
use Rattle.table.specs.Events.{capacity, amo, lr, sc, no_event, event, kind, hart, location, reads, writes, memory, same_location}
use Rattle.table.specs.Events.{po, between, reserves, paired}
use Rattle.edition.specs.Limits.{max_locations}
use Rattle.refusals.specs.Lines.{Refused, by_line, by_record, Line, whole, record_of, refused_if, first_line}
use Rattle.refusals.specs.TableLines.{line5, initial_not_zero, final_not_zero, blank, past_not_blank, line6}
use Rattle.refusals.specs.TableLines.{field_out_of_range, value_not_zero, fence_not_zero, operation_out_of_range, operand_not_zero}
use Rattle.refusals.specs.TableLines.{not_applied, shape_wrong, fields_wrong, line7}
use Rattle.refusals.specs.TableLines.{value_stated, text_line7, both_at_once, load_releases, writer_acquires, annotations_wrong, line8}
use Rattle.refusals.specs.TableLines.{names, names_wrongly, data_of_non_writer, lacks_control, line9, paired_here, line10, line11}
use Rattle.refusals.specs.TableLines.{record_lines_by, table_lines_by}
use Rattle.table_lines.specs.AsBlock.{bare, as_block, AsBlock}

-- of two lists of lines: the first that holds is the same if the first lines are, and so it is of the later lines
whole_same : (n k : ℕ) (a b : Bool) (ls ms : List Line) → a ≡ b → first_line n ls ≡ first_line n ms
    → first_line n (whole k a ∷ ls) ≡ first_line n (whole k b ∷ ms)
unfolding first_line
whole_same n k a b ls ms e h = ap₂ (λ (x : Bool) (r : Refused). refused_if x (by_line k) r) e h

-- the later lines are asked only where the line holds of no record
record_same : (n k : ℕ) (f g : ℕ → Bool) (ls ms : List Line) → ((i : ℕ) → i < n → f i ≡ g i)
    → (some n g ≡ false → first_line n ls ≡ first_line n ms)
    → first_line n (record_of k f ∷ ls) ≡ first_line n (record_of k g ∷ ms)
unfolding first_line
record_same n k f g ls ms e h =
    ap₂ (λ (x : Bool) (i : ℕ). refused_if x (by_record k i) (first_line n ls)) (some_same n f g e) (lowest-same n f g e)
    ∙ go (some n g) refl
  where
    r : Refused
    r = by_record k (lowest n g)

    go : (b : Bool) → some n g ≡ b → refused_if b r (first_line n ls) ≡ refused_if b r (first_line n ms)
    go true q = refl
    go false q = h q

-- without its operation a record of the right shape passes line 7
six-off : (a b d e f g : Bool) → a ≡ false → b ≡ false → d ≡ false → e ≡ false → f ≡ false → g ≡ false
    → (a || b || d || e || f || g) ≡ false
six-off a b d e f g p q r s t u = rw (p, q, r, s, t, u) refl

bare-passes : (harts locations : ℕ) (e : Event) → shape_wrong harts locations e ≡ false
    → fields_wrong harts locations (bare false e) ≡ false
unfolding fields_wrong shape_wrong field_out_of_range value_not_zero fence_not_zero operation_out_of_range operand_not_zero not_applied
bare-passes harts locations e h =
    let range = field_out_of_range harts locations e in
    let operand = or_off (range || value_not_zero e || fence_not_zero e || operation_out_of_range e) (operand_not_zero e) h in
    let operation = or_off (range || value_not_zero e || fence_not_zero e) (operation_out_of_range e) operand.0 in
    let fences = or_off (range || value_not_zero e) (fence_not_zero e) operation.0 in
    let values = or_off range (value_not_zero e) fences.0 in
    six-off range (value_not_zero e) (fence_not_zero e) (operation_out_of_range (bare false e)) false false values.0 values.1 fences.1
    (and_right (not (eqb e.kind amo)) false refl) refl refl

-- of kind 0 it doesn't
no_kind : (harts locations : ℕ) (e : Event) → fields_wrong harts locations (bare true e) ≡ true
unfolding fields_wrong shape_wrong field_out_of_range
no_kind harts locations e = refl

-- so line 7 of the record as a block's is that of the text's
seven-same : (harts locations : ℕ) (e : Event)
    → fields_wrong harts locations (as_block harts locations e) ≡ (shape_wrong harts locations e || value_stated e)
unfolding as_block
seven-same harts locations e = go (shape_wrong harts locations e || value_stated e) refl
  where
    go : (b : Bool) → (shape_wrong harts locations e || value_stated e) ≡ b → fields_wrong harts locations (bare b e) ≡ b
    go true h = no_kind harts locations e
    go false h = bare-passes harts locations e (or_off _ (value_stated e) h).0

-- what lines 8 to 11 ask of a record is the same of both
record Alike (d e : Event) : Type 0 where
  kinds : d.kind ≡ e.kind
  harts : d.hart ≡ e.hart
  locations : d.location.0 ≡ e.location.0
  flags : d.flags ≡ e.flags
  addr : d.addr ≡ e.addr
  «data» : d.«data» ≡ e.«data»
  ctrl : d.ctrl ≡ e.ctrl

bare_alike : (e : Event) → Alike (bare false e) e
bare_alike e = record { kinds = refl; harts = refl; locations = refl; flags = refl; addr = refl; «data» = refl; ctrl = refl }

same_alike : (e : Event) → Alike e e
same_alike e = record { kinds = refl; harts = refl; locations = refl; flags = refl; addr = refl; «data» = refl; ctrl = refl }

and3-same : {a b d x y z : Bool} → a ≡ x → b ≡ y → d ≡ z → (a && b && d) ≡ (x && y && z)
and3-same e f g = ap₂ ◌&&◌ (ap₂ ◌&&◌ e f) g

-- two tables with alike records and as many: lines 8 to 11 are the same
module _ (t u : Table) (count : u.count ≡ t.count) (alike : (k : ℕ) → Alike (event u k) (event t k)) where
  some-over : (f g : ℕ → Bool) → ((k : ℕ) → f k ≡ g k) → some u.count f ≡ some t.count g
  some-over f g h = ap (λ (n : ℕ). some n f) count ∙ some_same t.count f g (λ k l. h k)

  kind-same : (k : ℕ) → kind u k ≡ kind t k
  unfolding kind
  kind-same k = (alike k).kinds

  hart-same : (k : ℕ) → hart u k ≡ hart t k
  unfolding hart
  hart-same k = (alike k).harts

  memory-same : (k : ℕ) → memory u k ≡ memory t k
  unfolding memory reads writes
  memory-same k = rw (kind-same k) refl

  po-same : (a b : ℕ) → po u a b ≡ po t a b
  unfolding po
  po-same a b = rw (hart-same a, hart-same b) refl

  eight-same : (k : ℕ) → line8 u k ≡ line8 t k
  unfolding line8 annotations_wrong both_at_once load_releases writer_acquires
  eight-same k = rw ((alike k).kinds, (alike k).flags) refl

  names_same : (k m : ℕ) → names_wrongly u k m ≡ names_wrongly t k m
  unfolding names_wrongly names
  names_same k m = rw ((alike k).addr, (alike k).«data», (alike k).ctrl, po-same m k, kind-same m) refl

  data-same : (k : ℕ) → data_of_non_writer u k ≡ data_of_non_writer t k
  unfolding data_of_non_writer writes
  data-same k = rw (kind-same k, (alike k).«data») refl

  control-same : (k j : ℕ) → lacks_control u k j ≡ lacks_control t k j
  unfolding lacks_control
  control-same k j = rw (po-same k j, memory-same j, (alike k).ctrl, (alike j).ctrl) refl

  nine-same : (k : ℕ) → line9 u k ≡ line9 t k
  unfolding line9
  nine-same k =
      ap₂ ◌||◌ (ap₂ ◌||◌ (some_same capacity (names_wrongly u k) (names_wrongly t k) (λ m l. names_same k m)) (data-same k))
      (some-over (lacks_control u k) (lacks_control t k) (control-same k))

  reserves-same : (a b m : ℕ) → reserves u a b m ≡ reserves t a b m
  unfolding reserves between
  reserves-same a b m = rw (po-same a m, po-same m b, kind-same m) refl

  paired_same : (a b : ℕ) → paired u a b ≡ paired t a b
  unfolding paired
  paired_same a b =
      ap₂ ◌&&◌ (and3-same (po-same a b) (ap (λ (k : ℕ). eqb k lr) (kind-same a)) (ap (λ (k : ℕ). eqb k sc) (kind-same b)))
      (ap not (some-over (reserves u a b) (reserves t a b) (reserves-same a b)))

  here-same : (k l : ℕ) → paired_here u k l ≡ paired_here t k l
  unfolding paired_here same_location location
  here-same k l = rw (paired_same l k, (alike l).locations, (alike k).locations) refl

  ten-same : (k : ℕ) → line10 u k ≡ line10 t k
  unfolding line10
  ten-same k = ap₂ ◌&&◌ (ap (λ (x : ℕ). eqb x sc) (kind-same k)) (ap not (some-over (paired_here u k) (paired_here t k) (here-same k)))

  eleven-same : line11 u ≡ line11 t
  unfolding line11
  eleven-same = ap not (some-over (memory u) (memory t) memory-same)

  later_same : first_line t.count (record_of 8 (line8 u) ∷ record_of 9 (line9 u) ∷ record_of 10 (line10 u) ∷ whole 11 (line11 u) ∷ [])
      ≡ first_line t.count (record_of 8 (line8 t) ∷ record_of 9 (line9 t) ∷ record_of 10 (line10 t) ∷ whole 11 (line11 t) ∷ [])
  later_same =
      record_same _ _ _ _ _ _ (λ k l. eight-same k) (λ h.
      record_same _ _ _ _ _ _ (λ k l. nine-same k) (λ h.
      record_same _ _ _ _ _ _ (λ k l. ten-same k) (λ h. whole_same _ _ _ _ [] [] eleven-same refl)))

module _ (t u : Table) (a : AsBlock t u) where
  five-same : (most : ℕ) → line5 most u ≡ line5 most t
  unfolding line5
  five-same most = rw (a.harts, a.locations, a.count, a.stated, a.model) refl

  past_same : (k : ℕ) → past_not_blank u k ≡ past_not_blank t k
  unfolding past_not_blank
  past_same k =
      ap (λ (n : ℕ). leb n k && not (blank (event u k))) a.count
      ∙ ap (λ (e : Event). leb t.count k && not (blank e)) (a.events k)
      ∙ go (ltb k t.count) refl
    where
      e : Event
      e = event t k

      go : (b : Bool) → ltb k t.count ≡ b →
          (leb t.count k && not (blank (cond b (as_block t.harts t.locations e) e))) ≡ (leb t.count k && not (blank e))
      go true l = rw (lt-leb t.count k (ltb-true k t.count l)) refl
      go false l = refl

  six-same : line6 u ≡ line6 t
  unfolding line6
  six-same =
      ap₂ ◌||◌
      (ap₂ ◌||◌ (ap₂ (λ (n : ℕ) (l : List ℕ). some max_locations (initial_not_zero n l)) a.locations a.initial)
      (ap₂ (λ (n : ℕ) (l : List ℕ). some max_locations (final_not_zero n l)) a.stated a.finals))
      (some_same capacity (past_not_blank u) (past_not_blank t) (λ k l. past_same k))

  line7-same : (k : ℕ) → k < t.count → line7 u k ≡ text_line7 t k
  unfolding line7 text_line7
  line7-same k l =
      let turned = as_block t.harts t.locations (event t k) in
      ap₂ (λ (h x : ℕ). fields_wrong h x (event u k)) a.harts a.locations
      ∙ ap (fields_wrong t.harts t.locations) (a.events k ∙ ap (λ (b : Bool). cond b turned (event t k)) (lt-ltb k t.count l))
      ∙ seven-same t.harts t.locations (event t k)

  -- where line 7 of the text holds of no record, the records are alike
  passed-alike : some t.count (text_line7 t) ≡ false → (k : ℕ) → Alike (event u k) (event t k)
  unfolding as_block text_line7
  passed-alike h k = subst (λ (d : Event). Alike d (event t k)) (sym (a.events k)) (go (ltb k t.count) refl)
    where
      go : (b : Bool) → ltb k t.count ≡ b →
          Alike (cond b (as_block t.harts t.locations (event t k)) (event t k)) (event t k)
      go true l =
          subst (λ (b : Bool). Alike (bare b (event t k)) (event t k))
          (sym (none-at t.count (text_line7 t) k h (ltb-true k t.count l))) (bare_alike (event t k))
      go false l = same_alike (event t k)

  pub text-lines : (most : ℕ)
      → first_line u.count (table_lines_by (line7 u) most false u) ≡ first_line t.count (table_lines_by (text_line7 t) most false t)
  unfolding table_lines_by record_lines_by
  text-lines most =
      ap (λ (n : ℕ). first_line n (table_lines_by (line7 u) most false u)) a.count
      ∙ whole_same _ _ _ _ _ _ (five-same most) (whole_same _ _ _ _ _ _ six-same
      (record_same _ _ _ _ _ _ line7-same (λ h. later_same t u a.count (passed-alike h))))

-- the records before k are turned
pub record Turned (t : Table) (k : ℕ) (l : List Event) : Type 0 where
  pub long : length l ≡ capacity
  pub each : (j : ℕ) → get_or l j no_event ≡ cond (ltb j k) (as_block t.harts t.locations (event t j)) (event t j)

pub turn-start : (t : Table) → length t.events ≡ capacity → Turned t 0 t.events
unfolding event
turn-start t long =
    let turned : ℕ → Event = λ j. as_block t.harts t.locations (event t j) in
    record { long = long; each = λ j. sym (ap (λ (b : Bool). cond b (turned j) (event t j)) (le-ltb j 0 (omega arith))) }

pub turn_more : (t : Table) (k : ℕ) (l : List Event) (v : Event) → Turned t k l → k < capacity
    → v ≡ as_block t.harts t.locations (event t k)
    → Turned t (k + 1) (set l k v)
turn_more t k l v turned room q = record { long = simp length-set turned.long; each = λ j. go j (eqb k j) refl }
  where
    turn : ℕ → Event
    turn j = as_block t.harts t.locations (event t j)

    go : (j : ℕ) (b : Bool) → eqb k j ≡ b → get_or (set l k v) j no_event ≡ cond (ltb j (k + 1)) (turn j) (event t j)
    go j true z =
        let s = eqb-true k j z in
        ap (λ (i : ℕ). get_or (set l k v) i no_event) (sym s) ∙ get_or-set_same l k v no_event (omega (arith, turned.long)) ∙ q ∙ ap turn s
        ∙ sym (ap (λ (b : Bool). cond b (turn j) (event t j)) (lt-ltb j (k + 1) (omega arith)))
    go j false z =
        let other = eqb-false k j z in
        get_or-set_other l k j v no_event (λ s. other (sym s)) ∙ turned.each j
        ∙ ap (λ (b : Bool). cond b (turn j) (event t j)) (before (ltb j k) refl other)
      where
        before : (b : Bool) → ltb j k ≡ b → (k ≡ j → ⊥) → ltb j k ≡ ltb j (k + 1)
        before true y other = y ∙ sym (lt-ltb j (k + 1) (omega (arith, ltb-true j k y)))
        before false y other = y ∙ sym (le-ltb j (k + 1) (omega (arith, ltb-false j k y, other)))

-- all are
pub turn_end : (t : Table) (k : ℕ) (l : List Event) → Turned t k l → k ≡ t.count → (j : ℕ)
    → get_or l j no_event ≡ cond (ltb j t.count) (as_block t.harts t.locations (event t j)) (event t j)
turn_end t k l turned last j =
    turned.each j ∙ ap (λ (n : ℕ). cond (ltb j n) (as_block t.harts t.locations (event t j)) (event t j)) last
