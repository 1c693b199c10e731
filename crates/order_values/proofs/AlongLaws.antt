-- What each write leaves, told along a clean order.
use Prim.Native.Nat.{ℕ, ◌+◌, ◌*◌, ◌/◌, ◌%◌, ◌^◌, ◌≤◌, ◌<◌}
use native.Mathlib.Omega.{arith}
use native.Mathlib.Nat.{mod-eq_of_lt}
use native.Mathlib.Numerals.{add-one}
use mathlib.Core.Path.{◌≡◌, refl, sym, ap, subst, ◌∙◌}
use mathlib.Core.Bool.{Bool, true, false, cond, not, ◌||◌, or-true, or-false}
use mathlib.Core.List.{List, [], ◌∷◌}
use lib.ListN.{length, get_or, take, set, length-take, length-set}
use lib.Seq.{take-suc, take_all, take-take, get_or-set_same, get_or-set_other}
use lib.Dec.{eqb, ltb}
use borrow.Author.Tests.{eq-eqb, ne_eqb, eqb-true, eqb-false, not-false}
use Rattle.lists.specs.Lists.{all, has}
use Rattle.lists.specs.Filled.{padded}
use Rattle.lists.proofs.MemberLaws.{has-append}
use Rattle.lists.proofs.FilledLaws.{length-up_to}
use Rattle.masks.specs.Bit.{bit}
use Rattle.masks.proofs.BitLaws.{bit-zero}
use Rattle.operation.specs.Operation.{no_operation, applied}
use Rattle.table.specs.declared.Table.{Table}
use Rattle.table.specs.Events.{capacity, event, location, writes}
use Rattle.model.specs.Returns.{return_of, last_write}
use Rattle.model.specs.Following.{leaves}
use Rattle.model.specs.Witness.{is_order}
use Rattle.model.specs.Prefixes.{clean}
use Rattle.placing.proofs.KeptLaws.{Kept, clean-kept, writer_in}
use Rattle.placing.proofs.FollowingLaws.{leaves-initial, leaves-write, writer-returns}
use Rattle.fact_rows.specs.FactRows.{row, mask, Facts, set_row}
use Rattle.fact_rows.specs.ValueRows.{Values, written_row, action_row, operated_word}
use Rattle.order_test.specs.Testing.{Fitting}
use Rattle.order_test.proofs.TellLaws.{mask-bit}
use Rattle.order_test.proofs.PassLaws.{item-event}
use Rattle.order_values.specs.Following.{Leaves}
use Rattle.order_values.specs.ByFacts.{last_left, place_of, written_by, left_by}
use Rattle.order_values.proofs.WordLaws.{all_first, order-events, place_is, written_is, action-is, last-told, last-narrow}
use Rattle.order_values.proofs.NarrowLaws.{either-narrow, applied-narrow}

module _ (facts : List (List ℕ)) (left p : List ℕ) (e : ℕ) where
  pub by-plain : mask facts action_row e % 256 ≡ no_operation → mask facts written_row e ≡ left_by facts left p e
  unfolding left_by
  by-plain q = rw (eq-eqb (mask facts action_row e % 256) no_operation q)

  pub by-operation : (mask facts action_row e % 256 ≡ no_operation → ⊥) → (x value r : ℕ) → x ≡ place_of facts e →
      value ≡ last_left facts left p x → r ≡ written_by (mask facts action_row e) value → r ≡ left_by facts left p e
  unfolding left_by
  by-operation n x value r a b c =
      rw (ne_eqb (mask facts action_row e % 256) no_operation n)
      (c ∙ ap (written_by (mask facts action_row e)) (b ∙ ap (last_left facts left p) a))

module _ (facts : List (List ℕ)) (order : List ℕ) (len : ℕ) where
  abbrev gmo : List ℕ
  gmo = take len order

  -- w has no operation or is one of the first i entries
  abbrev is_told : Table → ℕ → ℕ → Bool
  is_told t i w = eqb (event t w).operation no_operation || has w (take i gmo)

  -- left has what those leave
  pub record Told (t : Table) (i : ℕ) (left : List ℕ) : Type 0 where
    pub long : length left ≡ capacity
    pub narrow : (w : ℕ) → w < t.count → get_or left w 0 < 2 ^ 16
    pub each : (w : ℕ) → w < t.count → writes t w ≡ true → is_told t i w ≡ true → get_or left w 0 ≡ leaves t gmo (location t w) w

  -- of each table that has these facts, and of which this is a clean order
  abbrev pub Along : ℕ → List ℕ → Type 0
  Along i left =
      (t : Table) → Facts t facts → Values t facts → is_order t gmo ≡ true → clean t gmo ≡ true → Told t i left

  pub along-start : Along 0 (row facts written_row)
  unfolding padded
  along-start t f v o c = record {
    long = ap length v.written ∙ length-up_to capacity _;
    narrow = λ w l. subst (λ (x : ℕ). x < 2 ^ 16) (sym (written_is f v w l)) (v.narrow.written w l);
    each = λ w l u h.
        let plain = sym (or-false (eqb (event t w).operation no_operation)) ∙ h in
        let k = clean-kept f.table o c in
        written_is f v w l ∙ sym (leaves-write k w (location t w) (writer_in k w l u) u ∙ rw plain refl);
  }

  -- where no event has an operation, all are told
  pub along-none : mask facts set_row operated_word ≡ 0 → Leaves facts gmo (row facts written_row)
  along-none z t f v o c w l u =
      (along-start t f v o c).each w l u
      (ap (λ (b : Bool). b || false) (not-false (eqb (event t w).operation no_operation)
      (sym (mask-bit t (λ e. not (eqb (event t e).operation no_operation)) w l)
      ∙ ap (λ (m : ℕ). bit m w) (sym v.operated ∙ z) ∙ bit-zero w)))

  pub along-end : (i : ℕ) (left : List ℕ) → len ≤ i → Along i left → Leaves facts gmo left
  along-end i left l s t f v o c w n u =
      (s t f v o c).each w n u
      (ap (λ (b : Bool). eqb (event t w).operation no_operation || b)
      (ap (has w) (take_all i gmo (omega (arith, length-take len order))) ∙ writer_in (clean-kept f.table o c) w n u)
      ∙ or-true (eqb (event t w).operation no_operation))

  -- Entry i.
  module _ (fit : Fitting order len) (i : ℕ) (few : i < length gmo) (left : List ℕ) where
    abbrev e : ℕ
    e = get_or gmo i 0

    first : take i gmo ≡ take i order
    first = take-take i len order (omega (arith, length-take len order))

    module _ (t : Table) (f : Facts t facts) (v : Values t facts) (o : is_order t gmo ≡ true) (c : clean t gmo ≡ true)
        (told : Told t i left) where
      k : Kept t gmo
      k = clean-kept f.table o c

      counted : e < t.count
      counted = item-event facts order len fit i few t o

      -- the value at its location, by the entries before it
      abbrev value : ℕ
      value = last_left facts left (take i order) (location t e)

      events : all (λ a. ltb a t.count) (take i order) ≡ true
      events = ap (all (λ a. ltb a t.count)) (sym first) ∙ all_first (λ a. ltb a t.count) gmo i (order-events t gmo o)

      value-narrow : value < 2 ^ 16
      value-narrow = last-narrow f v (location t e) (f.table.located e counted) (take i order) events left told.narrow

      abbrev operation : ℕ
      operation = (event t e).operation

      -- what is read off the facts
      by-is : left_by facts left (take i order) e
          ≡ cond (eqb operation no_operation) (event t e).written (applied operation value (event t e).operand)
      unfolding left_by written_by
      by-is =
          let operand = (event t e).operand in
          let word = action-is f v e counted in
          let small = v.narrow.operation e counted in
          let low : (operation + 256 * operand) % 256 ≡ operation = omega (arith, small) in
          let high : (operation + 256 * operand) / 256 ≡ operand = omega (arith, small) in
          rw (
            word,
            low,
            high,
            mod-eq_of_lt (v.narrow.operand e counted),
            written_is f v e counted,
            place_is f v e counted,
            mod-eq_of_lt value-narrow,
          )

      by-narrow : left_by facts left (take i order) e < 2 ^ 16
      by-narrow =
          subst (λ (x : ℕ). x < 2 ^ 16) (sym by-is) (either-narrow (eqb operation no_operation) _ _ (v.narrow.written e counted)
          (applied-narrow operation value (event t e).operand value-narrow (v.narrow.operand e counted)))

      -- is what the entry leaves
      by_right : writes t e ≡ true → left_by facts left (take i order) e ≡ leaves t gmo (location t e) e
      by_right u =
          by-is
          ∙ ap (λ (y : ℕ). cond (eqb operation no_operation) (event t e).written (applied operation y (event t e).operand))
          (last-told f v (location t e) (f.table.located e counted) (take i order) events left (leaves t gmo (location t e))
          (leaves-initial t gmo (location t e)) before-told ∙ ap (leaves t gmo (location t e)) (sym returns))
          ∙ sym (leaves-write k e (location t e) (writer_in k e counted u) u)
        where
          returns : return_of t gmo e ≡ last_write t (take i order) (location t e)
          returns =
              writer-returns k i few u ∙ ap (λ (p : List ℕ). last_write t p (location t e)) first

          before-told : (w : ℕ) → has w (take i order) ≡ true → w < t.count → writes t w ≡ true → location t w ≡ location t e →
              get_or left w 0 ≡ leaves t gmo (location t e) w
          before-told w h n m at =
              told.each w n m
              (ap (λ (b : Bool). eqb (event t w).operation no_operation || b) (ap (has w) first ∙ h)
              ∙ or-true (eqb (event t w).operation no_operation))
              ∙ ap (λ (y : ℕ). leaves t gmo y w) at

    pub along-more : Along i left → (r : ℕ) → r ≡ left_by facts left (take i order) e → Along (i + 1) (set left e r)
    along-more s r q t f v o c = record {
      long = length-set left e r ∙ told.long;
      narrow = λ w n. narrow w n (eqb w e) refl;
      each = λ w n u. each w n u (eqb w e) refl;
    }
      where
        told : Told t i left
        told = s t f v o c

        -- another event is told as before
        as_before : (w : ℕ) → eqb w e ≡ false → is_told t i w ≡ is_told t (i + 1) w
        as_before w z =
            ap (λ (b : Bool). eqb (event t w).operation no_operation || b) (sym (ap (has w)
            (ap (λ (n : ℕ). take n gmo) (add-one i) ∙ take-suc gmo i 0 few)
            ∙ has-append w (take i gmo) (e ∷ []) ∙ ap (λ (b : Bool). has w (take i gmo) || (b || false)) z
            ∙ or-false (has w (take i gmo))))

        set_here : (w : ℕ) → w ≡ e → get_or (set left e r) w 0 ≡ left_by facts left (take i order) e
        set_here w z =
            ap (λ (a : ℕ). get_or (set left e r) a 0) z
            ∙ get_or-set_same left e r 0 (omega (arith, told.long, f.table.small.events, counted t f v o c told)) ∙ q

        set_other : (w : ℕ) → eqb w e ≡ false → get_or (set left e r) w 0 ≡ get_or left w 0
        set_other w z = get_or-set_other left e w r 0 (eqb-false w e z)

        narrow : (w : ℕ) → w < t.count → (b : Bool) → eqb w e ≡ b → get_or (set left e r) w 0 < 2 ^ 16
        narrow w n true z =
            subst (λ (x : ℕ). x < 2 ^ 16) (sym (set_here w (eqb-true w e z))) (by-narrow t f v o c told)
        narrow w n false z = subst (λ (x : ℕ). x < 2 ^ 16) (sym (set_other w z)) (told.narrow w n)

        each : (w : ℕ) → w < t.count → writes t w ≡ true → (b : Bool) → eqb w e ≡ b → is_told t (i + 1) w ≡ true →
            get_or (set left e r) w 0 ≡ leaves t gmo (location t w) w
        each w n u true z h =
            let p = eqb-true w e z in
            set_here w p ∙ by_right t f v o c told (ap (writes t) (sym p) ∙ u)
            ∙ ap (λ (a : ℕ). leaves t gmo (location t a) a) (sym p)
        each w n u false z h = set_other w z ∙ told.each w n u (as_before w z ∙ h)
