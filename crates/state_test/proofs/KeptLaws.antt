-- Laws for the loop that asks each event of a set, the lowest first, whether the set keeps it.
use Prim.Native.Nat.{ℕ, ◌^◌, ◌<◌}
use native.Mathlib.Omega.{arith}
use native.Mathlib.Nat.{lt_of_le_of_lt}
use mathlib.Core.Path.{◌≡◌, refl, sym, ap, subst, ◌∙◌}
use mathlib.Core.Bool.{Bool, true, false, not, ◌&&◌, ◌||◌, xor, and-true}
use mathlib.Core.List.{List}
use mathlib.Core.Logic.{⊎_elim}
use lib.Bits.{bit_and, bit_xor, and_le_l}
use lib.Count.{count_trailing_zeros}
use lib.Dec.{eqb}
use borrow.Author.Tests.{eqb-true, eqb-false, ltb-true, not-true, not-false}
use Rattle.lists.specs.Below.{some, every}
use Rattle.lists.proofs.BoolLaws.{and_l, and_r, and_both, and_left, and_right, or_cases, or_l, or_r, or-implied}
use Rattle.lists.proofs.BoolLaws.{is_false, not-either, xor-false}
use Rattle.lists.proofs.SomeLaws.{some_at, some-none, every-at, at_every}
use Rattle.masks.specs.Bit.{bit}
use Rattle.masks.proofs.BitLaws.{bit-and, bit-xor, bit-zero, bit-pow}
use Rattle.masks.proofs.PowerLaws.{trailing-lowest}
use Rattle.masks.proofs.MaskOfLaws.{mask_below}
use Rattle.masks.proofs.LeftLaws.{left_less}
use Rattle.table.specs.declared.Table.{Table}
use Rattle.table.specs.Events.{memory, memory_events, memory_mask}
use Rattle.model.specs.Witness.{is_memory_event}
use Rattle.fact_rows.specs.FactRows.{mask}
use Rattle.states.specs.Choices.{persists}
use Rattle.state_test.specs.Board.{Board, SaysOf, kind_row, memory_word}
use Rattle.state_test.proofs.DisturbLaws.{keeps}

-- a bit of what is left once the lowest is taken
taken : (l e k : ℕ) → bit l e ≡ true → bit (bit_xor l (2 ^ e)) k ≡ (bit l k && not (eqb e k))
unfolding xor
taken l e k h = bit-xor l (2 ^ e) k ∙ ap (xor (bit l k)) (bit-pow e k) ∙ go (eqb e k) refl
  where
    go : (b : Bool) → eqb e k ≡ b → xor (bit l k) b ≡ (bit l k && not b)
    go true q = rw (ap (bit l) (sym (eqb-true e k q)) ∙ h)
    go false q = xor-false (bit l k) ∙ sym (and-true (bit l k))

module _ (facts ties : List (List ℕ)) (placed set : ℕ) where
  -- the events of the set that aren't left are kept
  pub record Held (l : ℕ) : Type 0 where
    pub room : l < 2 ^ 32
    pub within : (k : ℕ) → bit l k ≡ true → bit set k ≡ true
    pub asked : (k : ℕ) → bit set k ≡ true → bit l k ≡ false → SaysOf facts ties k (λ t. keeps t placed set k) true

  pub held_start : set < 2 ^ 32 → Held set
  held_start h = record { room = h; within = λ k i. i; asked = λ k i j. absurd (not-either _ i j) }

  module _ (l e : ℕ) (s : Held l) (h : 0 < l) (q : e ≡ count_trailing_zeros 32 l) where
    pub held-lowest : (e < 32) × (bit l e ≡ true)
    held-lowest = let f = trailing-lowest 32 l h s.room in (omega (arith, f.0), ap (bit l) q ∙ f.1)

    pub held-less : (b : ℕ) → b ≡ 2 ^ e → bit_xor l b < l
    held-less b p = left_less (bit l) 32 l l e (s.room, refl) h q b p

    pub held_more : (b : ℕ) (r : Bool) → b ≡ 2 ^ e → SaysOf facts ties e (λ t. keeps t placed set e) r → r ≡ true →
        Held (bit_xor l b)
    held_more b r p says y = record {
      room = omega (arith, held-less b p, s.room);
      within = λ k i. s.within k (and_l _ (not (eqb e k)) (sym (bits k) ∙ i));
      asked = λ k i j. go k i (eqb e k) refl (sym (bits k) ∙ j);
    }
      where
        bits : (k : ℕ) → bit (bit_xor l b) k ≡ (bit l k && not (eqb e k))
        bits k = ap (λ (x : ℕ). bit (bit_xor l x) k) p ∙ taken l e k held-lowest.1

        go : (k : ℕ) → bit set k ≡ true → (c : Bool) → eqb e k ≡ c → (bit l k && not c) ≡ false →
            SaysOf facts ties k (λ t. keeps t placed set k) true
        go k i true c j =
            subst (λ (x : ℕ). SaysOf facts ties x (λ t. keeps t placed set x) true) (eqb-true e k c)
            (λ t b i. sym y ∙ says t b i)
        go k i false c j = s.asked k i (sym (and-true (bit l k)) ∙ j)

  -- the events of the set are memory events
  module _ (m : bit_and set (mask ties kind_row memory_word) ≡ set) {t : Table} (b : Board t facts ties) where
    abbrev asks : ℕ → Bool
    asks e = not (bit set e) || is_memory_event t e && not (bit placed e) && keeps t placed set e

    event : (k : ℕ) → bit set k ≡ true → is_memory_event t k ≡ true
    unfolding is_memory_event memory_mask memory_events
    event k h =
        sym (ap (λ (x : ℕ). bit x k) b.memory ∙ mask_below (memory t) t.count k)
        ∙ and_r (bit set k) _ (sym (bit-and set (mask ties kind_row memory_word) k) ∙ ap (λ (x : ℕ). bit x k) m ∙ h)

    counted : (k : ℕ) → bit set k ≡ true → k < t.count
    unfolding is_memory_event
    counted k h = ltb-true k t.count (and_l _ (memory t k) (event k h))

    -- an event of the set that isn't kept
    fails : (k : ℕ) → bit set k ≡ true → (not (bit placed k) && keeps t placed set k) ≡ false →
        persists t (bit placed) (bit set) ≡ false
    unfolding persists
    fails k h n = and_right (some t.count (bit set)) _ (is_false _ (λ a.
        not-either _ (every-at t.count asks k a (counted k h)) (rw (h, event k h) n)))

    pub persists-not : (k : ℕ) (r : Bool) → bit set k ≡ true → SaysOf facts ties k (λ t. keeps t placed set k) r → r ≡ false →
        false ≡ persists t (bit placed) (bit set)
    persists-not k r h says q =
        sym (fails k h (and_right (not (bit placed k)) _ (sym (says t b (counted k h)) ∙ q)))

    -- there is none, or one is placed
    pub persists-off : set < 2 ^ 32 → (eqb set 0 || not (eqb (bit_and set placed) 0)) ≡ true →
        false ≡ persists t (bit placed) (bit set)
    unfolding persists
    persists-off h o = ⊎_elim none some-placed (or_cases (eqb set 0) _ o)
      where
        none : eqb set 0 ≡ true → false ≡ persists t (bit placed) (bit set)
        none q =
            and_left _ _ (some-none t.count (bit set)
            (λ k i. ap (λ (x : ℕ). bit x k) (eqb-true set 0 q) ∙ bit-zero k))

        some-placed : not (eqb (bit_and set placed) 0) ≡ true → false ≡ persists t (bit placed) (bit set)
        some-placed q =
            let f = trailing-lowest 32 (bit_and set placed) (omega (arith, eqb-false (bit_and set placed) 0 (not-true _ q)))
            (lt_of_le_of_lt (and_le_l set placed) h) in
            let k = count_trailing_zeros 32 (bit_and set placed) in
            let j : (bit set k && bit placed k) ≡ true = sym (bit-and set placed k) ∙ f.1 in
            sym (fails k (and_l _ (bit placed k) j) (rw (and_r (bit set k) _ j)))

    -- there is one, none is placed, and all are kept
    pub persists-held : set < 2 ^ 32 → (eqb set 0 || not (eqb (bit_and set placed) 0)) ≡ false → (l : ℕ) → Held l → l ≡ 0 →
        true ≡ persists t (bit placed) (bit set)
    unfolding persists
    persists-held h o l s z =
        sym (and_both (some t.count (bit set)) (every t.count asks) one
        (at_every t.count asks (λ k i. or-implied (bit set k) _ (kept k))))
      where
        one : some t.count (bit set) ≡ true
        one =
            let f = trailing-lowest 32 set (omega (arith, eqb-false set 0 (or_l _ _ o))) h in
            let k = count_trailing_zeros 32 set in
            some_at t.count (bit set) k (counted k f.1) f.1

        late : (k : ℕ) → bit set k ≡ true → bit placed k ≡ false
        late k i = is_false _ (λ j. not-either _ (bit-and set placed k ∙ and_both (bit set k) (bit placed k) i j)
            (ap (λ (x : ℕ). bit x k) (eqb-true (bit_and set placed) 0 (not-false _ (or_r (eqb set 0) _ o))) ∙ bit-zero k))

        kept : (k : ℕ) → bit set k ≡ true → (is_memory_event t k && not (bit placed k) && keeps t placed set k) ≡ true
        kept k i =
            and_both (is_memory_event t k && not (bit placed k)) (keeps t placed set k)
            (and_both (is_memory_event t k) (not (bit placed k)) (event k i) (ap not (late k i)))
            (sym (s.asked k i (ap (λ (x : ℕ). bit x k) z ∙ bit-zero k) t b (counted k i)))
