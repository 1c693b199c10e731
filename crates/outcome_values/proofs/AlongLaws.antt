-- One pass along a clean order: at entry i what it returns, and what is at its location then.
use Prim.Native.Nat.{ℕ, ◌+◌, ◌^◌, ◌≤◌, ◌<◌}
use native.Mathlib.Omega.{arith}
use native.Mathlib.Numerals.{add-one}
use mathlib.Core.Path.{◌≡◌, refl, sym, ap, ◌∙◌}
use mathlib.Core.Bool.{Bool, true, false, cond, ◌&&◌, false≢true, true≢false}
use mathlib.Core.List.{List, [], ◌∷◌, ◌++◌}
use mathlib.Core.Logic.{⊎_elim}
use lib.ListN.{length, get_or, take, set, length-take, length-set}
use lib.Seq.{take-suc, take_all, get_or-set_same, get_or-set_other}
use lib.Bits.{bit_and, bit_or, bit_xor}
use lib.Dec.{eqb, ltb}
use borrow.Author.Tests.{eqb-true, eqb-false, eq-eqb, lt-ltb, ltb-true}
use Rattle.lists.specs.Lists.{has}
use Rattle.lists.specs.Filled.{padded}
use Rattle.lists.proofs.BoolLaws.{and-within}
use Rattle.lists.proofs.MemberLaws.{has_last}
use Rattle.lists.proofs.FilledLaws.{length-up_to}
use Rattle.lists.proofs.LastLaws.{last-append}
use Rattle.masks.specs.Bit.{bit}
use Rattle.masks.specs.Parts.{highest}
use Rattle.table.specs.declared.Table.{Table}
use Rattle.table.specs.Events.{capacity, location, reads, writes, same_location}
use Rattle.model.specs.Rules.{initially}
use Rattle.model.specs.Returns.{return_of, last_write}
use Rattle.model.specs.Following.{leaves, returned_value, end_value}
use Rattle.model.specs.Witness.{is_order}
use Rattle.model.specs.Prefixes.{clean}
use Rattle.placing.specs.Guards.{forwarder}
use Rattle.placing.proofs.GuardLaws.{own-parts, forwards}
use Rattle.placing.proofs.KeptLaws.{Kept, clean-kept, reader-in}
use Rattle.placing.proofs.EntryLaws.{entry-returns}
use Rattle.placing.proofs.FollowingLaws.{leaves-initial, returned-is}
use Rattle.fact_rows.specs.FactRows.{row, mask, Facts, own_row}
use Rattle.fact_rows.specs.ValueRows.{Values, writer_row, initial_row}
use Rattle.order_test.specs.Testing.{Fitting}
use Rattle.order_test.proofs.TellLaws.{tell-forwards-none, tell-forwards}
use Rattle.order_test.proofs.PassLaws.{Placed, placed-start, item-placed, item-event, among-mask}
use Rattle.order_values.specs.Following.{LeftOf}
use Rattle.order_values.specs.ByFacts.{place_of}
use Rattle.order_values.proofs.WordLaws.{place_is, writer-bit, initial-is}
use Rattle.outcome_values.specs.Giving.{NowBy, Always, ReturnsIn, EndsIn}

-- What e returns behind those placed; m is the mask of its own writers that aren't.
module _ (facts : List (List ℕ)) (left : List ℕ) (placed e here m : ℕ)
    (q : m ≡ bit_xor (mask facts own_row e) (bit_and (mask facts own_row e) placed)) where
  pub now-here : m ≡ 0 → NowBy facts left placed e here here
  now-here z t f l h =
      sym (ap (λ (b : Bool). cond b (get_or left (forwarder t (bit placed) e) 0) here)
      (tell-forwards-none facts placed e m q z t f l h))

  pub now-forwarded : (m ≡ 0 → ⊥) → (w : ℕ) → w ≡ highest m → NowBy facts left placed e here (get_or left w 0)
  now-forwarded n w h t f l _ =
      let s = tell-forwards facts placed e m w q n h t f l in
      sym (ap (λ (x : ℕ). cond (ltb x t.count) (get_or left x 0) here) s.0
      ∙ ap (λ (b : Bool). cond b (get_or left w 0) here) (lt-ltb w t.count s.1))

module _ (facts : List (List ℕ)) (left order : List ℕ) (len : ℕ) where
  abbrev gmo : List ℕ
  gmo = take len order

  -- told of the first i entries: what each reader among them returns, and what they leave at each location
  pub record Telling (t : Table) (i : ℕ) (returned at : List ℕ) : Type 0 where
    pub wide : length at ≡ capacity
    pub readers : (e : ℕ) → has e (take i gmo) ≡ true → reads t e ≡ true → get_or returned e 0 ≡ returned_value t gmo e
    pub places : (x : ℕ) → x < t.locations → get_or at x 0 ≡ leaves t gmo x (last_write t (take i gmo) x)

  -- of each table, where left has what each write leaves; placed is the mask of the first i entries
  pub record Told (i placed : ℕ) (returned at : List ℕ) : Type 0 where
    pub before : Placed facts order len i placed
    pub long : length returned ≡ capacity
    pub told : Always facts gmo (λ t. LeftOf t gmo left → Telling t i returned at)

  pub tell-start : (returned at : List ℕ) → length returned ≡ capacity → at ≡ row facts initial_row → Told 0 0 returned at
  unfolding padded
  tell-start returned at long initial = record {
    before = placed-start facts order len;
    long = long;
    told = λ t f v o c given. record {
      wide = ap length (initial ∙ v.initial) ∙ length-up_to capacity _;
      readers = λ e h r. absurd (false≢true h);
      places = λ x l.
          ap (λ (p : List ℕ). get_or p x 0) initial ∙ initial-is f v x l ∙ sym (leaves-initial t gmo x);
    };
  }

  pub tell-returns : (i placed : ℕ) (returned at : List ℕ) → len ≤ i → Told i placed returned at → ReturnsIn facts left gmo returned
  tell-returns i placed returned at l s t f v o c given e n h =
      (s.told t f v o c given).readers e
      (ap (has e) (take_all i gmo (omega (arith, length-take len order))) ∙ reader-in (clean-kept f.table o c) e n h) h

  pub tell-ends : (i placed : ℕ) (returned at : List ℕ) → len ≤ i → Told i placed returned at → EndsIn facts left gmo at
  unfolding end_value
  tell-ends i placed returned at l s t f v o c given x n =
      (s.told t f v o c given).places x n
      ∙ ap (λ (p : List ℕ). leaves t gmo x (last_write t p x)) (take_all i gmo (omega (arith, length-take len order)))

  -- Entry i is told.
  module _ (fit : Fitting order len) (i : ℕ) (few : i < length gmo) (placed : ℕ) (returned at : List ℕ) (s : Told i placed returned at)
      (x : ℕ) (place : x ≡ place_of facts (get_or gmo i 0)) where
    abbrev e : ℕ
    e = get_or gmo i 0

    inside : i < len
    inside = omega (arith, length-take len order)

    one_more : take (i + 1) gmo ≡ take i gmo ++ (e ∷ [])
    one_more = ap (λ (n : ℕ). take n gmo) (add-one i) ∙ take-suc gmo i 0 few

    module _ (t : Table) (f : Facts t facts) (v : Values t facts) (o : is_order t gmo ≡ true) (c : clean t gmo ≡ true)
        (given : LeftOf t gmo left) where
      k : Kept t gmo
      k = clean-kept f.table o c

      counted : e < t.count
      counted = item-event facts order len fit i few t o

      here : x ≡ location t e
      here = place ∙ place_is f v e counted

      known : location t e < t.locations
      known = f.table.located e counted

      now : Telling t i returned at
      now = s.told t f v o c given

      abbrev from : ℕ
      from = forwarder t (bit placed) e

      -- what it returns from: its forwarder, else the last write before it
      source : return_of t gmo e ≡ cond (ltb from t.count) from (last_write t (take i gmo) (location t e))
      source =
          entry-returns k i few
          ∙ ap (λ (g : ℕ → Bool).
          cond (ltb (forwarder t g e) t.count) (forwarder t g e) (last_write t (take i gmo) (location t e)))
          (among-mask facts order len fit i inside placed s.before)

      value-right : (value : ℕ) → NowBy facts left placed e (get_or at x 0) value → reads t e ≡ true →
          value ≡ returned_value t gmo e
      unfolding same_location
      value-right value by h =
          by t f counted h ∙ go (ltb from t.count) refl ∙ ap (leaves t gmo (location t e)) (sym source)
          ∙ sym (returned-is t gmo e counted h)
        where
          go : (b : Bool) → ltb from t.count ≡ b → cond b (get_or left from 0) (get_or at x 0)
              ≡ leaves t gmo (location t e) (cond b from (last_write t (take i gmo) (location t e)))
          go true q =
              let p = own-parts t e from (forwards t (bit placed) e q).0 in
              given from (ltb-true from t.count q) p.0
              ∙ ap (λ (y : ℕ). leaves t gmo y from) (eqb-true _ _ p.1)
          go false q = ap (λ (y : ℕ). get_or at y 0) here ∙ now.places (location t e) known

      readers-more : (value : ℕ) → NowBy facts left placed e (get_or at x 0) value →
          (a : ℕ) → has a (take (i + 1) gmo) ≡ true → reads t a ≡ true → get_or (set returned e value) a 0 ≡ returned_value t gmo a
      readers-more value by a m h = go (eqb a e) refl
        where
          go : (b : Bool) → eqb a e ≡ b → get_or (set returned e value) a 0 ≡ returned_value t gmo a
          go true q =
              let p = eqb-true a e q in
              ap (λ (y : ℕ). get_or (set returned e value) y 0) p
              ∙ get_or-set_same returned e value 0 (omega (arith, s.long, counted, f.table.small.events))
              ∙ value-right value by (ap (reads t) (sym p) ∙ h) ∙ ap (returned_value t gmo) (sym p)
          go false q =
              get_or-set_other returned e a value 0 (eqb-false a e q)
              ∙ ⊎_elim (λ d. now.readers a d h) (λ (d : a ≡ e). absurd (true≢false (sym (eq-eqb a e d) ∙ q)))
              (has_last a e (take i gmo) (sym (ap (has a) one_more) ∙ m))

      -- its bit among the writers to its location
      writer-is : bit (mask facts writer_row x) e ≡ writes t e
      writer-is =
          ap (λ (y : ℕ). bit (mask facts writer_row y) e) here ∙ writer-bit f v (location t e) known e counted
          ∙ and-within (writes t e) _ (λ u. eq-eqb (location t e) (location t e) refl)

      abbrev after· : List ℕ
      after· = cond (writes t e) (set at x (get_or left e 0)) at

      places-more : (y : ℕ) → y < t.locations → get_or after· y 0 ≡ leaves t gmo y (last_write t (take (i + 1) gmo) y)
      places-more y n =
          go (writes t e) refl (eqb (location t e) y) refl
          ∙ ap (leaves t gmo y)
          (sym (ap (λ (p : List ℕ). last_write t p y) one_more
          ∙ last-append (λ w. writes t w && eqb (location t w) y) initially (take i gmo) (e ∷ [])))
        where
          go : (u : Bool) → writes t e ≡ u → (b : Bool) → eqb (location t e) y ≡ b →
              get_or (cond u (set at x (get_or left e 0)) at) y 0 ≡ leaves t gmo y (cond (u && b) e (last_write t (take i gmo) y))
          go false h b q = now.places y n
          go true h true q =
              let p = eqb-true (location t e) y q in
              ap (λ (z : ℕ). get_or (set at x (get_or left e 0)) z 0) (sym (here ∙ p))
              ∙ get_or-set_same at x (get_or left e 0) 0 (omega (arith, now.wide, here, known, f.table.small.locations))
              ∙ given e counted h ∙ ap (λ (z : ℕ). leaves t gmo z e) p
          go true h false q =
              get_or-set_other at x y (get_or left e 0) 0 (λ (z : y ≡ x). eqb-false (location t e) y q (sym (z ∙ here)))
              ∙ now.places y n

    pub tell-more : (value b : ℕ) (next : List ℕ) → NowBy facts left placed e (get_or at x 0) value →
        next ≡ cond (bit (mask facts writer_row x) e) (set at x (get_or left e 0)) at → b ≡ 2 ^ e →
        Told (i + 1) (bit_or placed b) (set returned e value) next
    tell-more value b next by q p = record {
      before = item-placed facts order len fit i few placed b s.before p;
      long = length-set returned e value ∙ s.long;
      told = λ t f v o c given.
          let same : next ≡ after· t f v o c given =
          q ∙ ap (λ (u : Bool). cond u (set at x (get_or left e 0)) at) (writer-is t f v o c given) in
          record {
            wide = ap length same ∙ either-long (writes t e) (now t f v o c given).wide;
            readers = readers-more t f v o c given value by;
            places = λ y n.
                ap (λ (p : List ℕ). get_or p y 0) same ∙ places-more t f v o c given y n;
          };
    }
      where
        either-long : (u : Bool) → length at ≡ capacity → length (cond u (set at x (get_or left e 0)) at) ≡ capacity
        either-long true h = length-set at x (get_or left e 0) ∙ h
        either-long false h = h
