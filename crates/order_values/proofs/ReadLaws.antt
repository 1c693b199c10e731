-- What a reader returns from, looked for from the end of an order: its own writers behind it, then all writers before it.
use Prim.Native.Nat.{ℕ, suc, ◌+◌, ◌-◌, ◌≤◌, ◌<◌}
use native.Mathlib.Omega.{arith}
use mathlib.Core.Path.{◌≡◌, sym, ap, ap₂, ◌∙◌}
use mathlib.Core.Bool.{Bool, true, false, not, ◌&&◌, ◌||◌, and-true}
use mathlib.Core.List.{List}
use lib.ListN.{length, get_or, take, drop, drop_of_length-le}
use lib.Seq.{drop-cons, split_at, length-take-le, take-take}
use lib.Dec.{eqb, ltb}
use borrow.Author.Tests.{eqb-true, eq-eqb}
use Rattle.lists.specs.Lists.{all, has, distinct, before}
use Rattle.lists.proofs.BoolLaws.{and_both, and_right, and_l, and_r, bool-ext, eqb_comm}
use Rattle.lists.proofs.MemberLaws.{has_all}
use Rattle.lists.proofs.BeforeLaws.{before-taken}
use Rattle.lists.proofs.DistinctLaws.{before_at}
use Rattle.lists.proofs.LastLaws.{Behind, behind-start, behind_more, behind-hit, behind-end, last-same}
use Rattle.masks.specs.Bit.{bit}
use Rattle.masks.proofs.BitLaws.{bit-zero}
use Rattle.table.specs.declared.Table.{Table}
use Rattle.table.specs.Events.{location, reads, writes, same_location, po}
use Rattle.model.specs.Rules.{initially}
use Rattle.model.specs.Returns.{visible, return_of, last_write}
use Rattle.model.specs.Following.{leaves, returned_value}
use Rattle.model.specs.Witness.{is_order}
use Rattle.model.specs.Prefixes.{clean}
use Rattle.placing.specs.Guards.{own}
use Rattle.placing.proofs.KeptLaws.{Kept, clean-kept}
use Rattle.placing.proofs.SourceLaws.{seen_parts, sees-before}
use Rattle.placing.proofs.FollowingLaws.{leaves-initial, returned-is}
use Rattle.order_facts.specs.Facts.{own_writer}
use Rattle.fact_rows.specs.FactRows.{mask, Facts, own_row}
use Rattle.fact_rows.specs.ValueRows.{Values, writer_row, initial_row}
use Rattle.order_test.specs.Testing.{Fitting}
use Rattle.order_test.proofs.TellLaws.{mask_is, mask-bit}
use Rattle.order_test.proofs.PassLaws.{entry-is, entry-event}
use Rattle.order_values.specs.Following.{LeftOf, ReadsBy}
use Rattle.order_values.specs.ByFacts.{last_left, place_of}
use Rattle.order_values.proofs.WordLaws.{all_first, order-events, place_is, writer-bit, initial-is, last-told}
use Rattle.order_values.proofs.AlikeLaws.{unwritten-returns, whole-alike, read_alike}

module _ (facts : List (List ℕ)) (left order : List ℕ) (len e : ℕ) where
  abbrev gmo : List ℕ
  gmo = take len order

  -- what holds of each table that has these facts, of which this is a clean order and e a reader
  abbrev Always : (Table → Type 0) → Type 0
  Always claim =
      (t : Table) → Facts t facts → is_order t gmo ≡ true → clean t gmo ≡ true → e < t.count → reads t e ≡ true → claim t

  -- r is what it returns in this one
  abbrev ReadsHere : ℕ → Type 0
  ReadsHere r =
      (t : Table) → Facts t facts → Values t facts → is_order t gmo ≡ true → clean t gmo ≡ true → LeftOf t gmo left →
      e < t.count → reads t e ≡ true → r ≡ returned_value t gmo e

  -- the entries from i on are neither e nor seen by it
  pub record Unseen (i : ℕ) : Type 0 where
    pub within : i ≤ len
    pub apart : has e (drop i gmo) ≡ false
    pub unseen : Always (λ t. Behind (visible t gmo e) initially order len i)

  module _ (fit : Fitting order len) where
    whole : len ≤ length order
    whole = omega (arith, fit.long, fit.within)

    long : length gmo ≡ len
    long = length-take-le len order whole

    -- what is told of the whole order its first len entries decide
    by_all : (r : ℕ) → ReadsHere r → ReadsBy facts left gmo e len r
    by_all r h t f v o c given l u other o' c' s =
        h t f v o c given l u
        ∙ ap (λ (p : List ℕ). returned_value t p e)
        (sym (whole-alike (clean-kept f.table o c) (clean-kept f.table o' c') len (omega (arith, long)) s))

    -- nothing writes its location: it returns the initial value in every order
    pub read-unwritten : (x : ℕ) → x ≡ place_of facts e → mask facts writer_row x ≡ 0 →
        ReadsBy facts left gmo e 0 (mask facts initial_row x)
    read-unwritten x p z t f v o c given l h other o' c' s =
        ap (mask facts initial_row) at ∙ initial-is f v (location t e) known
        ∙ sym (unwritten-returns (clean-kept f.table o' c') e l h (λ w n.
        sym (writer-bit f v (location t e) known w n)
        ∙ ap (λ (m : ℕ). bit m w) (ap (mask facts writer_row) (sym at) ∙ z) ∙ bit-zero w))
      where
        at : x ≡ location t e
        at = p ∙ place_is f v e l

        known : location t e < t.locations
        known = f.table.located e l

    pub read-start : Unseen len
    read-start = record {
      within = omega arith;
      apart = ap (has e) (drop_of_length-le gmo {i = len} (omega (arith, long)));
      unseen = λ t f o c l h. behind-start (visible t gmo e) initially order len;
    }

    -- A turn: entry j is the next towards the front.
    module _ (i : ℕ) (u : Unseen i) (pos : 0 < i) where
      abbrev j : ℕ
      j = i - 1

      abbrev w : ℕ
      w = get_or order j 0

      inside : j < len
      inside = omega (arith, u.within)

      next : suc j ≡ i
      next = omega arith

      few : j < length gmo
      few = omega (arith, long, inside)

      here : get_or gmo j 0 ≡ w
      here = entry-is facts order len fit j inside

      apart_more : eqb w e ≡ false → has e (drop j gmo) ≡ false
      apart_more n =
          ap (has e) (drop-cons gmo j 0 few)
          ∙ ap₂ (λ (a b : Bool). a || b) (ap (eqb e) here ∙ eqb_comm e w ∙ n)
          (ap (λ (k : ℕ). has e (drop k gmo)) next ∙ u.apart)

      -- it doesn't stand before e
      not-before : distinct gmo ≡ true → before gmo w e ≡ false
      not-before d =
          let q = split_at gmo j 0 few in
          ap (λ (v : ℕ). before gmo v e) (sym here)
          ∙ ap (λ (m : List ℕ). before m (get_or gmo j 0) e) q
          ∙ before_at (take j gmo) (drop (suc j) gmo) (get_or gmo j 0) e (sym (ap distinct q) ∙ d)
          ∙ ap (λ (k : ℕ). has e (drop k gmo)) next ∙ u.apart

      -- of the entries behind e only its own writers are seen
      own-seen : eqb w e ≡ false → Always (λ t. visible t gmo e w ≡ bit (mask facts own_row e) w)
      unfolding visible own own_writer
      own-seen n t f o c l h =
          let seen : visible t gmo e w ≡ own t e w =
          rw (n, not-before (clean-kept f.table o c).different)
          (ap (λ (b : Bool). b && po t w e) (and-true (writes t w && same_location t w e))) in
          seen
          ∙ sym (ap (λ (m : ℕ). bit m w) (mask_is f own_row (own_writer t) f.own e l)
          ∙ mask-bit t (own_writer t e) w (entry-event facts order len fit j inside t o)
          ∙ ap (λ (b : Bool). b && own t e w) h)

      pub read_more : eqb w e ≡ false → bit (mask facts own_row e) w ≡ false → Unseen j
      read_more n b = record {
        within = omega (arith, u.within);
        apart = apart_more n;
        unseen = λ t f o c l h.
            behind_more (visible t gmo e) initially order len i whole (u.unseen t f o c l h) pos (own-seen n t f o c l h ∙ b);
      }

      -- an own writer behind e: e returns from it
      hit-here : eqb w e ≡ false → bit (mask facts own_row e) w ≡ true → ReadsHere (get_or left w 0)
      unfolding return_of same_location
      hit-here n b t f v o c given l h =
          let s = own-seen n t f o c l h ∙ b in
          let parts = seen_parts (clean-kept f.table o c) e w s in
          given w (entry-event facts order len fit j inside t o) parts.0
          ∙ ap (λ (y : ℕ). leaves t gmo y w) (eqb-true _ _ parts.1)
          ∙ ap (leaves t gmo (location t e))
          (behind-hit (visible t gmo e) initially order len i whole (u.unseen t f o c l h) pos s)
          ∙ sym (returned-is t gmo e l h)

      pub read-hit : eqb w e ≡ false → bit (mask facts own_row e) w ≡ true → ReadsBy facts left gmo e len (get_or left w 0)
      read-hit n b = by_all (get_or left w 0) (hit-here n b)

      -- e itself: it returns from the last writer before it
      module _ (q : w ≡ e) where
        first : take j gmo ≡ take j order
        first = take-take j len order (omega (arith, inside))

        -- of the entries before e all writers to its location are seen
        all_seen : {t : Table} → Kept t gmo → (a : ℕ) → has a (take j order) ≡ true →
            visible t gmo e a ≡ (writes t a && eqb (location t a) (location t e))
        unfolding same_location
        all_seen {t} k a i =
            bool-ext _ _ (λ s. let p = seen_parts k e a s in and_both _ _ p.0 p.1)
            (λ s. sees-before k e a (and_l (writes t a) _ s) (and_r (writes t a) _ s)
            (ap (before gmo a) (sym (here ∙ q)) ∙ before-taken gmo j a k.different few ∙ ap (has a) first ∙ i))

        found-is : Always (λ t. return_of t gmo e ≡ last_write t (take j order) (location t e))
        unfolding return_of visible
        found-is t f o c l h =
            (behind_more (visible t gmo e) initially order len i whole (u.unseen t f o c l h) pos
            (ap (λ (b : Bool). b && (before gmo w e || po t w e))
            (and_right (writes t w && same_location t w e) _ (ap not (eq-eqb w e q))))).1
            ∙ last-same (λ a. has a (take j order)) (visible t gmo e) (λ a. writes t a && eqb (location t a) (location t e))
            initially (take j order) (has_all (λ a. has a (take j order)) (take j order) (λ a i. i))
            (all_seen (clean-kept f.table o c))

        pub read_found : (x r : ℕ) → x ≡ place_of facts e → r ≡ last_left facts left (take j order) x →
            ReadsBy facts left gmo e (j + 1) r
        read_found x r p s t f v o c given l h other o' c' a =
            s ∙ ap (last_left facts left (take j order)) (p ∙ place_is f v e l)
            ∙ last-told f v (location t e) (f.table.located e l) (take j order) events left (leaves t gmo (location t e))
            (leaves-initial t gmo (location t e)) (λ a i n m at. given a n m ∙ ap (λ (y : ℕ). leaves t gmo y a) at)
            ∙ ap (leaves t gmo (location t e)) (sym (found-is t f o c l h)) ∙ sym (returned-is t gmo e l h)
            ∙ sym (read_alike (clean-kept f.table o c) (clean-kept f.table o' c') (j + 1) (omega (arith, few)) a j (omega arith)
            e (here ∙ q) l h
            (found-is t f o c l h ∙ ap (λ (p : List ℕ). last_write t p (location t e)) (sym first)))
          where
            events : all (λ a. ltb a t.count) (take j order) ≡ true
            events =
                ap (all (λ a. ltb a t.count)) (sym first) ∙ all_first (λ a. ltb a t.count) gmo j (order-events t gmo o)

    none_here : (i : ℕ) → Unseen i → i ≤ 0 → (x : ℕ) → x ≡ place_of facts e → ReadsHere (mask facts initial_row x)
    unfolding return_of
    none_here i u z x p t f v o c given l h =
        ap (mask facts initial_row) (p ∙ place_is f v e l) ∙ initial-is f v (location t e) (f.table.located e l)
        ∙ sym (leaves-initial t gmo (location t e))
        ∙ ap (leaves t gmo (location t e)) (behind-end (visible t gmo e) initially order len i (u.unseen t f o c l h) z)
        ∙ sym (returned-is t gmo e l h)

    pub read_none : (i : ℕ) → Unseen i → i ≤ 0 → (x : ℕ) → x ≡ place_of facts e →
        ReadsBy facts left gmo e len (mask facts initial_row x)
    read_none i u z x p = by_all (mask facts initial_row x) (none_here i u z x p)
