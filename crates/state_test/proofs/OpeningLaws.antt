-- Unions of the rows of masks, and the events that would open a window.
use Prim.Native.Nat.{ℕ, ◌<◌}
use native.Mathlib.Omega.{arith}
use mathlib.Core.Path.{◌≡◌, refl, sym, ap, ◌∙◌}
use mathlib.Core.Bool.{Bool, true, false, not, ◌&&◌, ◌||◌, or-true, and_comm, and_assoc}
use mathlib.Core.List.{List}
use lib.Dec.{ltb}
use borrow.Author.Tests.{lt-ltb, ltb-true}
use Rattle.lists.specs.Below.{some}
use Rattle.lists.proofs.BoolLaws.{and_l, and_r, and_both, bool-ext}
use Rattle.lists.proofs.SomeLaws.{some_at, some-found, some_same}
use Rattle.masks.specs.Bit.{bit}
use Rattle.masks.proofs.MaskOfLaws.{mask_below}
use Rattle.masks.proofs.SetLaws.{bit-without, set_is}
use Rattle.table.specs.declared.Table.{Table}
use Rattle.table.specs.Events.{capacity, reads, writes, memory, memory_events, memory_mask}
use Rattle.order_facts.specs.Facts.{mask_by, opens, guards}
use Rattle.order_facts.proofs.RowLaws.{bits_of}
use Rattle.fact_rows.specs.FactRows.{row, mask, masks_by, Facts, window_row, guard_row}
use Rattle.order_test.proofs.TellLaws.{mask_is}
use Rattle.states.specs.States.{without}
use Rattle.states.specs.Choices.{watched}
use Rattle.state_test.specs.Board.{Board, Union, kind_row, memory_word}
use Rattle.state_test.proofs.DisturbLaws.{room}

module _ {t : Table} {facts : List (List ℕ)} (f : Facts t facts) where
  -- the union of a row's masks for the events that pass p
  pub union-is : (k : ℕ) (g : ℕ → ℕ → Bool) (p : ℕ → Bool) (m r : ℕ) → row facts k ≡ masks_by t g → Union (mask facts k) m r →
      ((e : ℕ) → bit m e ≡ (ltb e t.count && p e)) →
      (j : ℕ) → bit r j ≡ (ltb j t.count && some t.count (λ e. p e && g e j))
  union-is k g p m r q u h j = u j ∙ bool-ext _ _ there back
    where
      n : ℕ
      n = t.count

      bits : (e : ℕ) → e < n → bit (mask facts k e) j ≡ (ltb j n && g e j)
      bits e l = ap (λ (x : ℕ). bit x j) (mask_is f k g q e l) ∙ bits_of t (g e) j

      there : some capacity (λ e. bit m e && bit (mask facts k e) j) ≡ true →
          (ltb j n && some n (λ e. p e && g e j)) ≡ true
      there s =
          let o = some-found capacity (λ e. bit m e && bit (mask facts k e) j) s in
          let e = o.0 in
          let i : (ltb e n && p e) ≡ true = sym (h e) ∙ and_l _ (bit (mask facts k e) j) o.2 in
          let l : e < n = ltb-true e n (and_l _ (p e) i) in
          let c : (ltb j n && g e j) ≡ true = sym (bits e l) ∙ and_r (bit m e) _ o.2 in
          and_both (ltb j n) (some n (λ x. p x && g x j)) (and_l _ (g e j) c)
          (some_at n (λ x. p x && g x j) e l (and_both (p e) (g e j) (and_r (ltb e n) _ i) (and_r (ltb j n) _ c)))

      back : (ltb j n && some n (λ e. p e && g e j)) ≡ true →
          some capacity (λ e. bit m e && bit (mask facts k e) j) ≡ true
      back s =
          let o = some-found n (λ x. p x && g x j) (and_r (ltb j n) _ s) in
          let e = o.0 in
          some_at capacity (λ e. bit m e && bit (mask facts k e) j) e (omega (arith, o.1, room f))
          (and_both (bit m e) (bit (mask facts k e) j) (h e ∙ rw (lt-ltb e n o.1) (and_l (p e) _ o.2))
          (bits e o.1 ∙ and_both (ltb j n) (g e j) (and_l _ (some n (λ x. p x && g x j)) s) (and_r (p e) _ o.2)))

module _ {t : Table} {facts ties : List (List ℕ)} (b : Board t facts ties) (placed : ℕ) where
  abbrev late : ℕ → Bool
  late w = not (bit placed w)

  -- the memory events that aren't placed
  pub memory-late : (m : ℕ) → m ≡ without (mask ties kind_row memory_word) placed →
      (e : ℕ) → bit m e ≡ (ltb e t.count && (memory t e && late e))
  unfolding memory_mask memory_events
  memory-late m q e =
      ap (λ (x : ℕ). bit x e) (q ∙ ap (λ (x : ℕ). without x placed) b.memory) ∙ bit-without (memory_mask t) placed e
      ∙ ap (λ (x : Bool). x && late e) (mask_below (memory t) t.count e) ∙ and_assoc (ltb e t.count) (memory t e) (late e)

  -- what guards a location against a writer guards it against a memory event
  guarding : (w v : ℕ) → (memory t w && late w && guards t w v) ≡ (late w && guards t w v)
  unfolding memory guards
  guarding w v = go (writes t w) refl
    where
      go : (x : Bool) → writes t w ≡ x → (memory t w && late w && guards t w v) ≡ (late w && guards t w v)
      go true h = rw (h, or-true (reads t w))
      go false h = rw h (sym (and_none (reads t w) (late w)))
        where
          and_none : (x y : Bool) → (y && false) ≡ ((x || false) && y && false)
          and_none true y = refl
          and_none false true = refl
          and_none false false = refl

  -- the guards that a writer may meet
  watched-bits : (m g u : ℕ) → m ≡ without (mask ties kind_row memory_word) placed → Union (mask facts guard_row) m g →
      u ≡ without g placed → (v : ℕ) → bit u v ≡ (ltb v t.count && watched t (bit placed) v)
  unfolding watched
  watched-bits m g u q h p v =
      ap (λ (x : ℕ). bit x v) p ∙ bit-without g placed v
      ∙ ap (λ (x : Bool). x && late v)
      (union-is b.known guard_row (guards t) (λ w. memory t w && late w) m g b.known.guards h (memory-late m q) v
      ∙ ap (λ (x : Bool). ltb v t.count && x)
      (some_same t.count (λ w. memory t w && late w && guards t w v) (λ w. late w && guards t w v) (λ w i. guarding w v)))
      ∙ and_assoc (ltb v t.count) (some t.count (λ w. late w && guards t w v)) (late v)
      ∙ ap (λ (x : Bool). ltb v t.count && x) (and_comm (some t.count (λ w. late w && guards t w v)) (late v))

  pub opening-is : (m g u r : ℕ) → m ≡ without (mask ties kind_row memory_word) placed → Union (mask facts guard_row) m g →
      u ≡ without g placed → Union (mask facts window_row) u r →
      r ≡ mask_by t (λ e. some t.count (λ v. watched t (bit placed) v && opens t v e))
  unfolding mask_by
  opening-is m g u r q h p k =
      set_is t.count r (λ e. some t.count (λ v. watched t (bit placed) v && opens t v e))
      (union-is b.known window_row (opens t) (watched t (bit placed)) u r b.known.windows k (watched-bits m g u q h p))
