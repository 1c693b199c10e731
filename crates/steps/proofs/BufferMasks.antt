-- What the mask of the buffered stores tells of a reader, and what each step makes of it.
use Prim.Native.Nat.{ℕ, ◌^◌, ◌≤◌, ◌<◌}
use native.Mathlib.Omega.{arith}
use mathlib.Core.Path.{◌≡◌, refl, sym, ap, ap₂, subst, ◌∙◌}
use mathlib.Core.List.{List}
use mathlib.Core.Bool.{Bool, true, false, cond, not, ◌&&◌, ◌||◌, and-true, and-false, or-false}
use lib.ListN.{get_or}
use lib.Bits.{bit_and, bit_or, bit_xor}
use lib.Dec.{eqb, ltb}
use borrow.Author.Tests.{eqb-true, eq-eqb, lt-ltb}
use Rattle.std.specs.Prelude.{Some, None}
use Rattle.lists.specs.Below.{below}
use Rattle.lists.specs.Lists.{has, last_or}
use Rattle.lists.proofs.BoolLaws.{and-within, is_false, not-either, eqb_comm}
use Rattle.lists.proofs.SomeLaws.{some_same}
use Rattle.lists.proofs.PaddedLaws.{padded-at}
use Rattle.masks.specs.Bit.{bit}
use Rattle.masks.specs.Parts.{highest}
use Rattle.masks.proofs.BitLaws.{bit-and, bit-or, bit-pow}
use Rattle.masks.proofs.MaskOfLaws.{mask_below}
use Rattle.masks.proofs.BelowLaws.{mask-meets}
use Rattle.masks.proofs.GatherLaws.{bit-if}
use Rattle.masks.proofs.HighestLaws.{mask-none-last, mask-last}
use Rattle.masks.proofs.SetLaws.{bit-without, marks-set, set_is, set_same, set-within}
use Rattle.table.specs.declared.Table.{Table}
use Rattle.table.specs.Events.{event, kind, hart, location, reads, writes, memory, same_location, sc}
use Rattle.table.specs.Annotations.{address_depends, data_depends}
use Rattle.table.specs.Counts.{Small}
use Rattle.model.specs.Rules.{static_ppo}
use Rattle.placing.specs.Guards.{depends}
use Rattle.successors.specs.CleanMasks.{slots}
use Rattle.event_sets.specs.declared.Sets.{Sets}
use Rattle.event_sets.specs.Sets.{set_of, location_set, sets_of}
use Rattle.event_sets.proofs.SetsLaws.{set-has, hart-at, location-at}
use Rattle.precedence.specs.Precedence.{predecessor_mask, predecessor_masks}
use Rattle.machine.specs.Machine.{State, buffered, waits, forwards, newest, unsure, enter, perform, drain}
use Rattle.machine.proofs.TsoLaws.{TsoTable}
use Rattle.steps.specs.Steps.{IsNewest}
use Rattle.machine.proofs.StateLaws.{Reached, Next, stores, stores-is, store-reads, buffered-is, next-away}
use Rattle.machine.proofs.BufferLaws.{enter-other, drain-other, perform-other, enter-own, drain-own}

-- the events that address and data masks name together
names : (t : Table) (w a : ℕ) → bit (bit_or (event t w).addr (event t w).«data») a ≡ depends t w a
unfolding depends address_depends data_depends
names t w a = bit-or (event t w).addr (event t w).«data» a

-- of what doesn't read, a store or SC is what writes
store_is : (t : Table) (e : ℕ) → reads t e ≡ false → stores t e ≡ writes t e
unfolding memory
store_is t e h = stores-is t e ∙ rw h (and-true (writes t e))

-- the row of an event
pub pred-at : (t : Table) (rows : List ℕ) (r : ℕ) → rows ≡ predecessor_masks t → t.count < slots → r < t.count →
    get_or rows r 0 ≡ predecessor_mask t r
unfolding predecessor_masks
pred-at t rows r e room l =
    ap (λ (x : List ℕ). get_or x r 0) e ∙ padded-at (predecessor_mask t) slots t.count r (omega arith) l

module _ (t : Table) (s : State) (held : ℕ) (q : held ≡ set_of t (buffered t s)) where
  -- "no store in its hart's buffer precedes it by a steady rule"
  pub waits-is : (r p : ℕ) → p ≡ predecessor_mask t r → waits t s r ≡ not (eqb (bit_and held p) 0)
  unfolding waits predecessor_mask
  waits-is r p e =
      some_same t.count (λ a. buffered t s a && static_ppo t a r) (λ a. buffered t s a && bit p a)
      (λ a l. ap (λ (b : Bool). buffered t s a && b) (sym (set-has t (λ x. static_ppo t x r) p a e l)))
      ∙ mask-meets (buffered t s) t.count p
      ∙ ap (λ (m : ℕ). not (eqb (bit_and m p) 0)) (sym q)

  -- a buffered store that a mask names is an SC
  pub unsure-is : TsoTable t → (w : ℕ) → w < t.count →
      unsure t s w ≡ (eqb (kind t w) sc || not (eqb (bit_and held (bit_or (event t w).addr (event t w).«data»)) 0))
  unfolding unsure
  unsure-is k w l =
      ap (λ (b : Bool). eqb (kind t w) sc || b)
      (some_same t.count (λ a. buffered t s a && eqb (kind t a) sc && depends t w a) (λ a. buffered t s a && bit named a)
      (λ a i. go a i (depends t w a) refl)
      ∙ mask-meets (buffered t s) t.count named
      ∙ ap (λ (m : ℕ). not (eqb (bit_and m named) 0)) (sym q))
    where
      named : ℕ
      named = bit_or (event t w).addr (event t w).«data»

      go : (a : ℕ) → a < t.count → (d : Bool) → depends t w a ≡ d →
          (buffered t s a && eqb (kind t a) sc && d) ≡ (buffered t s a && bit named a)
      go a i true h =
          and-true (buffered t s a && eqb (kind t a) sc)
          ∙ and-within (buffered t s a) (eqb (kind t a) sc) (λ b. rw (k.plain w a l i h) at (buffered-is t s a b).stored)
          ∙ sym (ap (λ (x : Bool). buffered t s a && x) (names t w a ∙ h) ∙ and-true (buffered t s a))
      go a i false h =
          and-false (buffered t s a && eqb (kind t a) sc)
          ∙ sym (ap (λ (x : Bool). buffered t s a && x) (names t w a ∙ h) ∙ and-false (buffered t s a))

  -- the buffered stores that a reader would be forwarded from
  pub own_is : (v : Sets) → v ≡ sets_of t → Small t → (r : ℕ) → r < t.count →
      bit_and (bit_and held (get_or v.harts (hart t r) 0)) (get_or v.locations (location t r) 0) ≡ set_of t (forwards t s r)
  unfolding forwards same_location
  own_is v e small r l =
      ap (λ (m : ℕ). bit_and (bit_and m (get_or v.harts (hart t r) 0)) (get_or v.locations (location t r) 0)) q
      ∙ ap₂ (λ (x y : ℕ). bit_and (bit_and (set_of t (buffered t s)) x) y) (hart-at t v e (hart t r) (small.each-hart r l))
      (location-at t v e (location t r) (small.each-location r l))
      ∙ ap (λ (m : ℕ). bit_and m (location_set t (location t r)))
      (set-within t.count (buffered t s) (marks-set t.count (λ w. eqb (hart t w) (hart t r))))
      ∙ set-within t.count (λ w. buffered t s w && eqb (hart t w) (hart t r))
      (marks-set t.count (λ w. eqb (location t w) (location t r)))

  -- the newest of them
  pub newest-none : (r own : ℕ) → own ≡ set_of t (forwards t s r) → own ≡ 0 → IsNewest t s r None
  unfolding newest
  newest-none r own e z l = absurd (omega (arith, mask-none-last (forwards t s r) t.count (sym e ∙ z), l))

  pub newest-some : (r own w : ℕ) → own ≡ set_of t (forwards t s r) → t.count ≤ 32 → (own ≡ 0 → ⊥) → w ≡ highest own →
      IsNewest t s r (Some (record { 0 = w }))
  unfolding newest
  newest-some r own w e l n q = (omega (arith, top.0, top.1), ap (λ (i : ℕ). record { 0 = i }) (q ∙ ap highest e ∙ sym top.0))
    where
      top : (last_or (forwards t s r) t.count (below t.count) ≡ highest (set_of t (forwards t s r)))
          × (highest (set_of t (forwards t s r)) < t.count)
      top = mask-last (forwards t s r) t.count l (λ z. n (e ∙ z))

-- where a mask meets a set of the table's events, the highest that is in both is one of them
inside-set : (t : Table) (f : ℕ → Bool) (m : ℕ) → t.count ≤ 32 → ¬ (bit_and m (set_of t f) ≡ 0) → highest (bit_and m (set_of t f)) < t.count
inside-set t f m l n = rw both (mask-last (λ k. bit m k && f k) t.count l (λ z. n (both ∙ z))).1
  where
    order : (x y z : Bool) → (x && (y && z)) ≡ (y && (x && z))
    order true y z = refl
    order false true z = refl
    order false false z = refl

    both : bit_and m (set_of t f) ≡ set_of t (λ k. bit m k && f k)
    both =
        set_is t.count (bit_and m (set_of t f)) (λ k. bit m k && f k)
        (λ k. bit-and m (set_of t f) k ∙ ap (λ (b : Bool). bit m k && b) (mask_below f t.count k) ∙ order (bit m k) (ltb k t.count) (f k))

pub newest-inside : (t : Table) (v : Sets) → v ≡ sets_of t → Small t → (r : ℕ) → r < t.count → (m : ℕ) →
    ¬ (bit_and m (get_or v.locations (location t r) 0) ≡ 0) → highest (bit_and m (get_or v.locations (location t r) 0)) < t.count
newest-inside t v e small r l m =
    subst (λ (x : ℕ). ¬ (bit_and m x ≡ 0) → highest (bit_and m x) < t.count)
    (sym (location-at t v e (location t r) (small.each-location r l)))
    (inside-set t (λ w. eqb (location t w) (location t r)) m (omega (arith, small.events)))

module _ (t : Table) (s : State) (e : ℕ) where
  -- a store enters its buffer
  pub held-enter : Reached t s → Next t s e → reads t e ≡ false → (held b m : ℕ) → held ≡ set_of t (buffered t s) → b ≡ 2 ^ e →
      m ≡ cond (writes t e) b 0 → bit_or held m ≡ set_of t (buffered t (enter s e))
  held-enter r n h held b m q p g =
      set_is t.count (bit_or held m) (buffered t (enter s e)) (λ k.
      bit-or held m k
      ∙ ap₂ (λ (x y : Bool). x || y) (ap (λ (x : ℕ). bit x k) q ∙ mask_below (buffered t s) t.count k)
      (ap (λ (x : ℕ). bit x k) (g ∙ ap (λ (x : ℕ). cond (writes t e) x 0) p) ∙ bit-if (writes t e) e k)
      ∙ go k (eqb k e) refl)
    where
      was : buffered t s e ≡ false
      was = is_false _ (λ x. not-either _ (buffered-is t s e x).issued n.new)

      enters : buffered t (enter s e) e ≡ writes t e
      enters = enter-own t s e (next-away t s r e n) ∙ store_is t e h

      go : (k : ℕ) (d : Bool) → eqb k e ≡ d →
          (ltb k t.count && buffered t s k || writes t e && eqb e k) ≡ (ltb k t.count && buffered t (enter s e) k)
      go k true x =
          subst (λ (j : ℕ). (ltb j t.count && buffered t s j || writes t e && eqb e j) ≡ (ltb j t.count && buffered t (enter s e) j))
          (sym (eqb-true k e x)) (rw (lt-ltb e t.count n.inside, was, eq-eqb e e refl, enters) (and-true (writes t e)))
      go k false x =
          rw (eqb_comm e k, x, and-false (writes t e), enter-other t s e k x) (or-false (ltb k t.count && buffered t s k))

  -- a reader changes no buffer
  pub held-perform : reads t e ≡ true → set_of t (buffered t s) ≡ set_of t (buffered t (perform t s e))
  held-perform h = set_same t.count (buffered t s) (buffered t (perform t s e)) (λ k l. go k (eqb k e) refl)
    where
      off : (u : State) → buffered t u e ≡ false
      off u = is_false _ (λ x. not-either _ h (store-reads t e (buffered-is t u e x).stored))

      go : (k : ℕ) (d : Bool) → eqb k e ≡ d → buffered t s k ≡ buffered t (perform t s e) k
      go k true x =
          let i : k ≡ e = eqb-true k e x in
          ap (buffered t s) i ∙ off s ∙ sym (ap (buffered t (perform t s e)) i ∙ off (perform t s e))
      go k false x = sym (perform-other t s e k x)

  -- a store leaves its buffer
  pub held-drain : (held b : ℕ) → held ≡ set_of t (buffered t s) → b ≡ 2 ^ e →
      bit_xor held (bit_and held b) ≡ set_of t (buffered t (drain s e))
  held-drain held b q p =
      set_is t.count (bit_xor held (bit_and held b)) (buffered t (drain s e)) (λ k.
      bit-without held b k
      ∙ ap₂ (λ (x y : Bool). x && not y) (ap (λ (x : ℕ). bit x k) q ∙ mask_below (buffered t s) t.count k)
      (ap (λ (x : ℕ). bit x k) p ∙ bit-pow e k ∙ eqb_comm e k)
      ∙ go k (eqb k e) refl)
    where
      go : (k : ℕ) (d : Bool) → eqb k e ≡ d →
          (ltb k t.count && buffered t s k && not d) ≡ (ltb k t.count && buffered t (drain s e) k)
      go k true x =
          and-false (ltb k t.count && buffered t s k)
          ∙ sym (ap (λ (b : Bool). ltb k t.count && b) (ap (buffered t (drain s e)) (eqb-true k e x) ∙ drain-own t s e)
          ∙ and-false (ltb k t.count))
      go k false x =
          and-true (ltb k t.count && buffered t s k)
          ∙ ap (λ (b : Bool). ltb k t.count && b) (sym (drain-other t s e k x))

  -- an event is issued
  pub left-issue : (left b : ℕ) → b ≡ 2 ^ e → (k : ℕ) → bit left k ≡ not (has k s.issued) →
      bit (bit_xor left (bit_and left b)) k ≡ not (eqb k e || has k s.issued)
  left-issue left b p k h =
      bit-without left b k
      ∙ ap₂ (λ (x y : Bool). x && not y) h (ap (λ (x : ℕ). bit x k) p ∙ bit-pow e k ∙ eqb_comm e k)
      ∙ go (has k s.issued) (eqb k e)
    where
      go : (x y : Bool) → (not x && not y) ≡ not (y || x)
      go true true = refl
      go true false = refl
      go false true = refl
      go false false = refl
