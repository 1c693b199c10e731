-- What a step makes of the masks and lists that tell a state.
use Prim.Native.Nat.{ℕ, ◌+◌, ◌^◌, ◌≤◌, ◌<◌}
use native.Mathlib.Omega.{arith}
use native.Mathlib.Numerals.{add-one}
use mathlib.Core.Path.{◌≡◌, refl, sym, ap, ap₂, ◌∙◌}
use mathlib.Core.Bool.{Bool, true, false, cond, not, ◌&&◌}
use mathlib.Core.List.{List, [], ◌∷◌, ◌++◌}
use lib.ListN.{length, take, set, length-set}
use lib.Seq.{length-take-le, take-suc-set, take-set-lt}
use lib.Bits.{bit_and, bit_or, bit_xor}
use lib.Dec.{eqb, ltb}
use borrow.Author.Tests.{lt-ltb, le-ltb}
use Rattle.std.specs.Prelude.{Option, Some, None}
use Rattle.lists.specs.Below.{lowest, some}
use Rattle.lists.specs.Lists.{has}
use Rattle.lists.proofs.SomeLaws.{lowest-same}
use Rattle.masks.specs.Bit.{bit}
use Rattle.table.specs.declared.EventNo.{EventNo}
use Rattle.table.specs.declared.Table.{Table}
use Rattle.table.specs.Events.{hart, reads, writes}
use Rattle.model.specs.Axioms.{breaks_pair}
use Rattle.event_sets.proofs.SetsLaws.{set-has}
use Rattle.machine.specs.Machine.{State, next, buffered, oldest, waits, unsure, may_issue, newest, returned, may_drain, enter, perform, drain}
use Rattle.machine.proofs.StateLaws.{Reached, Next}
use Rattle.steps.specs.declared.Done.{Done}
use Rattle.steps.specs.declared.Machine.{Machine}
use Rattle.steps.specs.Steps.{Made, Room, Holds, IsNewest, may_read, returned_by}
use Rattle.steps.proofs.BufferMasks.{held-enter, held-perform, held-drain, left-issue}

-- the first entries, of each event one; and one event more
pub rf-long : {d : Done} {order rf : List ℕ} (m : Machine) → Made m → Room d order rf → length (take m.table.count rf) ≡ m.table.count
rf-long {d} {order} {rf} m k room =
    length-take-le m.table.count rf (omega (arith, k.tso.good.small.events, room.each))

pub order-room : {d : Done} {order rf : List ℕ} (e : ℕ) → Room d order rf → d.len + 1 ≤ length (set order d.len e)
order-room {d} {order} e room = omega (arith, length-set order d.len e, room.more, room.long)

module _ (t : Table) (d : Done) (order rf : List ℕ) (s : State) (h : Holds t d order rf s) where
  -- the event that a hart issues, and the one that it drains
  pub left-next : (b : ℕ) → lowest t.count (λ e. eqb (hart t e) b && bit d.left e) ≡ next t s b
  unfolding next
  left-next b =
      lowest-same t.count (λ e. eqb (hart t e) b && bit d.left e) (λ e. eqb (hart t e) b && not (has e s.issued))
      (λ e l. ap (λ (x : Bool). eqb (hart t e) b && x) (h.left e l))

  pub held-oldest : (b : ℕ) → lowest t.count (λ e. eqb (hart t e) b && bit d.held e) ≡ oldest t s b
  unfolding oldest
  held-oldest b =
      lowest-same t.count (λ e. eqb (hart t e) b && bit d.held e) (λ e. eqb (hart t e) b && buffered t s e)
      (λ e l. ap (λ (x : Bool). eqb (hart t e) b && x) (set-has t (buffered t s) d.held e h.held l))

  -- what a reader returns, by the order so far
  pub returned-is : (e : ℕ) (w : Option EventNo) (v : ℕ) → IsNewest t s e w → v ≡ returned_by t (take d.len order) e w → v ≡ returned t s e
  unfolding returned
  returned-is e None v p q =
      rw (le-ltb (newest t s e) t.count (omega (arith, p))) (q ∙ ap (λ (l : List ℕ). returned_by t l e None) h.placed)
  returned-is e (Some w) v p q =
      rw (lt-ltb (newest t s e) t.count p.0) (q ∙ ap₂ (λ (l : List ℕ) (i : EventNo). returned_by t l e (Some i)) h.placed p.1)

  -- what is asked of it, by the newest store
  may-read-is : (e : ℕ) (w : Option EventNo) → IsNewest t s e w →
      may_read t s e w ≡ (not (waits t s e) && not (ltb (newest t s e) t.count && unsure t s (newest t s e)))
  may-read-is e None p = rw (le-ltb (newest t s e) t.count (omega (arith, p))) refl
  may-read-is e (Some w) p =
      rw (lt-ltb (newest t s e) t.count p.0) (ap (λ (i : EventNo). not (waits t s e) && not (unsure t s i.0)) p.1)

  module _ (room : Room d order rf) (e : ℕ) (inside : e < t.count) where
    -- the order with e
    pub order-more : take (d.len + 1) (set order d.len e) ≡ s.gmo ++ (e ∷ [])
    order-more =
        ap (λ (n : ℕ). take n (set order d.len e)) (add-one d.len)
        ∙ take-suc-set order d.len e (omega (arith, room.more, room.long))
        ∙ ap (λ (l : List ℕ). l ++ (e ∷ [])) h.placed

    -- a store enters, or a fence passes
    pub issue-enters : (left b m : ℕ) → Reached t s → Next t s e → reads t e ≡ false → b ≡ 2 ^ e →
        left ≡ bit_xor d.left (bit_and d.left b) → m ≡ cond (writes t e) b 0 →
        let after : Done = record { left = left; held = bit_or d.held m; len = d.len } in
        (may_issue t s e ≡ true) × (e ≡ e) × Holds t after order rf (cond (reads t e) (perform t s e) (enter s e))
    unfolding may_issue enter
    issue-enters left b m r n g p q v = rw g (refl, refl, entered)
      where
        entered : Holds t (record { left = left; held = bit_or d.held m; len = d.len }) order rf (enter s e)
        entered = record {
          left = λ k l. ap (λ (x : ℕ). bit x k) q ∙ left-issue t s e d.left b p k (h.left k l);
          held = held-enter t s e r n g d.held b m h.held p v;
          placed = h.placed;
          returned = h.returned;
        }

    -- a reader is performed
    pub issue-performs : (left b v : ℕ) (w : Option EventNo) → reads t e ≡ true → may_read t s e w ≡ true → IsNewest t s e w → b ≡ 2 ^ e →
        left ≡ bit_xor d.left (bit_and d.left b) → v ≡ returned t s e →
        let after : Done = record { left = left; held = d.held; len = d.len + 1 } in
        (may_issue t s e ≡ true) × (e ≡ e) × Holds t after (set order d.len e) (set rf e v) (cond (reads t e) (perform t s e) (enter s e))
    unfolding may_issue perform
    issue-performs left b v w g may x p q z = rw g (sym (may-read-is e w x) ∙ may, refl, performed)
      where
        performed : Holds t (record { left = left; held = d.held; len = d.len + 1 }) (set order d.len e) (set rf e v) (perform t s e)
        performed = record {
          left = λ k l. ap (λ (x : ℕ). bit x k) q ∙ left-issue t s e d.left b p k (h.left k l);
          held = h.held ∙ held-perform t s e g;
          placed = order-more;
          returned = take-set-lt t.count rf e v inside ∙ ap₂ (λ (l : List ℕ) (x : ℕ). set l e x) h.returned z;
        }

    -- or may not be
    pub issue-refused : (w : Option EventNo) → reads t e ≡ true → may_read t s e w ≡ false → IsNewest t s e w → may_issue t s e ≡ false
    unfolding may_issue
    issue-refused w g may x = rw g (sym (may-read-is e w x) ∙ may)

    -- a store drains, if atomicity allows it
    pub drain-asked : not (some t.count (λ l. breaks_pair t (take t.count rf) (take (d.len + 1) (set order d.len e)) l e))
        ≡ may_drain t s e
    unfolding may_drain
    drain-asked =
        ap₂ (λ (x y : List ℕ). not (some t.count (λ l. breaks_pair t x y l e))) h.returned order-more

    pub drain-holds : (held b : ℕ) → b ≡ 2 ^ e → held ≡ bit_xor d.held (bit_and d.held b) →
        Holds t (record { left = d.left; held = held; len = d.len + 1 }) (set order d.len e) rf (drain s e)
    unfolding drain
    drain-holds held b p q = record {
      left = h.left;
      held = q ∙ held-drain t s e d.held b h.held p;
      placed = order-more;
      returned = h.returned;
    }
