-- The mask of the events that may come next, kept as events are placed and taken back.
use Prim.Native.Nat.{ℕ, ◌^◌, ◌<◌}
use mathlib.Core.Path.{◌≡◌, refl, sym, ap, ap₂, ◌∙◌}
use mathlib.Core.Bool.{Bool, true, false, not, ◌&&◌, ◌||◌, xor, or-false, or-true, true≢false}
use mathlib.Core.List.{List}
use lib.ListN.{get_or}
use lib.Dec.{eqb}
use lib.Bits.{bit_and, bit_or, bit_xor}
use borrow.Author.Tests.{eqb-true, eq-eqb, not-true}
use Rattle.lists.proofs.BoolLaws.{and_l, and_r, bool-ext}
use Rattle.masks.specs.Bit.{bit}
use Rattle.masks.proofs.BitLaws.{bit-and, bit-or, bit-xor}
use Rattle.masks.proofs.PowerLaws.{lt-pow}
use Rattle.masks.proofs.SubsetLaws.{subset}
use Rattle.masks.proofs.WithinLaws.{bit_below}
use Rattle.successors.specs.CleanMasks.{limit, ready, may_follow}
use Rattle.successors.specs.Waiting.{Waiting, Prepared}
use Rattle.ready_events.specs.Current.{Current}
use Rattle.successors.proofs.SiftLaws.{bit-with, bit-flipped}
use Rattle.ready_events.proofs.CleanLaws.{event, fresh}

-- x is within m exactly when it is within m and e, and does not have e, where m has not
within-less : (x m e : ℕ) → bit m e ≡ false → eqb (bit_and x m) x ≡ (eqb (bit_and x (bit_or m (2 ^ e))) x && not (bit x e))
within-less x m e h =
    bool-ext (eqb (bit_and x m) x) (eqb (bit_and x more) x && not (bit x e))
    (λ q. let f = (subset x x m (lt-pow x)).0 (eqb-true (bit_and x m) x q) in
    ap₂ (λ (s t : Bool). s && not t) (eq-eqb (bit_and x more) x ((subset x x more (lt-pow x)).1 (grow f))) (lacks f (bit x e) refl))
    (λ q. eq-eqb (bit_and x m) x ((subset x x m (lt-pow x)).1
    (shrink ((subset x x more (lt-pow x)).0 (eqb-true (bit_and x more) x (and_l (eqb (bit_and x more) x) (not (bit x e)) q)))
    (not-true (bit x e) (and_r (eqb (bit_and x more) x) (not (bit x e)) q)))))
  where
    more : ℕ
    more = bit_or m (2 ^ e)

    grow : ((k : ℕ) → bit x k ≡ true → bit m k ≡ true) → (k : ℕ) → bit x k ≡ true → bit more k ≡ true
    grow f k i = bit-or m (2 ^ e) k ∙ ap (λ (t : Bool). t || bit (2 ^ e) k) (f k i)

    lacks : ((k : ℕ) → bit x k ≡ true → bit m k ≡ true) → (t : Bool) → bit x e ≡ t → t ≡ false
    lacks f true i = sym (f e i) ∙ h
    lacks f false i = refl

    other : (k : ℕ) → bit x e ≡ false → bit x k ≡ true → (t : Bool) → eqb e k ≡ t → (bit m k || t) ≡ true → bit m k ≡ true
    other k n i true q j = absurd (true≢false (sym i ∙ ap (bit x) (sym (eqb-true e k q)) ∙ n))
    other k n i false q j = sym (or-false (bit m k)) ∙ j

    shrink : ((k : ℕ) → bit x k ≡ true → bit more k ≡ true) → bit x e ≡ false → (k : ℕ) → bit x k ≡ true → bit m k ≡ true
    shrink f n k i = other k n i (eqb e k) refl (sym (bit-with m e (2 ^ e) k refl) ∙ f k i)

-- Of an event that is not e: m, it is an event; p, it was placed before; w, it is ready with e placed; d, it waits for e.
-- It may come next after e is placed ..
placed-other : (m p w d : Bool) →
    (xor (m && not p && (w && not d)) false || (m && d && xor m (m && (p || false)) && w)) ≡ (m && not (p || false) && w)
unfolding xor
placed-other false p w d = refl
placed-other true true w true = refl
placed-other true true w false = refl
placed-other true false true true = refl
placed-other true false true false = refl
placed-other true false false true = refl
placed-other true false false false = refl

-- .. and before it was
back-other : (m p w d : Bool) →
    (xor (m && not (p || false) && w) (m && not (p || false) && w && (m && d)) || false) ≡ (m && not p && (w && not d))
unfolding xor
back-other false p w d = refl
back-other true true w d = refl
back-other true false true true = refl
back-other true false true false = refl
back-other true false false d = refl

-- e itself may not come next once it is placed
placed_same : (m p w d : Bool) → (xor true true || (m && d && xor m (m && (p || true)) && w)) ≡ (m && not (p || true) && w)
unfolding xor
placed_same false p w d = refl
placed_same true true w true = refl
placed_same true true w false = refl
placed_same true false w true = refl
placed_same true false w false = refl

module _ (preds : List ℕ) (mem : ℕ) where
  -- before e was placed were ready those that are now and do not wait for e
  ready-less : (placed e k : ℕ) → bit placed e ≡ false →
      ready preds placed k ≡ (ready preds (bit_or placed (2 ^ e)) k && not (bit (get_or preds k 0) e))
  unfolding ready
  ready-less placed e k h = within-less (get_or preds k 0) placed e h

  -- the mask after e is placed: without e, and with those that wait for it, are not placed and now are ready
  pub place-current : (placed can e b now waits found : ℕ) → Current preds mem placed can → bit can e ≡ true → Waiting preds mem e waits →
      b ≡ 2 ^ e → now ≡ bit_or placed b →
      ((k : ℕ) → bit found k ≡ (bit (bit_and waits (bit_xor mem (bit_and mem now))) k && ready preds now k)) →
      Current preds mem now (bit_or (bit_xor can b) found)
  place-current placed can e b now waits found s h t p q f k =
      bit-or (bit_xor can b) found k
      ∙ ap₂ (λ (x y : Bool). x || y) (bit-flipped can e b k p) (f k ∙ ap (λ (x : Bool). x && w) rest)
      ∙ go (eqb e k) refl
      ∙ sym (ap (λ (n : Bool). bit mem k && not n && w) placed_now)
    where
      w : Bool
      w = ready preds now k

      d : Bool
      d = bit (get_or preds k 0) e

      placed_now : bit now k ≡ (bit placed k || eqb e k)
      placed_now = ap (λ (x : ℕ). bit x k) q ∙ bit-with placed e b k p

      rest : bit (bit_and waits (bit_xor mem (bit_and mem now))) k
          ≡ (bit mem k && d && xor (bit mem k) (bit mem k && (bit placed k || eqb e k)))
      rest =
          bit-and waits (bit_xor mem (bit_and mem now)) k
          ∙ ap₂ (λ (x y : Bool). x && y) (t k)
          (bit-xor mem (bit_and mem now) k ∙ ap (xor (bit mem k)) (bit-and mem now k ∙ ap (λ (n : Bool). bit mem k && n) placed_now))

      before : ready preds placed k ≡ (w && not d)
      before =
          ready-less placed e k (fresh preds mem placed e (sym (s e) ∙ h))
          ∙ ap (λ (x : ℕ). ready preds x k && not d) (sym (q ∙ ap (bit_or placed) p))

      go : (x : Bool) → eqb e k ≡ x →
          (xor (bit can k) x || (bit mem k && d && xor (bit mem k) (bit mem k && (bit placed k || x)) && w))
          ≡ (bit mem k && not (bit placed k || x) && w)
      go true i =
          ap (λ (c : Bool). xor c true || (bit mem k && d && xor (bit mem k) (bit mem k && (bit placed k || true)) && w))
          (ap (bit can) (sym (eqb-true e k i)) ∙ h)
          ∙ placed_same (bit mem k) (bit placed k) w d
      go false i =
          ap (λ (c : Bool). xor c false || (bit mem k && d && xor (bit mem k) (bit mem k && (bit placed k || false)) && w))
          (s k ∙ ap (λ (r : Bool). bit mem k && not (bit placed k) && r) before)
          ∙ placed-other (bit mem k) (bit placed k) w d

  -- the mask after e, the last that was placed, is taken back: without those that wait for it, and with e
  pub back-current : (placed can e waits : ℕ) → Current preds mem (bit_or placed (2 ^ e)) can → may_follow preds mem placed e ≡ true →
      Waiting preds mem e waits → Current preds mem placed (bit_or (bit_xor can (bit_and can waits)) (2 ^ e))
  back-current placed can e waits s h t k =
      bit-with (bit_xor can (bit_and can waits)) e (2 ^ e) k refl
      ∙ ap (λ (x : Bool). x || eqb e k) (bit-xor can (bit_and can waits) k ∙ ap (xor (bit can k)) (bit-and can waits k))
      ∙ go (eqb e k) refl
    where
      w : Bool
      w = ready preds (bit_or placed (2 ^ e)) k

      d : Bool
      d = bit (get_or preds k 0) e

      can_now : bit can k ≡ (bit mem k && not (bit placed k || eqb e k) && w)
      can_now = s k ∙ ap (λ (n : Bool). bit mem k && not n && w) (bit-with placed e (2 ^ e) k refl)

      before : may_follow preds mem placed k ≡ (bit mem k && not (bit placed k) && (w && not d))
      before = ap (λ (r : Bool). bit mem k && not (bit placed k) && r) (ready-less placed e k (fresh preds mem placed e h))

      go : (x : Bool) → eqb e k ≡ x → (xor (bit can k) (bit can k && bit waits k) || x) ≡ may_follow preds mem placed k
      go true i = or-true (xor (bit can k) (bit can k && bit waits k)) ∙ sym h ∙ ap (may_follow preds mem placed) (eqb-true e k i)
      go false i =
          ap₂ (λ (c v : Bool). xor c (c && v) || false) (can_now ∙ ap (λ (x : Bool). bit mem k && not (bit placed k || x) && w) i) (t k)
          ∙ back-other (bit mem k) (bit placed k) w d ∙ sym before

module _ {preds succs : List ℕ} {mem : ℕ} (tables : Prepared preds succs mem) where
  -- what may come next is an event
  pub can-below : (placed can e : ℕ) → Current preds mem placed can → bit can e ≡ true → e < limit
  can-below placed can e s h = bit_below limit mem e tables.small (event preds mem placed e (sym (s e) ∙ h))
