-- The engine's clean prefixes over the masks of a table are the model's; and a witness is a whole order.
use Prim.Native.Nat.{ℕ, ◌<◌}
use native.Mathlib.Omega.{arith}
use mathlib.Core.Path.{◌≡◌, refl, sym, ap, ap₂, ◌∙◌, subst}
use mathlib.Core.Bool.{Bool, true, false, not, ◌&&◌, ◌||◌, and-false, true≢false}
use mathlib.Core.List.{List, [], ◌∷◌, ◌++◌, append-nil, append_assoc}
use mathlib.Core.Logic.{◌↔◌}
use lib.ListN.{length, get_or}
use lib.Dec.{eqb, ltb}
use lib.Bits.{bit_and}
use borrow.Author.Tests.{ltb-true, eqb-true, eq-eqb, ne_eqb, not-true}
use Rattle.lists.specs.Below.{below, every}
use Rattle.lists.specs.Lists.{all, has, keep, count, distinct, before}
use Rattle.lists.proofs.BoolLaws.{and_l, and_r}
use Rattle.lists.proofs.ListLaws.{all-has, all-last}
use Rattle.lists.proofs.MemberLaws.{has_all, all_same}
use Rattle.lists.proofs.DistinctLaws.{before-left, before_last, distinct-last, distinct-count, counted_has, distinct-once, pigeonhole}
use Rattle.lists.proofs.SomeLaws.{some_same}
use Rattle.lists.proofs.TakeLaws.{kept-every}
use Rattle.lists.proofs.PaddedLaws.{padded-at}
use Rattle.masks.specs.Bit.{bit}
use Rattle.masks.specs.MaskOf.{mask_of}
use Rattle.masks.proofs.MaskOfLaws.{mask-has, mask-subset}
use Rattle.table.specs.declared.Table.{Table}
use Rattle.table.specs.Events.{memory, memory_events, memory_count, memory_mask}
use Rattle.table.proofs.MemoryLaws.{memory-has, memory-distinct, memory-mask-ones}
use Rattle.model.specs.Rules.{static_ppo}
use Rattle.model.specs.Witness.{is_memory_event, is_order, lawful, witness_for}
use Rattle.model.specs.Prefixes.{is_prefix, predecessors_listed, clean}
use Rattle.successors.specs.CleanMasks.{slots, ready, may_follow, clean_from, clean_by}
use Rattle.ready_events.proofs.CleanLaws.{clean-snoc}
use Rattle.engine.proofs.EngineLaws.{whole}
use Rattle.precedence.specs.Precedence.{predecessor_mask, predecessor_masks}

-- the tests of a list with one more entry are those of the list and those of the entry; where n holds, l is k, which does not see the entry
regroup : (e x d n l k m : Bool) → (n ≡ true → l ≡ k) → ((e && x) && (d && n) && (l && m)) ≡ ((e && d && k) && (x && n && m))
regroup false x d n l k m h = refl
regroup true false d n l k m h = sym (and-false (d && k))
regroup true true false n l k m h = refl
regroup true true true false l k m h = sym (and-false k)
regroup true true true true l k m h = ap (λ (b : Bool). b && m) (h refl)

module _ (t : Table) where
  -- the list of memory events has each
  listed-memory : (e : ℕ) → has e (memory_events t) ≡ is_memory_event t e
  unfolding is_memory_event
  listed-memory e = memory-has t e

  -- and so has their mask
  memory-bit : (e : ℕ) → bit (memory_mask t) e ≡ is_memory_event t e
  unfolding memory_mask
  memory-bit e = mask-has (memory_events t) e ∙ listed-memory e

  event-below : (e : ℕ) → is_memory_event t e ≡ true → e < t.count
  unfolding is_memory_event
  event-below e h = ltb-true e t.count (and_l (ltb e t.count) (memory t e) h)

  -- every steady predecessor of e passes f
  abbrev each : (ℕ → Bool) → ℕ → Bool
  each f e = every t.count (λ a. not (static_ppo t a e) || f a)

  each_same : (f g : ℕ → Bool) (e : ℕ) → ((a : ℕ) → f a ≡ g a) → each f e ≡ each g e
  each_same f g e h =
      ap not (some_same t.count (λ a. not (not (static_ppo t a e) || f a)) (λ a. not (not (static_ppo t a e) || g a))
      (λ a l. ap (λ (b : Bool). not (not (static_ppo t a e) || b)) (h a)))

  -- e may stand behind p: a memory event that is not listed, and every steady predecessor is
  abbrev follows : List ℕ → ℕ → Bool
  follows p e = is_memory_event t e && not (has e p) && each (λ a. has a p) e

  -- before the last entry stand those that are listed before
  last-listed : (p : List ℕ) (x : ℕ) → predecessors_listed t (p ++ (x ∷ [])) x ≡ each (λ a. has a p) x
  unfolding predecessors_listed
  last-listed p x = each_same (λ a. before (p ++ (x ∷ [])) a x) (λ a. has a p) x (λ a. before_last p a x)

  -- for the other entries one more behind them, which is none of them, changes nothing
  first-listed : (p : List ℕ) (x : ℕ) → has x p ≡ false → all (predecessors_listed t (p ++ (x ∷ []))) p ≡ all (predecessors_listed t p) p
  unfolding predecessors_listed
  first-listed p x h =
      all_same (predecessors_listed t (p ++ (x ∷ []))) (predecessors_listed t p) p
      (λ e m. each_same (λ a. before (p ++ (x ∷ [])) a e) (λ a. before p a e) e (λ a. before-left p (x ∷ []) a e (other e m)))
    where
      other : (e : ℕ) → has e p ≡ true → has e (x ∷ []) ≡ false
      other e m = rw (ne_eqb e x (λ q. true≢false (sym m ∙ ap (λ (z : ℕ). has z p) q ∙ h)))

  -- one more entry: it may stand behind the others
  clean-last : (p : List ℕ) (x : ℕ) → clean t (p ++ (x ∷ [])) ≡ (clean t p && follows p x)
  unfolding clean is_prefix
  clean-last p x =
      rw (all-last (is_memory_event t) p x, distinct-last p x, all-last (predecessors_listed t (p ++ (x ∷ []))) p x, last-listed p x)
      (regroup (all (is_memory_event t) p) (is_memory_event t x) (distinct p) (not (has x p))
      (all (predecessors_listed t (p ++ (x ∷ []))) p) (all (predecessors_listed t p) p) (each (λ a. has a p) x)
      (λ n. first-listed p x (not-true (has x p) n)))

  -- a clean prefix has memory events only, and none twice
  clean-events : (p : List ℕ) → clean t p ≡ true → all (is_memory_event t) p ≡ true
  unfolding clean is_prefix
  clean-events p h = search (and_l, and_r)

  clean-distinct : (p : List ℕ) → clean t p ≡ true → distinct p ≡ true
  unfolding clean is_prefix
  clean-distinct p h = search (and_l, and_r)

  -- an order has memory events only, and each once
  order-parts : (p : List ℕ) → is_order t p ≡ true →
      (all (is_memory_event t) p ≡ true) × (all (λ e. eqb (count e p) 1) (memory_events t) ≡ true)
  unfolding is_order
  order-parts p h = (search and_l, search and_r)

  -- it has as many entries as there are memory events
  pub order-length : (p : List ℕ) → is_order t p ≡ true → length p ≡ memory_count t
  unfolding memory_count
  order-length p h =
      omega (
        arith,
        pigeonhole p (memory_events t) different (has_all (λ e. has e (memory_events t)) p listed),
        pigeonhole (memory_events t) p (memory-distinct t) (has_all (λ e. has e p) (memory_events t) (λ e m. counted_has e p (once e m))),
      )
    where
      once : (e : ℕ) → has e (memory_events t) ≡ true → count e p ≡ 1
      once e m = eqb-true (count e p) 1 (all-has (λ e. eqb (count e p) 1) (memory_events t) e (order-parts p h).1 m)

      listed : (e : ℕ) → has e p ≡ true → has e (memory_events t) ≡ true
      listed e m = listed-memory e ∙ all-has (is_memory_event t) p e (order-parts p h).0 m

      different : distinct p ≡ true
      different = distinct-count p (λ e m. omega (arith, once e (listed e m)))

  -- what is not as long is no witness, of any outcome
  pub not-whole : (outcome : List ℕ → Bool) (p : List ℕ) → (length p ≡ memory_count t → ⊥) → witness_for t outcome p ≡ false
  unfolding witness_for lawful
  not-whole outcome p n = go (witness_for t outcome p) refl
    where
      go : (b : Bool) → witness_for t outcome p ≡ b → b ≡ false
      go true h = absurd (n (order-length p (search (and_l, and_r))))
      go false h = refl

-- A table with fewer events than the engine has slots.
module _ (t : Table) (small : t.count < slots) where
  -- the row of an event
  row_at : (e : ℕ) → e < t.count → get_or (predecessor_masks t) e 0 ≡ predecessor_mask t e
  unfolding predecessor_masks
  row_at e h = padded-at (predecessor_mask t) slots t.count e (omega arith) h

  -- an event is ready where every steady predecessor is listed
  ready-same : (p : List ℕ) (e : ℕ) → e < t.count → ready (predecessor_masks t) (mask_of p) e ≡ each t (λ a. has a p) e
  unfolding ready predecessor_mask
  ready-same p e h =
      let before : List ℕ = keep (λ a. static_ppo t a e) (below t.count) in
      ap (λ (m : ℕ). eqb (bit_and m (mask_of p)) m) (row_at e h)
      ∙ mask-subset before (mask_of p)
      ∙ all_same (bit (mask_of p)) (λ a. has a p) before (λ a m. mask-has p a)
      ∙ kept-every (λ a. static_ppo t a e) t.count (λ a. has a p)

  -- it may follow where it may stand behind those listed
  follows_same : (p : List ℕ) (e : ℕ) → may_follow (predecessor_masks t) (memory_mask t) (mask_of p) e ≡ follows t p e
  follows_same p e = rw (memory-bit t e, mask-has p e) (go (is_memory_event t e) refl)
    where
      go : (b : Bool) → is_memory_event t e ≡ b →
          (b && not (has e p) && ready (predecessor_masks t) (mask_of p) e) ≡ (b && not (has e p) && each t (λ a. has a p) e)
      go true h = ap (λ (c : Bool). not (has e p) && c) (ready-same p e (event-below t e h))
      go false h = refl

  -- where what is listed agrees, so does what goes on with it
  clean-on : (p q : List ℕ) → clean_by (predecessor_masks t) (memory_mask t) p ≡ clean t p →
      clean_by (predecessor_masks t) (memory_mask t) (p ++ q) ≡ clean t (p ++ q)
  clean-on p [] h = rw append-nil h
  clean-on p (x ∷ q) h =
      subst (λ (l : List ℕ). clean_by (predecessor_masks t) (memory_mask t) l ≡ clean t l) (append_assoc p (x ∷ []) q)
      (clean-on (p ++ (x ∷ [])) q
      (clean-snoc (predecessor_masks t) (memory_mask t) p x ∙ ap₂ (λ (b c : Bool). b && c) h (follows_same p x) ∙ sym (clean-last t p x)))

  -- clean over the masks is clean
  pub clean-same : (p : List ℕ) → clean_by (predecessor_masks t) (memory_mask t) p ≡ clean t p
  unfolding clean_by clean_from clean is_prefix
  clean-same p = clean-on [] p refl

  -- a clean prefix has all memory events exactly where its mask is theirs
  pub whole-mask : (p : List ℕ) → clean t p ≡ true → (mask_of p ≡ memory_mask t) ↔ (length p ≡ memory_count t)
  whole-mask p h = rw (memory-mask-ones t) at (whole (predecessor_masks t) (memory_mask t) p (clean-same p ∙ h))

  -- it then is an order
  pub whole-order : (p : List ℕ) → clean t p ≡ true → length p ≡ memory_count t → is_order t p ≡ true
  unfolding is_order memory_mask
  whole-order p h l =
      rw (clean-events t p h)
      (has_all (λ e. eqb (count e p) 1) (memory_events t)
      (λ e m. eq-eqb (count e p) 1 (distinct-once e p (clean-distinct t p h) (listed e m))))
    where
      listed : (e : ℕ) → has e (memory_events t) ≡ true → has e p ≡ true
      listed e m = sym (mask-has p e) ∙ ap (λ (x : ℕ). bit x e) ((whole-mask p h).1 l) ∙ mask-has (memory_events t) e ∙ m
