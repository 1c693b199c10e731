-- How many events are left at a state that was reached, and so how long its runs are.
use Prim.Native.Nat.{ℕ, zero, suc, ◌≤◌, ◌<◌, ◌^◌}
use native.Mathlib.Omega.{arith}
use mathlib.Core.Path.{◌≡◌, refl, sym, ap, ◌∙◌}
use mathlib.Core.Bool.{true, false, not, ◌&&◌, ◌||◌, false≢true}
use mathlib.Core.List.{List, [], ◌∷◌}
use mathlib.Core.Logic.{⊎_elim}
use lib.ListN.{length}
use lib.Bits.{bit_or}
use lib.Dec.{ltb}
use borrow.Author.Tests.{ltb-true, lt-ltb, not-true}
use Rattle.lists.specs.Lists.{has, distinct}
use Rattle.lists.proofs.BoolLaws.{and_l, and_r, or-implied, implied, not-either, is_false, is_true}
use Rattle.lists.proofs.SomeLaws.{every-at, at_every}
use Rattle.lists.proofs.MemberLaws.{has_all, has_first}
use Rattle.lists.proofs.DistinctLaws.{pigeonhole}
use Rattle.masks.specs.Bit.{bit}
use Rattle.masks.specs.MaskOf.{mask_of}
use Rattle.masks.proofs.MaskOfLaws.{mask-has}
use Rattle.table.specs.declared.Table.{Table}
use Rattle.table.specs.Events.{memory, memory_events, memory_count}
use Rattle.table.proofs.MemoryLaws.{memory-has, memory-distinct}
use Rattle.model.specs.Witness.{is_memory_event}
use Rattle.states.specs.declared.State.{State}
use Rattle.states.specs.States.{accepts, start, step, ends, runs}
use Rattle.states.specs.Completions.{Reached}

module _ (t : Table) where
  -- an event that may be placed is a memory event that isn't placed
  pub accepts-event : (s : State) (e : ℕ) → accepts t s e ≡ true → is_memory_event t e ≡ true
  unfolding accepts
  accepts-event s e h = search (and_l, and_r)

  pub accepts-count : (s : State) (e : ℕ) → accepts t s e ≡ true → e < t.count
  unfolding is_memory_event
  accepts-count s e h = ltb-true e t.count (and_l _ (memory t e) (accepts-event s e h))

  pub accepts-new : (s : State) (e : ℕ) → accepts t s e ≡ true → bit s.placed e ≡ false
  unfolding accepts
  accepts-new s e h = not-true _ (search (and_l, and_r))

  -- different memory events are no more than there are
  few : (p : List ℕ) → distinct p ≡ true → ((e : ℕ) → has e p ≡ true → is_memory_event t e ≡ true) → length p ≤ memory_count t
  unfolding memory_count is_memory_event
  few p d h = pigeonhole p (memory_events t) d (has_all _ p (λ e i. memory-has t e ∙ h e i))

  module _ (s : State) (n : ℕ) (r : Reached t s n) where
    -- the placed are those behind
    placed-has : (e : ℕ) → bit s.placed e ≡ has e r.behind
    placed-has e = ap (λ (m : ℕ). bit m e) r.placed ∙ mask-has r.behind e

    -- one more of them
    with-more : (e : ℕ) → is_memory_event t e ≡ true → (x : ℕ) → has x (e ∷ r.behind) ≡ true → is_memory_event t x ≡ true
    with-more e m x i =
        ⊎_elim (λ (q : x ≡ e). ap (is_memory_event t) q ∙ m) (λ i. r.events x i) (has_first x e r.behind i)

    more-different : (e : ℕ) → has e r.behind ≡ false → distinct (e ∷ r.behind) ≡ true
    more-different e h = rw h r.different

    -- .. leaves one fewer
    fewer : (e : ℕ) → is_memory_event t e ≡ true → has e r.behind ≡ false → 0 < n
    fewer e m h = omega (arith, few (e ∷ r.behind) (more-different e h) (with-more e m), r.counted)

  pub reached-start : Reached t (start t) (memory_count t)
  unfolding start mask_of
  reached-start = record {
    behind = [];
    different = refl;
    events = λ e h. absurd (false≢true h);
    placed = refl;
    counted = omega arith;
  }

  pub reached-ends : (s : State) → Reached t s 0 → ends t s ≡ true
  unfolding ends is_memory_event
  reached-ends s r = at_every t.count _ (λ e l. or-implied (memory t e) _ (λ m. is_true (bit s.placed e) (λ q.
      omega (arith, fewer s 0 r e (rw (lt-ltb e t.count l) m) (sym (placed-has s 0 r e) ∙ q)))))

  pub reached-left : (s : State) (n : ℕ) → Reached t s (suc n) → ends t s ≡ false
  unfolding ends memory_count
  reached-left s n r = is_false _ (λ h.
      omega (
        arith,
        r.counted,
        pigeonhole (memory_events t) r.behind (memory-distinct t) (has_all _ (memory_events t) (λ e i.
            let m : (ltb e t.count && memory t e) ≡ true = sym (memory-has t e) ∙ i in
            sym (placed-has s (suc n) r e)
            ∙ implied (memory t e) _
            (every-at t.count (λ e. not (memory t e) || bit s.placed e) e h (ltb-true e t.count (and_l _ (memory t e) m)))
            (and_r (ltb e t.count) _ m))),
      ))

  pub reached-step : (s : State) (n : ℕ) (e : ℕ) → Reached t s n → accepts t s e ≡ true →
      (m : ℕ) × (n ≡ suc m) × Reached t (step t s e) m
  unfolding step mask_of
  reached-step s zero e r h = absurd (omega (
    arith,
    fewer s 0 r e (accepts-event s e h) (sym (placed-has s 0 r e) ∙ accepts-new s e h),
  ))
  reached-step s (suc n) e r h = (
    n,
    refl,
    record {
      behind = e ∷ r.behind;
      different = more-different s (suc n) r e (sym (placed-has s (suc n) r e) ∙ accepts-new s e h);
      events = with-more s (suc n) r e (accepts-event s e h);
      placed = ap (λ (m : ℕ). bit_or m (2 ^ e)) r.placed;
      counted = omega (arith, r.counted);
    },
  )

  pub run_length : (s : State) (n : ℕ) (l : List ℕ) → Reached t s n → runs t s l ≡ true → length l ≡ n
  unfolding runs
  run_length s zero [] r h = refl
  run_length s (suc n) [] r h = absurd (not-either _ h (reached-left s n r))
  run_length s n (e ∷ l) r h =
      let q = reached-step s n e r (and_l (accepts t s e) _ h) in
      omega (arith, q.1, run_length (step t s e) q.0 l q.2 (and_r (accepts t s e) _ h))
