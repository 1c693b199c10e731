-- Whether a state completes: the events that need be tried, one after the other.
use Prim.Native.Nat.{ℕ, zero, suc, ◌-◌, ◌<◌, ◌^◌}
use native.Mathlib.Omega.{arith}
use mathlib.Core.Path.{◌≡◌, refl, sym, ap, subst, ◌∙◌}
use mathlib.Core.Bool.{Bool, true, false, xor}
use mathlib.Core.List.{List, [], ◌∷◌}
use lib.Bits.{bit_xor}
use lib.Count.{count_trailing_zeros}
use lib.Pow.{pow_pos}
use lib.Dec.{eqb}
use borrow.Author.Tests.{eqb-true, lt-ltb, ltb-true}
use Rattle.lists.proofs.BoolLaws.{and_l, is_false, not-either, xor-false}
use Rattle.lists.proofs.MemberLaws.{has_all}
use Rattle.masks.specs.Bit.{bit}
use Rattle.masks.proofs.BitLaws.{bit-xor, bit-zero, bit-pow}
use Rattle.masks.proofs.MaskOfLaws.{mask_lt}
use Rattle.masks.proofs.PowerLaws.{trailing-lowest, xor-pow}
use Rattle.table.specs.declared.Table.{Table}
use Rattle.table.specs.Events.{capacity, memory}
use Rattle.model.specs.Witness.{is_memory_event}
use Rattle.states.specs.declared.State.{State}
use Rattle.states.specs.States.{accepts, step, ends, runs}
use Rattle.states.specs.Choices.{lost}
use Rattle.states.specs.Completions.{Told, Reached}
use Rattle.states.proofs.ReachedLaws.{accepts-count, reached-ends, reached-left, reached-step}
use Rattle.states.proofs.LeastLaws.{run_more}
use Rattle.state_test.specs.Board.{Board, Boarded, Says, Accepted, Chooses, Steps}
use Rattle.deciding.specs.Memo.{Fruitless, Knows, Stored}
use Rattle.deciding.specs.Deciding.{Tells, Completes, May, NoneLeads, Lowest}
use Rattle.deciding.proofs.MemoLaws.{known-told, stored-fruitless}
use Rattle.states.proofs.LookLaws.{lost-none}

event-count : (t : Table) (e : ℕ) → is_memory_event t e ≡ true → e < t.count
unfolding is_memory_event
event-count t e h = ltb-true e t.count (and_l _ (memory t e) h)

-- the events of a good table have room in a mask
pub placed-small : (t : Table) (facts ties : List (List ℕ)) → Board t facts ties → (s : State) (n : ℕ) → Reached t s n →
    s.placed < 4294967296
placed-small t facts ties b s n r =
    subst (λ (m : ℕ). m < 4294967296) (sym r.placed) (mask_lt 32 r.behind (has_all _ r.behind (λ e h.
    lt-ltb e 32 (omega (arith, event-count t e (r.events e h), b.known.table.small.events)))))

-- an event that may be placed has its place in a mask
pub may-event : {facts ties : List (List ℕ)} {s : State} {events : ℕ} → May facts ties s events → Boarded facts ties → (e : ℕ) →
    bit events e ≡ true → e < capacity
may-event {s = s} m b e h = omega (arith, accepts-count b.0 s e (m.each b.0 b.1 e h), b.1.known.table.small.events)

-- the state behind it, with one event less to place
pub stepped : {facts ties : List (List ℕ)} {s next : State} {n e : ℕ} {t : Table} → Steps facts s e next → Board t facts ties →
    Reached t s n → accepts t s e ≡ true → (next ≡ step t s e) × Reached t next (n - 1)
stepped {s = s} {next} {n} {e} {t} k b r a =
    let i : next ≡ step t s e = k t b.known (accepts-count t s e a) in
    let m = reached-step t s n e r a in
    (i, subst (λ (u : State). Reached t u (n - 1)) (sym i) (subst (Reached t (step t s e)) (omega (arith, m.1)) m.2))

module _ {facts ties : List (List ℕ)} {s : State} {n : ℕ} where
  -- nothing is left to place
  pub told-end : {memo : List ℕ} → n ≡ 0 → Completes facts ties memo memo s n true
  unfolding runs
  told-end z t b r f = (([], reached-ends t s (subst (Reached t s) z r)), f)

  -- the memo knows better
  pub told-known : {memo : List ℕ} {k : Bool} → Knows memo s k → k ≡ true → Completes facts ties memo memo s n false
  told-known {memo} h q t b r f = (known-told t memo s (placed-small t facts ties b s n r) f (subst (Knows memo s) q h), f)

  -- a stated value is lost
  pub told-lost : {memo : List ℕ} {k : Bool} → Says facts ties (λ t. lost t s) k → k ≡ true → Completes facts ties memo memo s n false
  told-lost h q t b r f = (lost-none t s (sym (h t b) ∙ q), f)

-- Of some events, which may be placed, those that aren't left have been tried, and none of them leads on; memo: as it was at first,
-- and as it is.
pub record Trying (facts ties : List (List ℕ)) (s : State) (n events : ℕ) (before after : List ℕ) (tries : ℕ) : Type 0 where
  pub small : tries < 4294967296
  pub may : May facts ties s events
  pub fewer : (k : ℕ) → bit tries k ≡ true → bit events k ≡ true
  pub truth : (t : Table) → Board t facts ties → Reached t s n → Fruitless t before → Fruitless t after
  pub tried : (t : Table) → Board t facts ties → Reached t s n → Fruitless t before → (k : ℕ) → bit events k ≡ true →
      bit tries k ≡ false → Told t (step t s k) false

module _ {facts ties : List (List ℕ)} {s : State} {n events : ℕ} {before : List ℕ} where
  pub trying_start : events < 4294967296 → May facts ties s events → Trying facts ties s n events before before events
  trying_start l m = record {
    small = l;
    may = m;
    fewer = λ k h. h;
    truth = λ t b r f. f;
    tried = λ t b r f k h z. absurd (not-either _ h z);
  }

  module _ {after : List ℕ} {tries : ℕ} (g : Trying facts ties s n events before after tries) where
    -- none is left to try
    pub none-leads : tries ≡ 0 → Tells facts ties before after s n (λ t. NoneLeads t s events)
    none-leads z t b r f =
        (λ k h. g.tried t b r f k h (ap (λ (m : ℕ). bit m k) z ∙ bit-zero k), g.truth t b r f)

    -- The lowest event.
    module _ (e : ℕ) (h : 0 < tries) (q : e ≡ count_trailing_zeros 32 tries) where
      pub lowest : (e < 32) × (bit tries e ≡ true)
      lowest = let x = trailing-lowest 32 tries h g.small in (omega (arith, x.0, q), ap (bit tries) q ∙ x.1)

      pub lowest-event : Boarded facts ties → e < capacity
      lowest-event b = may-event g.may b e (g.fewer e lowest.1)

      pub lowest-less : (m : ℕ) → m ≡ 2 ^ e → bit_xor tries m < tries
      lowest-less m p = omega (arith, ap (bit_xor tries) p, xor-pow tries e lowest.1, pow_pos e)

      module _ {next : State} {last : List ℕ} (k : Steps facts s e next) where
        -- what is known of the state behind it
        told-next : (v : Bool) → Completes facts ties after last next (n - 1) v → (t : Table) → Board t facts ties → Reached t s n →
            Fruitless t before → Told t (step t s e) v × Fruitless t last
        told-next v c t b r f =
            let i = stepped k b r (g.may.each t b e (g.fewer e lowest.1)) in
            subst (λ (u : State). Told t u v × Fruitless t last) i.0 (c t b i.1 (g.truth t b r f))

        -- it leads on
        pub lowest-leads : Completes facts ties after last next (n - 1) true →
            Tells facts ties before last s n (λ t. Lowest t s events e)
        lowest-leads c t b r f =
            let d = told-next true c t b r f in (
              record {
                listed = g.fewer e lowest.1;
                leads = d.0;
                lower = λ j l i. g.tried t b r f j i ((trailing-lowest 32 tries h g.small).2 j (omega (arith, l, q)));
              },
              d.1,
            )

        -- it doesn't: the others are left
        pub trying-more : (m : ℕ) → m ≡ 2 ^ e → Completes facts ties after last next (n - 1) false →
            Trying facts ties s n events before last (bit_xor tries m)
        trying-more m p c = record {
          small = omega (arith, lowest-less m p, g.small);
          may = g.may;
          fewer = λ x i. g.fewer x (left x i);
          truth = λ t b r f. (told-next false c t b r f).1;
          tried = λ t b r f x i z. go t b r f x i z (eqb e x) refl;
        }
          where
            bits : (x : ℕ) → bit (bit_xor tries m) x ≡ xor (bit tries x) (eqb e x)
            bits x = ap (λ (y : ℕ). bit (bit_xor tries y) x) p ∙ bit-xor tries (2 ^ e) x ∙ ap (xor (bit tries x)) (bit-pow e x)

            same : (x : ℕ) → eqb e x ≡ false → bit (bit_xor tries m) x ≡ bit tries x
            same x d = bits x ∙ ap (xor (bit tries x)) d ∙ xor-false (bit tries x)

            left : (x : ℕ) → bit (bit_xor tries m) x ≡ true → bit tries x ≡ true
            left x i = into (eqb e x) refl
              where
                into : (d : Bool) → eqb e x ≡ d → bit tries x ≡ true
                into true d = ap (bit tries) (sym (eqb-true e x d)) ∙ lowest.1
                into false d = sym (same x d) ∙ i

            go : (t : Table) → Board t facts ties → Reached t s n → Fruitless t before → (x : ℕ) → bit events x ≡ true →
                bit (bit_xor tries m) x ≡ false → (d : Bool) → eqb e x ≡ d → Told t (step t s x) false
            go t b r f x i z true d =
                subst (λ (y : ℕ). Told t (step t s y) false) (eqb-true e x d) (told-next false c t b r f).0
            go t b r f x i z false d = g.tried t b r f x i (sym (same x d) ∙ z)

-- The state completes behind one of the events.
pub told-hit : {facts ties : List (List ℕ)} {s : State} {n events e : ℕ} {before after : List ℕ} → May facts ties s events →
    Tells facts ties before after s n (λ t. Lowest t s events e) → Completes facts ties before after s n true
told-hit {s = s} {e = e} m h t b r f =
    let d = h t b r f in
    let l = d.0.leads in
    ((e ∷ l.0, run_more t s e l.0 (m.each t b e d.0.listed) l.1), d.1)

-- The events were enough to try, and none of them leads on.
pub told_none : {facts ties : List (List ℕ)} {s : State} {n can events : ℕ} {before after last : List ℕ} → (n ≡ 0 → ⊥) →
    Accepted facts ties s can → Chooses facts ties s can events →
    Tells facts ties before after s n (λ t. NoneLeads t s events) → Stored after s last → Completes facts ties before last s n false
told_none {facts} {ties} {s} {n} {after = after} {last = last} left a c h k t b r f =
    let d = h t b r f in
    let none : Told t s false = λ l. is_false _ (λ run.
    let o = (c t b (a t b)).enough l run (unended n left r) in not-either _ o.run (d.0 o.next o.listed o.rest)) in
    (none, stored-fruitless t after last s (placed-small t facts ties b s n r) d.1 k none)
  where
    unended : (m : ℕ) → (m ≡ 0 → ⊥) → Reached t s m → ends t s ≡ false
    unended zero z r = absurd (z refl)
    unended (suc m) z r = reached-left t s m r

-- the chosen events may be placed
pub chosen-may : {facts ties : List (List ℕ)} {s : State} {can events : ℕ} → Accepted facts ties s can →
    Chooses facts ties s can events → May facts ties s events
chosen-may a c = record { each = λ t b e h. sym (a t b e) ∙ (c t b (a t b)).may e h }

-- and so may all that are accepted
pub accepted-may : {facts ties : List (List ℕ)} (s : State) (can : ℕ) → Accepted facts ties s can → May facts ties s can
accepted-may s can a = record { each = λ t b e h. sym (a t b e) ∙ h }
