-- The first event of a persisting set that a run has can come first: what stands before it is elsewhere.
use Prim.Native.Nat.{ℕ, ◌<◌}
use mathlib.Core.Path.{◌≡◌, refl, sym, ap, ◌∙◌}
use mathlib.Core.Bool.{Bool, true, false, not, ◌&&◌, ◌||◌, or-true}
use mathlib.Core.List.{List, [], ◌∷◌}
use mathlib.Core.Logic.{◌⊎◌, inl, inr, ⊎_elim}
use lib.Dec.{eqb, ltb}
use borrow.Author.Tests.{ne_eqb, not-true}
use Rattle.lists.specs.Below.{some}
use Rattle.lists.proofs.BoolLaws.{and_l, and_r, and_both, and_right, or_cases, not-either, is_false, is_true, or-implied, implied}
use Rattle.lists.proofs.SomeLaws.{some_at, some-found, every-at, at_every}
use Rattle.masks.specs.Bit.{bit}
use Rattle.table.specs.declared.Table.{Table}
use Rattle.table.specs.Events.{kind, reads, writes, memory, same_location, store}
use Rattle.table.proofs.ProgramOrderLaws.{same-trans, same-sym}
use Rattle.model.specs.Rules.{static_ppo}
use Rattle.model.specs.Witness.{is_memory_event}
use Rattle.placing.specs.Guards.{depends, ready, forwarder, may_forward}
use Rattle.placing.specs.GoodTable.{GoodTable}
use Rattle.placing.proofs.GuardLaws.{within-at, at-within}
use Rattle.order_facts.specs.Facts.{needed, here}
use Rattle.states.specs.declared.State.{State}
use Rattle.states.specs.States.{accepts, step, runs}
use Rattle.states.specs.Choices.{beside, lacks, waits_inside, closed_at, persists}
use Rattle.states.specs.Completions.{Onward, Enough}
use Rattle.states.proofs.StepLaws.{placed_less, placed-other, good-kept, steps-swap}
use Rattle.states.proofs.StepLaws.{May, accepts-may, may-accepts, event-counted, not-ended}
use Rattle.states.proofs.MoveLaws.{Alike, alike-here, forwarder-same, may-alike, ready-more, accepts-more}

-- What the tests of a set say.
module _ (t : Table) (placed set : ℕ → Bool) where
  waits-at : (e b : ℕ) → b < t.count → static_ppo t b e ≡ true → placed b ≡ false → set b ≡ true → waits_inside t placed set e ≡ true
  unfolding waits_inside
  waits-at e b l p n h = some_at t.count (λ b. static_ppo t b e && not (placed b) && set b) b l (rw (p, n) h)

  waits-parts : (e : ℕ) → waits_inside t placed set e ≡ true →
      (b : ℕ) × (b < t.count) × (static_ppo t b e ≡ true) × (placed b ≡ false) × (set b ≡ true)
  unfolding waits_inside
  waits-parts e h =
      let f = some-found t.count (λ b. static_ppo t b e && not (placed b) && set b) h in
      let q = f.2 in
      (f.0, f.1, search (and_l, and_r), not-true _ (search (and_l, and_r)), search (and_l, and_r))

  closed_at_lem : (e b : ℕ) → closed_at t placed set e ≡ true → b < t.count →
      (beside t placed e b || lacks t placed e b) ≡ true → set b ≡ true
  unfolding closed_at
  closed_at_lem e b h l = implied (beside t placed e b || lacks t placed e b) (set b)
      (every-at t.count (λ b. not (beside t placed e b || lacks t placed e b) || set b) b h l)

  is-closed : (e : ℕ) → ((b : ℕ) → b < t.count → (beside t placed e b || lacks t placed e b) ≡ true → set b ≡ true) →
      closed_at t placed set e ≡ true
  unfolding closed_at
  is-closed e h = at_every t.count (λ b. not (beside t placed e b || lacks t placed e b) || set b) (λ b l.
      or-implied (beside t placed e b || lacks t placed e b) (set b) (h b l))

  -- an event of the set waits for another of it; or nothing is missing, and the set has all that could disturb it
  abbrev stands : ℕ → Bool
  stands e = waits_inside t placed set e || ready t placed e && closed_at t placed set e

  record Member (e : ℕ) : Type 0 where
    pub known : is_memory_event t e ≡ true
    pub new : placed e ≡ false
    pub either : stands e ≡ true

  not-empty : persists t placed set ≡ true → some t.count set ≡ true
  unfolding persists
  not-empty p = and_l _ _ p

  member : persists t placed set ≡ true → (e : ℕ) → e < t.count → set e ≡ true → Member e
  unfolding persists
  member p e l h =
      let x = implied (set e) _ (every-at t.count (λ e. not (set e) || is_memory_event t e && not (placed e) && stands e) e
      (and_r (some t.count set) _ p) l) h in
      record { known = search (and_l, and_r); new = not-true _ (search (and_l, and_r)); either = search (and_l, and_r) }

  is-persisting : some t.count set ≡ true → ((e : ℕ) → e < t.count → set e ≡ true → Member e) → persists t placed set ≡ true
  unfolding persists
  is-persisting h f = rw h (at_every t.count (λ e. not (set e) || is_memory_event t e && not (placed e) && stands e) (λ e l.
      or-implied (set e) _ (λ k. let m = f e l k in rw (m.known, m.new) m.either)))

-- Events at different locations.
module _ (t : Table) (a e : ℕ) (d : same_location t a e ≡ false) where
  elsewhere : (x : ℕ) → same_location t x e ≡ true → eqb a x ≡ false
  elsewhere x h = ne_eqb a x (λ (q : a ≡ x). not-either _ h (ap (λ (y : ℕ). same_location t y e) (sym q) ∙ d))

  not-here : here t a e ≡ false
  unfolding here
  not-here = and_right (writes t a && reads t e) _ d

  -- no reader reads where both write
  not-both : (x : ℕ) → (here t e x ≡ false) ⊎ (here t a x ≡ false)
  unfolding here
  not-both x = go (same_location t e x) refl
    where
      go : (b : Bool) → same_location t e x ≡ b →
          ((writes t e && reads t x && same_location t e x) ≡ false) ⊎ ((writes t a && reads t x && same_location t a x) ≡ false)
      go true h = inr (and_right (writes t a && reads t x) _ (is_false _ (λ q.
          not-either _ (same-trans t a x e q (same-sym t e x h)) d)))
      go false h = inl (and_right (writes t e && reads t x) _ h)

-- a, which isn't in the set, is placed.
module _ {t : Table} (good : GoodTable t) (set : ℕ → Bool) (s : State) (a : ℕ) (c : accepts t s a ≡ true)
    (out : set a ≡ false) where
  abbrev old : ℕ → Bool
  old = bit s.placed

  abbrev new : ℕ → Bool
  new = bit (step t s a).placed

  -- what is in the set is as before
  same : (x : ℕ) → set x ≡ true → new x ≡ old x
  same x h = placed-other t s a x (ne_eqb a x (λ (q : a ≡ x). not-either _ h (ap set (sym q) ∙ out)))

  -- a is elsewhere, where the set has all that could disturb e; so e doesn't notice it
  apart : (e : ℕ) → closed_at t old set e ≡ true → same_location t a e ≡ false
  unfolding beside is_memory_event
  apart e h =
      let m = accepts-may t s a c in
      is_false _ (λ q. not-either _ (closed_at_lem t old set e a h (event-counted t a m.known)
      (rw (and_r (ltb a t.count) _ m.known, q, m.new))) out)

  alike : (e : ℕ) → closed_at t old set e ≡ true → Alike t new old e
  alike e h = alike-here good new old e (λ x q. placed-other t s a x (elsewhere t a e (apart e h) x q))

  closed-more : (e : ℕ) → closed_at t old set e ≡ true → closed_at t new set e ≡ true
  unfolding beside lacks
  closed-more e h = is-closed t new set e (λ b l q.
      let n : new b ≡ false = ⊎_elim (λ x. not-true _ (search (and_l, and_r))) (λ x. not-true _ (search (and_l, and_r)))
      (or_cases (memory t b && same_location t b e && not (new b)) _ q) in
      closed_at_lem t old set e b h l (rw (placed_less t s a b n) (rw (n, forwarder-same good (alike e h)) at q)))

  member-more : (e : ℕ) → set e ≡ true → Member t old set e → Member t new set e
  member-more e h m = record {
    known = m.known;
    new = same e h ∙ m.new;
    either = ⊎_elim
        (λ w. let f = waits-parts t old set e w in
        rw (waits-at t new set e f.0 f.1 f.2 (same f.0 f.4 ∙ f.3) f.4))
        (λ r. rw (ready-more t s a e (and_l _ _ r), closed-more e (and_r (ready t old e) _ r)) (or-true (waits_inside t new set e)))
        (or_cases (waits_inside t old set e) _ m.either);
  }

  -- e, of the set, may be placed next
  module _ (e : ℕ) (h : set e ≡ true) (m : Member t old set e) (k : accepts t (step t s a) e ≡ true) where
    may : May t new (bit (step t s a).good) e
    may = accepts-may t (step t s a) e k

    -- it doesn't wait for any other of the set
    settled : (ready t old e && closed_at t old set e) ≡ true
    unfolding ready
    settled = ⊎_elim
        (λ w. let f = waits-parts t old set e w in
        absurd (not-either _ (within-at t new (λ x. static_ppo t x e) may.steady f.0 f.1 f.2)
        (same f.0 f.4 ∙ f.3)))
        (λ r. r) (or_cases (waits_inside t old set e) _ m.either)

    closed : closed_at t old set e ≡ true
    closed = and_r (ready t old e) _ settled

    abbrev w : ℕ
    w = forwarder t new e

    -- what its forwarder needs was placed before a was
    forward : reads t e ≡ true → ltb w t.count ≡ true → may_forward t new w ≡ true → may_forward t old w ≡ true
    unfolding may_forward lacks needed
    forward r i f =
        and_both (eqb (kind t w) store) _ (and_l _ _ f) (at-within t old (depends t w) (λ b l d. is_true _ (λ n.
        not-either _ (within-at t new (depends t w) (and_r (eqb (kind t w) store) _ f) b l d)
        (same b (closed_at_lem t old set e b closed l
        (rw (r, sym (forwarder-same good (alike e closed)), i, d, n) (or-true (beside t old e b)))) ∙ n))))

    -- so it may be placed before a, and a still may then
    e-first : accepts t s e ≡ true
    e-first =
        may-accepts t s e (may-alike good (alike e closed) (bit (step t s a).good) (bit s.good) m.new (and_l _ _ settled)
        (good-kept t s a e (not-here t a e (apart e closed)) may.new) forward may)

    a_second : accepts t (step t s e) a ≡ true
    a_second =
        let d : same_location t e a ≡ false = is_false _ (λ q. not-either _ (same-sym t e a q) (apart e closed)) in
        accepts-more t s e good a
        (alike-here good old (bit (step t s e).placed) a (λ x q. sym (placed-other t s e x (elsewhere t e a d x q))))
        (ne_eqb e a (λ (q : e ≡ a). not-either _ h (ap set q ∙ out))) (not-here t e a d) c

    swapped : step t (step t s e) a ≡ step t (step t s a) e
    swapped = steps-swap t s e a (not-both t a e (apart e closed))

module _ (t : Table) (good : GoodTable t) (set : ℕ → Bool) where
  persists-more : (s : State) (a : ℕ) → accepts t s a ≡ true → set a ≡ false → persists t (bit s.placed) set ≡ true →
      persists t (bit (step t s a).placed) set ≡ true
  persists-more s a c out p = is-persisting t (bit (step t s a).placed) set (not-empty t (bit s.placed) set p) (λ e l h.
      member-more good set s a c out e h (member t (bit s.placed) set p e l h))

  set_first : (s : State) (l : List ℕ) → persists t (bit s.placed) set ≡ true → runs t s l ≡ true → Onward t s set
  unfolding runs
  set_first s [] p r =
      let f = some-found t.count set (not-empty t (bit s.placed) set p) in
      let m = member t (bit s.placed) set p f.0 f.1 f.2 in
      absurd (not-either _ r (not-ended t s f.0 m.known m.new))
  set_first s (a ∷ l) p r = go (set a) refl (set_first (step t s a) l)
    where
      c : accepts t s a ≡ true
      c = and_l _ _ r

      later : runs t (step t s a) l ≡ true
      later = and_r (accepts t s a) _ r

      go : (b : Bool) → set a ≡ b →
          (persists t (bit (step t s a).placed) set ≡ true → runs t (step t s a) l ≡ true → Onward t (step t s a) set) →
          Onward t s set
      go true h rest = record { next = a; rest = l; listed = h; may = c; run = later }
      go false h rest =
          let o = rest (persists-more s a c h p) later in
          let e = o.next in
          let k = event-counted t e (accepts-may t (step t s a) e o.may).known in
          let m = member t (bit s.placed) set p e k o.listed in
          record {
            next = e;
            rest = a ∷ o.rest;
            listed = o.listed;
            may = e-first good set s a c h e o.listed m o.may;
            run = and_both _ _ (a_second good set s a c h e o.listed m o.may)
                (ap (λ (u : State). runs t u o.rest) (swapped good set s a c h e o.listed m o.may) ∙ o.run);
          }

pub persisting : (t : Table) → GoodTable t → (s : State) (set : ℕ → Bool) → persists t (bit s.placed) set ≡ true → Enough t s set
persisting t good s set p l r d = set_first t good set s l p r
