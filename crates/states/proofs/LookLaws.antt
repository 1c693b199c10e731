-- A stated value that can't come about any more stays so whatever is placed: a lost state has no run (look-ahead).
use Prim.Native.Nat.{ℕ, ◌<◌}
use mathlib.Core.Path.{◌≡◌, refl, sym, ap, ◌∙◌}
use mathlib.Core.Bool.{Bool, true, false, cond, not, ◌&&◌, ◌||◌, or-true}
use mathlib.Core.List.{List, [], ◌∷◌}
use mathlib.Core.Logic.{⊎_elim}
use lib.Dec.{eqb, ltb}
use borrow.Author.Tests.{eqb-true, ne_eqb, lt-ltb, ltb-true, not-true}
use Rattle.lists.specs.Below.{some}
use Rattle.lists.proofs.BoolLaws.{and_l, and_r, or_r, or_cases, not-either, is_false, or-implied, implied, eqb_comm}
use Rattle.lists.proofs.SomeLaws.{some_at, some-found, some-none, none-at, every-at, at_every}
use Rattle.masks.specs.Bit.{bit}
use Rattle.table.specs.declared.Table.{Table}
use Rattle.table.specs.Events.{event, reads, writes, memory, same_location}
use Rattle.table.proofs.ProgramOrderLaws.{same-trans}
use Rattle.model.specs.Witness.{is_memory_event}
use Rattle.placing.specs.Guards.{own, forwarder}
use Rattle.placing.proofs.GuardLaws.{own-parts, forwards, forwarder-latest}
use Rattle.order_facts.specs.Facts.{here, right, reads_good, peers, wrong}
use Rattle.states.specs.declared.State.{State}
use Rattle.states.specs.States.{ends_well, accepts, step, ends, runs}
use Rattle.states.specs.Choices.{lost_read, lost_final, lost}
use Rattle.states.proofs.StepLaws.{placed-step, placed_less, placed-other, good-step, May, accepts-may, event-counted}
use Rattle.states.proofs.StepLaws.{not-ended}

own-here : (t : Table) (r w : ℕ) → reads t r ≡ true → own t r w ≡ true → here t w r ≡ true
unfolding here
own-here t r w h o = let q = own-parts t r w o in rw (q.0, h) q.1

module _ (t : Table) (placed : ℕ → Bool) where
  -- what is forwarded is the stated value exactly if the forwarder is right
  reads-right : (now : ℕ → Bool) (r : ℕ) → reads t r ≡ true →
      reads_good t placed now r ≡ cond (ltb (forwarder t placed r) t.count) (right t (forwarder t placed r) r) (now r)
  unfolding reads_good right
  reads-right now r h = rw h (go (ltb (forwarder t placed r) t.count) refl)
    where
      value : Bool
      value = eqb (event t (forwarder t placed r)).written (event t r).read

      go : (b : Bool) → ltb (forwarder t placed r) t.count ≡ b →
          cond b value (now r) ≡ cond b (here t (forwarder t placed r) r && value) (now r)
      go true i = rw (own-here t r (forwarder t placed r) h (forwards t placed r i).0)
      go false i = refl

  -- all that is still to come at w's location is wrong
  is-lost-final : (w : ℕ) → wrong t w ≡ true → placed w ≡ false →
      ((v : ℕ) → v < t.count → peers t w v ≡ true → placed v ≡ false → wrong t v ≡ true) → lost_final t placed w ≡ true
  unfolding lost_final
  is-lost-final w h n others =
      rw (h, n) (at_every t.count (λ v. not (peers t w v && not (placed v)) || wrong t v) (λ v l.
      or-implied (peers t w v && not (placed v)) _ (λ q. others v l (and_l _ _ q) (not-true _ (and_r (peers t w v) _ q)))))

  lost-wrong : (w : ℕ) → lost_final t placed w ≡ true → (wrong t w ≡ true) × (placed w ≡ false)
  unfolding lost_final
  lost-wrong w h = (search (and_l, and_r), not-true _ (search (and_l, and_r)))

  lost-final-at : (w v : ℕ) → lost_final t placed w ≡ true → v < t.count → peers t w v ≡ true → placed v ≡ false → wrong t v ≡ true
  unfolding lost_final
  lost-final-at w v h l p n =
      implied (peers t w v && not (placed v)) _
      (every-at t.count (λ v. not (peers t w v && not (placed v)) || wrong t v) v
      (and_r (wrong t w && not (placed w)) _ h) l) (rw (p, n))

-- peers of one writer are peers of each other
peers-of : (t : Table) (w v u : ℕ) → peers t w v ≡ true → peers t v u ≡ true → eqb u w ≡ false → peers t w u ≡ true
unfolding peers
peers-of t w v u p q d =
    let a : writes t w ≡ true = search (and_l, and_r) in
    let b : writes t u ≡ true = search (and_l, and_r) in
    let c : same_location t v w ≡ true = search (and_l, and_r) in
    let f : same_location t u v ≡ true = search (and_l, and_r) in
    rw (a, b, d, same-trans t u v w f c)

peers-apart : (t : Table) (w v : ℕ) → peers t w v ≡ true → eqb v w ≡ false
unfolding peers
peers-apart t w v p = not-true _ (search (and_l, and_r))

module _ (t : Table) (s : State) (a : ℕ) (may : May t (bit s.placed) (bit s.good) a) where
  abbrev old : ℕ → Bool
  old = bit s.placed

  abbrev new : ℕ → Bool
  new = bit (step t s a).placed

  module _ (r : ℕ) (l : r < t.count) (h : lost_read t old (bit s.good) r ≡ true) where
    reader : reads t r ≡ true
    unfolding lost_read
    reader = search (and_l, and_r)

    absent : old r ≡ false
    unfolding lost_read
    absent = not-true _ (search (and_l, and_r))

    misreads : reads_good t old (bit s.good) r ≡ false
    unfolding lost_read
    misreads = not-true _ (search (and_l, and_r))

    -- no writer that is still to come has its value
    never : (w : ℕ) → w < t.count → old w ≡ false → right t w r ≡ false
    unfolding lost_read
    never w i n =
        rw n at (none-at t.count (λ w. not (old w) && right t w r) w (not-true _ (search (and_l, and_r))) i)

    -- r isn't what is placed
    not-reader : eqb a r ≡ false
    not-reader = ne_eqb a r (λ (q : a ≡ r). not-either _ may.value (ap (reads_good t old (bit s.good)) q ∙ misreads))

    -- where nothing is forwarded, what is at its location now isn't its value
    not_good : ltb (forwarder t new r) t.count ≡ false → bit (step t s a).good r ≡ false
    not_good i = good-step t s a r ∙ rw (lt-ltb r t.count l, now (here t a r) refl)
      where
        before : here t a r ≡ false → (b : Bool) → ltb (forwarder t old r) t.count ≡ b →
            cond b (right t (forwarder t old r) r) (bit s.good r) ≡ false → bit s.good r ≡ false
        before d true j e =
            let w = forwarder t old r in
            let f = forwards t old r j in
            let n = placed-other t s a w (ne_eqb a w (λ (q : a ≡ w).
            not-either _ (ap (λ (x : ℕ). here t x r) q ∙ own-here t r w reader f.0) d)) ∙ f.1 in
            absurd (not-either _ (lt-ltb _ _ (forwarder-latest t new r w (ltb-true _ _ j) f.0 n).1) i)
        before d false j e = e

        now : (b : Bool) → here t a r ≡ b → cond b (right t a r) (bit s.good r) ≡ false
        now true d = never a (event-counted t a may.known) may.new
        now false d =
            before d (ltb (forwarder t old r) t.count) refl (sym (reads-right t old (bit s.good) r reader) ∙ misreads)

    misreads-later : reads_good t new (bit (step t s a).good) r ≡ false
    misreads-later =
        reads-right t new (bit (step t s a).good) r reader ∙ go (ltb (forwarder t new r) t.count) refl
      where
        go : (b : Bool) → ltb (forwarder t new r) t.count ≡ b →
            cond b (right t (forwarder t new r) r) (bit (step t s a).good r) ≡ false
        go true i = never _ (ltb-true _ _ i) (placed_less t s a _ (forwards t new r i).1)
        go false i = not_good i

    read-lost : lost_read t new (bit (step t s a).good) r ≡ true
    unfolding lost_read
    read-lost =
        rw (
          reader,
          placed-other t s a r not-reader ∙ absent,
          misreads-later,
          some-none t.count (λ w. not (new w) && right t w r) (λ w i. is_false _ (λ q.
              not-either _ (and_r (not (new w)) _ q) (never w i (placed_less t s a w (not-true _ (and_l _ _ q)))))),
        )

  -- the wrong writer is placed: another is left, and is wrong too
  next-lost : lost_final t old a ≡ true → some t.count (lost_final t new) ≡ true
  unfolding ends_well
  next-lost h =
      some_at t.count (lost_final t new) v f.1
      (is-lost-final t new v (lost-final-at t old a v h f.1 p n)
      (placed-other t s a v (eqb_comm a v ∙ peers-apart t a v p) ∙ n)
      (λ u i q m. lost-final-at t old a u h i
      (peers-of t a v u p q (eqb_comm u a ∙ or_r (old u) _ (sym (placed-step t s a u) ∙ m))) (placed_less t s a u m)))
    where
      f : (v : ℕ) × (v < t.count) × ((peers t a v && not (old v)) ≡ true)
      f = some-found t.count (λ v. peers t a v && not (old v)) (implied (wrong t a) _ may.final (lost-wrong t old a h).0)

      v : ℕ
      v = f.0

      p : peers t a v ≡ true
      p = and_l _ _ f.2

      n : old v ≡ false
      n = not-true _ (and_r (peers t a v) _ f.2)

  final-lost : (w : ℕ) → w < t.count → lost_final t old w ≡ true → some t.count (lost_final t new) ≡ true
  final-lost w l h = go (eqb a w) refl
    where
      go : (b : Bool) → eqb a w ≡ b → some t.count (lost_final t new) ≡ true
      go true q = next-lost (ap (lost_final t old) (eqb-true a w q) ∙ h)
      go false q =
          let x = lost-wrong t old w h in
          some_at t.count (lost_final t new) w l
          (is-lost-final t new w x.0 (placed-other t s a w q ∙ x.1)
          (λ v i p n. lost-final-at t old w v h i p (placed_less t s a v n)))

module _ (t : Table) where
  abbrev misreading : State → ℕ → Bool
  misreading s = lost_read t (bit s.placed) (bit s.good)

  abbrev miswriting : State → ℕ → Bool
  miswriting s = lost_final t (bit s.placed)

  -- a step leaves it lost
  lost-more : (s : State) (a : ℕ) → accepts t s a ≡ true → lost t s ≡ true → lost t (step t s a) ≡ true
  unfolding lost
  lost-more s a c h =
      ⊎_elim
      (λ q. let f = some-found t.count (misreading s) q in
      rw (some_at t.count (misreading (step t s a)) f.0 f.1 (read-lost t s a (accepts-may t s a c) f.0 f.1 f.2)))
      (λ q. let f = some-found t.count (miswriting s) q in
      rw (final-lost t s a (accepts-may t s a c) f.0 f.1 f.2) (or-true (some t.count (misreading (step t s a)))))
      (or_cases (some t.count (misreading s)) _ h)

  -- and it is no end
  lost-open : (s : State) → lost t s ≡ true → ends t s ≡ false
  unfolding lost lost_read is_memory_event memory wrong
  lost-open s h =
      ⊎_elim
      (λ q. let f = some-found t.count (misreading s) q in
      let g = f.2 in
      let r : reads t f.0 ≡ true = search (and_l, and_r) in
      not-ended t s f.0 (rw (lt-ltb f.0 t.count f.1, r)) (not-true _ (search (and_l, and_r))))
      (λ q. let f = some-found t.count (miswriting s) q in
      let x = lost-wrong t (bit s.placed) f.0 f.2 in
      let g = x.0 in
      let w : writes t f.0 ≡ true = search (and_l, and_r) in
      not-ended t s f.0 (rw (lt-ltb f.0 t.count f.1, w) (or-true (reads t f.0))) x.1)
      (or_cases (some t.count (misreading s)) _ h)

  pub lost-none : (s : State) → lost t s ≡ true → (l : List ℕ) → runs t s l ≡ false
  unfolding runs
  lost-none s h [] = lost-open s h
  lost-none s h (a ∷ l) = is_false _ (λ r.
      not-either _ (and_r (accepts t s a) _ r) (lost-none (step t s a) (lost-more s a (and_l _ _ r) h) l))
