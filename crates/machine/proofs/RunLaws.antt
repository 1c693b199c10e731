-- Complete runs have exactly the lawful orders of model 1, with the same returns.
use Prim.Native.Nat.{ℕ, zero, suc, ◌+◌, ◌-◌, ◌≤◌, ◌<◌}
use native.Mathlib.Omega.{arith}
use native.Mathlib.Nat.{eq-or-lt_of_le}
use mathlib.Core.Path.{◌≡◌, refl, sym, ap, ◌∙◌, subst}
use mathlib.Core.Bool.{Bool, true, false, not, ◌&&◌}
use mathlib.Core.List.{List, [], ◌∷◌, ◌++◌, append_assoc, append-nil}
use mathlib.Core.Logic.{⊎_elim}
use lib.Dec.{eqb, ltb}
use borrow.Author.Tests.{eqb-true, eq-eqb, lt-ltb, le-ltb, not-true}
use Rattle.lists.specs.Lists.{has}
use Rattle.lists.proofs.BoolLaws.{and_l, and_r, and_both, is_false, is_true, not-either}
use Rattle.lists.proofs.SomeLaws.{every-at, at_every}
use Rattle.lists.proofs.MemberLaws.{has-later}
use Rattle.edition.specs.Limits.{max_harts}
use Rattle.table.specs.declared.Table.{Table}
use Rattle.table.specs.Events.{hart, reads, memory, po}
use Rattle.table.proofs.ProgramOrderLaws.{po-less, po-hart, is-po}
use Rattle.model.specs.Rules.{from, may_order, static_ppo}
use Rattle.model.specs.Returns.{returns}
use Rattle.model.specs.Axioms.{breaks_pair}
use Rattle.model.specs.Witness.{is_memory_event, lawful}
use Rattle.model.specs.Settled.{settled}
use Rattle.placing.specs.Guards.{ready, may_read}
use Rattle.placing.proofs.GuardLaws.{within-at}
use Rattle.placing.proofs.ReturnedLaws.{order-has}
use Rattle.machine.specs.Machine.{State, start, buffered, may_issue, may_drain, enter, perform, drain, event_of, accepts, stepped, is_run, after, entry_of, complete}
use Rattle.machine.proofs.TsoLaws.{TsoTable, static-reads}
use Rattle.machine.proofs.OrderLaws.{placed_in, event-count, returns-are, lawful-is, lawful-order, lawful-clean, e-event, e-new, e-ready, e-may-read, e-atomic}
use Rattle.machine.proofs.StateLaws.{Reached, Next, Oldest, store-memory, reads-memory, is-next, is-oldest, buffered-is, held-is}
use Rattle.machine.proofs.IssueLaws.{issue-is}
use Rattle.machine.proofs.StepLaws.{Allows, reached-start, reached-enter, reached-perform, reached-drain, reached-step, step-issued, step_kept, ready-oldest, allows-drain}

module _ {t : Table} (k : TsoTable t) where
  pub reached-run : (s : State) (bs : List ℕ) → Reached t s → is_run t s bs ≡ true → Reached t (after t s bs)
  unfolding is_run after
  reached-run s [] r h = r
  reached-run s (b ∷ bs) r h =
      reached-run (stepped t s b) bs (reached-step k s b r (and_l (accepts t s b) _ h)) (and_r (accepts t s b) _ h)

  -- the entry of an event that was issued stays
  entry_kept : (s : State) (e : ℕ) (bs : List ℕ) → Reached t s → has e s.issued ≡ true → is_run t s bs ≡ true →
      from (after t s bs).rf e ≡ from s.rf e
  unfolding is_run after
  entry_kept s e [] r i h = refl
  entry_kept s e (b ∷ bs) r i h =
      let acc = and_l (accepts t s b) _ h in
      let stays = step_kept t s b acc e i in
      entry_kept (stepped t s b) e bs (reached-step k s b r acc) stays.0 (and_r (accepts t s b) _ h) ∙ stays.1

  -- what a step answers is what the list has in the end
  pub answered : (bs cs : List ℕ) (b : ℕ) → is_run t (start t) (bs ++ (b ∷ cs)) ≡ true →
      entry_of t (after t (start t) bs) b ≡ from (after t (start t) (bs ++ (b ∷ cs))).rf (event_of t (after t (start t) bs) b)
  unfolding is_run after entry_of
  answered bs cs b h = go (start t) bs (reached-start t) h
    where
      go : (s : State) (bs : List ℕ) → Reached t s → is_run t s (bs ++ (b ∷ cs)) ≡ true →
          entry_of t (after t s bs) b ≡ from (after t s (bs ++ (b ∷ cs))).rf (event_of t (after t s bs) b)
      go s [] r h =
          let acc = and_l (accepts t s b) _ h in
          sym (entry_kept (stepped t s b) (event_of t s b) cs (reached-step k s b r acc) (step-issued t s b acc) (and_r (accepts t s b) _ h))
      go s (c ∷ bs) r h = go (stepped t s c) bs (reached-step k s c r (and_l (accepts t s c) _ h)) (and_r (accepts t s c) _ h)

  -- in a complete run every memory event is in the order
  complete-each : (s : State) → Reached t s → complete t s ≡ true → (e : ℕ) → is_memory_event t e ≡ true → has e s.gmo ≡ true
  unfolding complete is_memory_event
  complete-each s r c e h = is_true _ (λ away.
      let done = every-at t.count (λ x. has x s.issued && not (buffered t s x)) e c (event-count t e h) in
      not-either _ (held-is t s r e (and_r (ltb e t.count) _ h) (and_l _ _ done) ∙ ap not away)
      (not-true _ (and_r (has e s.issued) _ done)))

  -- Each complete run's order is lawful, and the run returned what the order determines.
  pub sound : (bs : List ℕ) → is_run t (start t) bs ≡ true → complete t (after t (start t) bs) ≡ true →
      (lawful t (after t (start t) bs).gmo ≡ true) × ((after t (start t) bs).rf ≡ returns t (after t (start t) bs).gmo)
  sound bs h c = (lawful-is k s.rf s.gmo r.sound each same, same)
    where
      s : State
      s = after t (start t) bs

      r : Reached t s
      r = reached-run (start t) bs (reached-start t) h

      each : (e : ℕ) → is_memory_event t e ≡ true → has e s.gmo ≡ true
      each = complete-each s r c

      same : s.rf ≡ returns t s.gmo
      same = returns-are k s.rf s.gmo r.sound each r.long r.others

  -- from s a list of accepted steps leads to u
  record Runs (s u : State) : Type 0 where
    steps : List ℕ
    taken : is_run t s steps ≡ true
    ends : after t s steps ≡ u

  stay : (s : State) → Runs s s
  unfolding is_run after
  stay s = record { steps = []; taken = refl; ends = refl }

  -- one step, then more
  step_then : (s u v : State) (b : ℕ) → accepts t s b ≡ true → stepped t s b ≡ u → Runs u v → Runs s v
  unfolding is_run after
  step_then s u v b a q w = record { steps = b ∷ w.steps; taken = rw (a, q) w.taken; ends = rw q w.ends }

  run-then : (s u v : State) → Runs s u → Runs u v → Runs s v
  unfolding is_run after
  run-then s u v x y = go s x.steps x.taken x.ends
    where
      go : (s : State) (bs : List ℕ) → is_run t s bs ≡ true → after t s bs ≡ u → Runs s v
      go s [] h e = subst (λ (w : State). Runs w v) (sym e) y
      go s (b ∷ bs) h e =
          step_then s (stepped t s b) v b (and_l (accepts t s b) _ h) refl (go (stepped t s b) bs (and_r (accepts t s b) _ h) e)

  -- the byte of a step to issue, and to drain
  issues : (e : ℕ) → e < t.count → ltb (hart t e) max_harts ≡ true
  issues e l = lt-ltb (hart t e) max_harts (k.good.small.each-hart e l)

  run_enter : (s : State) (e : ℕ) → Next t s e → reads t e ≡ false → Runs s (enter s e)
  unfolding accepts stepped event_of may_issue
  run_enter s e n h =
      step_then s (enter s e) (enter s e) (hart t e)
      (rw (issues e n.inside, is-next t s e n, lt-ltb e t.count n.inside, h))
      (rw (issues e n.inside, is-next t s e n, h)) (stay (enter s e))

  run-perform : (s : State) (e : ℕ) → Next t s e → reads t e ≡ true → may_issue t s e ≡ true → Runs s (perform t s e)
  unfolding accepts stepped event_of
  run-perform s e n h may =
      step_then s (perform t s e) (perform t s e) (hart t e)
      (rw (issues e n.inside, is-next t s e n, lt-ltb e t.count n.inside) may)
      (rw (issues e n.inside, is-next t s e n, h)) (stay (perform t s e))

  run-drain : (s : State) (e : ℕ) → Oldest t s e → may_drain t s e ≡ true → Runs s (drain s e)
  unfolding accepts stepped event_of
  run-drain s e o may =
      let h : hart t e + max_harts - max_harts ≡ hart t e = omega arith in
      let no = le-ltb (hart t e + max_harts) max_harts (omega arith) in
      step_then s (drain s e) (drain s e) (hart t e + max_harts)
      (rw (no, h, is-oldest t s e o, lt-ltb e t.count o.inside) may) (rw (no, h, is-oldest t s e o)) (stay (drain s e))

  -- of a set of events those below n are issued; the order is as it was
  record Caught (set : ℕ → Bool) (n : ℕ) (s : State) : Type 0 where
    to : State
    runs : Runs s to
    reached : Reached t to
    order : to.gmo ≡ s.gmo
    issued : (e : ℕ) → e < n → set e ≡ true → has e to.issued ≡ true

  -- a set that has the earlier events of its events' harts
  abbrev Closed : (ℕ → Bool) → Type 0
  Closed set = (d e : ℕ) → po t d e ≡ true → set e ≡ true → set d ≡ true

  -- where its readers are in the order, its stores and fences can be issued
  module _ (set : ℕ → Bool) (closed : Closed set) (s : State) (r : Reached t s) where
    -- event n too
    catch-one : (n : ℕ) → n < t.count → (set n ≡ true → reads t n ≡ true → has n s.gmo ≡ true) → Caught set n s → Caught set (suc n) s
    unfolding enter
    catch-one n l h c = go (set n) refl (has n c.to.issued) refl
      where
        still : ((e : ℕ) → e ≡ n → set e ≡ true → has e c.to.issued ≡ true) → Caught set (suc n) s
        still f = record {
          to = c.to;
          runs = c.runs;
          reached = c.reached;
          order = c.order;
          issued = λ e i g. ⊎_elim (λ (q : e ≡ n). f e q g) (λ j. c.issued e j g) (eq-or-lt_of_le (omega arith));
        }

        go : (a : Bool) → set n ≡ a → (b : Bool) → has n c.to.issued ≡ b → Caught set (suc n) s
        go false p b q = still (λ e d g. absurd (not-either _ g (ap set d ∙ p)))
        go true p true q = still (λ e d g. ap (λ (x : ℕ). has x c.to.issued) d ∙ q)
        go true p false q = record {
          to = enter c.to n;
          runs = run-then s c.to (enter c.to n) c.runs (run_enter c.to n next quiet);
          reached = reached-enter k c.reached n next quiet;
          order = c.order;
          issued = λ e i g. ⊎_elim (λ (d : e ≡ n). rw (eq-eqb e n d)) (λ j. has-later e n c.to.issued (c.issued e j g))
              (eq-or-lt_of_le (omega arith));
        }
          where
            next : Next t c.to n
            next = record { inside = l; new = q; down = λ d o. c.issued d (po-less t d n o) (closed d n o p) }

            quiet : reads t n ≡ false
            quiet = is_false _ (λ g. not-either _ (c.reached.listed n (ap (has n) c.order ∙ h p g)) q)

    catch-up : (n : ℕ) → n ≤ t.count → ((e : ℕ) → e < n → set e ≡ true → reads t e ≡ true → has e s.gmo ≡ true) → Caught set n s
    catch-up zero l h = record { to = s; runs = stay s; reached = r; order = refl; issued = λ e i. absurd (omega arith) }
    catch-up (suc n) l h = catch-one n l (h n (omega arith)) (catch-up n (omega arith) (λ e i. h e (omega arith)))

  -- the order has grown to g
  record Placed (s : State) (g : List ℕ) : Type 0 where
    to : State
    runs : Runs s to
    reached : Reached t to
    order : to.gmo ≡ g

  -- the events of e's hart
  abbrev on : ℕ → ℕ → Bool
  on e d = eqb (hart t d) (hart t e)

  on-closed : (e : ℕ) → Closed (on e)
  on-closed e c d o h = eq-eqb (hart t c) (hart t e) (po-hart t c d o ∙ eqb-true (hart t d) (hart t e) h)

  -- The next event of a lawful order is placed: its hart issues what is earlier, then e, which drains if it is a store.
  module _ (p q : List ℕ) (e : ℕ) (law : lawful t (p ++ (e ∷ q)) ≡ true) (s : State) (r : Reached t s) (o : s.gmo ≡ p) where
    inside : e < t.count
    inside = event-count t e (e-event k p q e law)

    is-memory : memory t e ≡ true
    unfolding is_memory_event
    is-memory = and_r (ltb e t.count) (memory t e) (e-event k p q e law)

    -- earlier readers of its hart are placed: rule 5
    readers : (d : ℕ) → d < e → on e d ≡ true → reads t d ≡ true → has d s.gmo ≡ true
    unfolding ready may_order
    readers d l h g =
        ap (has d) o
        ∙ within-at t (placed_in t p) (λ a. static_ppo t a e) (e-ready k p q e law) d (omega (arith, inside))
        (static-reads k d e (rw (is-po t d e l (eqb-true _ _ h), reads-memory t d g) is-memory) g)

    place-reader : reads t e ≡ true → Placed s (p ++ (e ∷ []))
    unfolding perform
    place-reader h = record {
      to = perform t c.to e;
      runs = run-then s c.to (perform t c.to e) c.runs
          (run-perform c.to e next h (issue-is k c.reached e next h ∙ may));
      reached = reached-perform k c.reached e next h may;
      order = ap (λ (g : List ℕ). g ++ (e ∷ [])) here;
    }
      where
        c : Caught (on e) e s
        c = catch-up (on e) (on-closed e) s r e (omega (arith, inside)) readers

        here : c.to.gmo ≡ p
        here = c.order ∙ o

        next : Next t c.to e
        next = record {
          inside = inside;
          new = is_false _ (λ i. not-either _ (c.reached.readers e i h) (ap (has e) here ∙ e-new k p q e law));
          down = λ d g. c.issued d (po-less t d e g) (eq-eqb _ _ (po-hart t d e g));
        }

        may : (ready t (placed_in t c.to.gmo) e && may_read t (placed_in t c.to.gmo) e) ≡ true
        may = ap (λ (g : List ℕ). ready t (placed_in t g) e && may_read t (placed_in t g) e) here
            ∙ and_both _ _ (e-ready k p q e law) (e-may-read k p q e law h)

    place-store : reads t e ≡ false → Placed s (p ++ (e ∷ []))
    unfolding drain
    place-store h = record {
      to = drain c.to e;
      runs = run-then s c.to (drain c.to e) c.runs
          (run-drain c.to e (ready-oldest k c.reached e inside held steady) (allows-drain k c.reached e inside held allows));
      reached = reached-drain k c.reached e inside held steady allows;
      order = ap (λ (g : List ℕ). g ++ (e ∷ [])) here;
    }
      where
        early : (d : ℕ) → d < suc e → on e d ≡ true → reads t d ≡ true → has d s.gmo ≡ true
        early d l i g =
            ⊎_elim (λ (m : d ≡ e). absurd (not-either _ g (ap (reads t) m ∙ h))) (λ m. readers d m i g) (eq-or-lt_of_le (omega arith))

        c : Caught (on e) (suc e) s
        c = catch-up (on e) (on-closed e) s r (suc e) inside early

        here : c.to.gmo ≡ p
        here = c.order ∙ o

        held : buffered t c.to e ≡ true
        held =
            held-is t c.to c.reached e is-memory (c.issued e (omega arith) (eq-eqb (hart t e) (hart t e) refl))
            ∙ ap not (ap (has e) here ∙ e-new k p q e law)

        steady : ready t (placed_in t c.to.gmo) e ≡ true
        steady = ap (λ (g : List ℕ). ready t (placed_in t g) e) here ∙ e-ready k p q e law

        allows : Allows k c.reached e inside held
        allows = subst (λ (g : List ℕ). (x : ℕ) → x < t.count → breaks_pair t c.to.rf (g ++ (e ∷ [])) x e ≡ false) (sym here)
            (e-atomic k p q e law c.to.rf
            (λ x i g. c.reached.sound.settles x (ap (has x) here ∙ i) g ∙ ap (λ (l : List ℕ). settled t l x) here))

    place : Placed s (p ++ (e ∷ []))
    place = go (reads t e) refl
      where
        go : (b : Bool) → reads t e ≡ b → Placed s (p ++ (e ∷ []))
        go true h = place-reader h
        go false h = place-store h

  -- and so all of them
  place-all : (p q : List ℕ) → lawful t (p ++ q) ≡ true → (s : State) → Reached t s → s.gmo ≡ p → Placed s (p ++ q)
  place-all p [] law s r o = record { to = s; runs = stay s; reached = r; order = o ∙ sym (append-nil p) }
  place-all p (e ∷ q) law s r o =
      let a = place p q e law s r o in
      let w = append_assoc p (e ∷ []) q in
      let b = place-all (p ++ (e ∷ [])) q (ap (lawful t) w ∙ law) a.to a.reached a.order in
      record { to = b.to; runs = run-then s a.to b.to a.runs b.runs; reached = b.reached; order = b.order ∙ w }

  -- Each lawful order is that of a complete run, which returned what the order determines.
  pub covers : (gmo : List ℕ) → lawful t gmo ≡ true →
      (bs : List ℕ) × (is_run t (start t) bs ≡ true) × (complete t (after t (start t) bs) ≡ true)
      × ((after t (start t) bs).gmo ≡ gmo) × ((after t (start t) bs).rf ≡ returns t gmo)
  unfolding complete start
  covers gmo law = (w.steps, w.taken, done, order, (sound w.steps w.taken done).1 ∙ ap (returns t) order)
    where
      a : Placed (start t) gmo
      a = place-all [] gmo law (start t) (reached-start t) refl

      whole : (e : ℕ) → e < t.count → memory t e ≡ true → has e a.to.gmo ≡ true
      whole e l h = ap (has e) a.order ∙ order-has t gmo (lawful-order t gmo law) (lawful-clean t gmo law) e l h

      -- what is left are fences
      c : Caught (λ e. true) t.count a.to
      c = catch-up (λ e. true) (λ d e o h. refl) a.to a.reached t.count (omega arith)
          (λ e l h g. whole e l (reads-memory t e g))

      w : Runs (start t) c.to
      w = run-then (start t) a.to c.to a.runs c.runs

      order : (after t (start t) w.steps).gmo ≡ gmo
      order = ap (λ (s : State). s.gmo) w.ends ∙ c.order ∙ a.order

      empty : (e : ℕ) → e < t.count → buffered t c.to e ≡ false
      empty e l = is_false _ (λ h.
          let b = buffered-is t c.to e h in
          not-either _ (ap (has e) c.order ∙ whole e l (store-memory t e b.stored)) b.away)

      done : complete t (after t (start t) w.steps) ≡ true
      done = ap (complete t) w.ends ∙ at_every t.count (λ e. has e c.to.issued && not (buffered t c.to e))
          (λ e l. rw (c.issued e l refl) (ap not (empty e l)))
