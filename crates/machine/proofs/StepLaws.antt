-- Every step that is accepted keeps what holds of the states that a run reaches.
use Prim.Native.Nat.{ℕ, ◌-◌, ◌<◌}
use native.Mathlib.Omega.{arith}
use mathlib.Core.Path.{◌≡◌, refl, sym, ap, ◌∙◌}
use mathlib.Core.Bool.{Bool, true, false, cond, not, ◌&&◌, false≢true}
use mathlib.Core.List.{List, [], ◌∷◌, ◌++◌}
use mathlib.Core.Logic.{⊎_elim}
use lib.ListN.{set, length-set}
use lib.Seq.{get_or-set_same, get_or-set_other}
use lib.Dec.{ltb}
use borrow.Author.Tests.{eq-eqb, ltb-true, not-true}
use Rattle.lists.specs.Lists.{has}
use Rattle.lists.specs.Filled.{up_to}
use Rattle.lists.proofs.BoolLaws.{and_l, and_r, is_false, is_true, not-either}
use Rattle.lists.proofs.SomeLaws.{some-none, none-at}
use Rattle.lists.proofs.MemberLaws.{has-later, has_left, has_here, has_first, has_last}
use Rattle.lists.proofs.FilledLaws.{length-up_to, get_or-up_to}
use Rattle.edition.specs.Limits.{max_harts}
use Rattle.table.specs.declared.Table.{Table}
use Rattle.table.specs.Events.{hart, reads, po}
use Rattle.table.proofs.ProgramOrderLaws.{po-less}
use Rattle.model.specs.Rules.{nothing, from, may_order, static_ppo}
use Rattle.model.specs.Axioms.{breaks_pair}
use Rattle.placing.specs.Guards.{ready, may_read}
use Rattle.placing.proofs.GuardLaws.{within-at, at-within}
use Rattle.machine.specs.Machine.{State, start, buffered, may_issue, returned, may_drain, enter, perform, drain, is_issue, event_of, accepts, stepped}
use Rattle.machine.proofs.TsoLaws.{TsoTable, static-writes}
use Rattle.machine.proofs.PairLaws.{paired-may, unpaired}
use Rattle.machine.proofs.OrderLaws.{placed_in, Follows, is-event, sound-start, extend}
use Rattle.machine.proofs.StateLaws.{Reached, Next, Oldest, Buffered, store-memory, store-reads, store_writes, reads-memory, next-is, oldest-is, buffered-is, held-is, next-away}
use Rattle.machine.proofs.IssueLaws.{issue-is, returned-is}

pub reached-start : (t : Table) → Reached t (start t)
unfolding start from
reached-start t = record {
  down = λ d e h. absurd (false≢true h);
  listed = λ e h. absurd (false≢true h);
  readers = λ e h. absurd (false≢true h);
  long = length-up_to t.count (λ e. nothing);
  others = λ e l h. get_or-up_to t.count (λ x. nothing) e nothing l;
  sound = sound-start t (up_to t.count (λ e. nothing));
}

module _ {t : Table} {s : State} (k : TsoTable t) (r : Reached t s) (e : ℕ) where
  -- one more event is issued, the next of its hart
  issued-down : Next t s e → (d x : ℕ) → has x (e ∷ s.issued) ≡ true → po t d x ≡ true → has d (e ∷ s.issued) ≡ true
  issued-down n d x h o =
      has-later d e s.issued (⊎_elim (λ (q : x ≡ e). n.down d (ap (po t d) (sym q) ∙ o)) (λ i. r.down d x i o)
      (has_first x e s.issued h))

  -- a store enters the buffer, a fence passes
  pub reached-enter : Next t s e → reads t e ≡ false → Reached t (enter s e)
  unfolding enter
  reached-enter n h = record {
    down = issued-down n;
    listed = λ x i. has-later x e s.issued (r.listed x i);
    readers = λ x i g. ⊎_elim (λ (q : x ≡ e). absurd (not-either _ g (ap (reads t) q ∙ h))) (λ j. r.readers x j g)
        (has_first x e s.issued i);
    long = r.long;
    others = r.others;
    sound = r.sound;
  }

  -- a reader is performed
  module _ (n : Next t s e) (h : reads t e ≡ true)
      (may : (ready t (placed_in t s.gmo) e && may_read t (placed_in t s.gmo) e) ≡ true) where
    abbrev rf : List ℕ
    rf = set s.rf e (returned t s e)

    other : (x : ℕ) → (x ≡ e → ⊥) → from rf x ≡ from s.rf x
    unfolding from
    other x q = get_or-set_other s.rf e x (returned t s e) nothing q

    reader-follows : Follows t rf s.gmo e
    unfolding from
    reader-follows = record {
      event = is-event t e n.inside (reads-memory t e h);
      new = next-away t s r e n;
      steady = and_l _ _ may;
      may-read = λ g. and_r (ready t (placed_in t s.gmo) e) _ may;
      settles = λ g. get_or-set_same s.rf e (returned t s e) nothing (omega (arith, r.long, n.inside))
          ∙ returned-is k r e n h (and_l _ _ may);
      atomic = λ l i. unpaired t rf (s.gmo ++ (e ∷ [])) l e (is_false _ (λ p. not-either _ h (paired-may t l e p).2));
    }

    pub reached-perform : Reached t (perform t s e)
    unfolding perform
    reached-perform = record {
      down = issued-down n;
      listed = λ x i. ⊎_elim (λ j. has-later x e s.issued (r.listed x j)) (λ (q : x ≡ e). rw (eq-eqb x e q)) (has_last x e s.gmo i);
      readers = λ x i g. ⊎_elim (λ (q : x ≡ e). ap (λ (y : ℕ). has y (s.gmo ++ (e ∷ []))) q ∙ has_here s.gmo [] e)
          (λ j. has_left x s.gmo (e ∷ []) (r.readers x j g)) (has_first x e s.issued i);
      long = length-set s.rf e (returned t s e) ∙ r.long;
      others = λ x l g. other x (λ q. not-either _ h (ap (reads t) (sym q) ∙ g)) ∙ r.others x l g;
      sound = extend k s.rf rf s.gmo e r.sound reader-follows
          (λ x i. other x (λ q. not-either _ i (ap (placed_in t s.gmo) q ∙ next-away t s r e n)));
    }

  -- a buffered store
  module _ (l : e < t.count) (held : buffered t s e ≡ true) where
    b : Buffered t s e
    b = buffered-is t s e held

    -- it is the oldest where no steady predecessor is missing: rule 6
    pub oldest-ready : Oldest t s e → ready t (placed_in t s.gmo) e ≡ true
    unfolding ready static_ppo may_order
    oldest-ready o = at-within t (placed_in t s.gmo) (λ a. static_ppo t a e) (λ a i h. is_true _ (λ away.
        let p : po t a e ≡ true = search (and_l, and_r) in
        not-either _ (held-is t s r a (search (and_l, and_r)) (r.down a e b.issued p) ∙ ap not away) (o.first a p)))

    pub ready-oldest : ready t (placed_in t s.gmo) e ≡ true → Oldest t s e
    unfolding ready may_order
    ready-oldest h = record {
      inside = l;
      held = held;
      first = λ d p. is_false _ (λ q.
          let x = buffered-is t s d q in
          not-either _ (within-at t (placed_in t s.gmo) (λ a. static_ppo t a e) h d (omega (arith, po-less t d e p))
          (static-writes k d e (rw (p, store-memory t d x.stored) (store-memory t e b.stored)) (store_writes t e b.stored)))
          x.away);
    }

    -- atomicity allows it
    abbrev pub Allows : Type 0
    Allows = (x : ℕ) → x < t.count → breaks_pair t s.rf (s.gmo ++ (e ∷ [])) x e ≡ false

    pub drain-allows : may_drain t s e ≡ true → Allows
    unfolding may_drain
    drain-allows h x i = none-at t.count (λ x. breaks_pair t s.rf (s.gmo ++ (e ∷ [])) x e) x (not-true _ h) i

    pub allows-drain : Allows → may_drain t s e ≡ true
    unfolding may_drain
    allows-drain h = ap not (some-none t.count _ h)

    -- it drains
    pub reached-drain : ready t (placed_in t s.gmo) e ≡ true → Allows → Reached t (drain s e)
    unfolding drain
    reached-drain steady allows = record {
      down = r.down;
      listed = λ x i. ⊎_elim (r.listed x) (λ (q : x ≡ e). ap (λ (y : ℕ). has y s.issued) q ∙ b.issued) (has_last x e s.gmo i);
      readers = λ x i g. has_left x s.gmo (e ∷ []) (r.readers x i g);
      long = r.long;
      others = r.others;
      sound = extend k s.rf s.rf s.gmo e r.sound follows (λ x i. refl);
    }
      where
        reads-not : reads t e ≡ true → ⊥
        reads-not h = not-either _ h (store-reads t e b.stored)

        follows : Follows t s.rf s.gmo e
        follows = record {
          event = is-event t e l (store-memory t e b.stored);
          new = b.away;
          steady = steady;
          may-read = λ h. absurd (reads-not h);
          settles = λ h. absurd (reads-not h);
          atomic = allows;
        }

-- what an accepted step is
module _ (t : Table) (s : State) (b : ℕ) (acc : accepts t s b ≡ true) where
  abbrev event : ℕ
  event = event_of t s b

  inside : event < t.count
  unfolding accepts
  inside = ltb-true event t.count (and_l _ _ acc)

  pub issue-parts : is_issue b ≡ true → Next t s event × (hart t event ≡ b) × (may_issue t s event ≡ true)
  unfolding accepts event_of
  issue-parts q =
      let n = next-is t s b (rw q at inside) in
      rw q (n.0, n.1, rw q at (and_r (ltb event t.count) _ acc))

  pub drain-parts : is_issue b ≡ false → Oldest t s event × (hart t event ≡ b - max_harts) × (may_drain t s event ≡ true)
  unfolding accepts event_of
  drain-parts q =
      let o = oldest-is t s (b - max_harts) (rw q at inside) in
      rw q (o.0, o.1, rw q at (and_r (ltb event t.count) _ acc))

  -- its event is issued then
  pub step-issued : has event (stepped t s b).issued ≡ true
  unfolding stepped enter perform drain
  step-issued = go (is_issue b) refl (reads t event)
    where
      go : (i : Bool) → is_issue b ≡ i → (c : Bool) →
          has event (cond i (cond c (perform t s event) (enter s event)) (drain s event)).issued ≡ true
      go true q true = rw (eq-eqb event event refl)
      go true q false = rw (eq-eqb event event refl)
      go false q c = (buffered-is t s event (drain-parts q).0.held).issued

  -- an event that was issued before stays so, and its entry stays
  pub step_kept : (x : ℕ) → has x s.issued ≡ true →
      (has x (stepped t s b).issued ≡ true) × (from (stepped t s b).rf x ≡ from s.rf x)
  unfolding stepped enter perform drain from
  step_kept x h = go (is_issue b) refl (reads t event)
    where
      go : (i : Bool) → is_issue b ≡ i → (c : Bool) → let u = cond i (cond c (perform t s event) (enter s event)) (drain s event) in
          (has x u.issued ≡ true) × (from u.rf x ≡ from s.rf x)
      go true q true = (
        has-later x event s.issued h,
        get_or-set_other s.rf event x (returned t s event) nothing
            (λ d. not-either _ h (ap (λ (y : ℕ). has y s.issued) d ∙ (issue-parts q).0.new)),
      )
      go true q false = (has-later x event s.issued h, refl)
      go false q c = (h, refl)

pub reached-step : {t : Table} → TsoTable t → (s : State) (b : ℕ) → Reached t s → accepts t s b ≡ true → Reached t (stepped t s b)
unfolding stepped
reached-step {t} k s b r acc = go (is_issue b) refl
  where
    issues : (e : ℕ) → Next t s e → may_issue t s e ≡ true → (c : Bool) → reads t e ≡ c → Reached t (cond c (perform t s e) (enter s e))
    issues e n may true h = reached-perform k r e n h (sym (issue-is k r e n h) ∙ may)
    issues e n may false h = reached-enter k r e n h

    drains : (e : ℕ) → Oldest t s e → may_drain t s e ≡ true → Reached t (drain s e)
    drains e o may =
        reached-drain k r e o.inside o.held (oldest-ready k r e o.inside o.held o)
        (drain-allows k r e o.inside o.held may)

    go : (i : Bool) → is_issue b ≡ i → Reached t (stepped t s b)
    go true q = let p = issue-parts t s b acc q in rw q (issues (event_of t s b) p.0 p.2 (reads t (event_of t s b)) refl)
    go false q = let p = drain-parts t s b acc q in rw q (drains (event_of t s b) p.0 p.2)
