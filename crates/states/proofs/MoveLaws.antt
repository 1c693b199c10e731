-- What may be placed still may when events are placed that it doesn't notice. So a quiet reader can come first.
use Prim.Native.Nat.{ℕ, ◌<◌}
use mathlib.Core.Path.{◌≡◌, refl, sym, ap, ap₂, ◌∙◌, fun_ext}
use mathlib.Core.Bool.{Bool, true, false, cond, not, ◌&&◌, ◌||◌}
use mathlib.Core.List.{List, [], ◌∷◌}
use mathlib.Core.Logic.{inl, ⊎_elim}
use lib.Dec.{eqb, ltb}
use borrow.Author.Tests.{eqb-true, eq-eqb, ne_eqb, not-true}
use Rattle.lists.specs.Below.{some, below}
use Rattle.lists.specs.Lists.{last_or}
use Rattle.lists.proofs.BoolLaws.{and_l, and_r, and_both, or_cases, not-either, is_false, or-implied, implied, eqb_comm}
use Rattle.lists.proofs.SomeLaws.{some_at, some-found, some-none, none-at, some_same}
use Rattle.masks.specs.Bit.{bit}
use Rattle.table.specs.declared.Table.{Table}
use Rattle.table.specs.Events.{event, kind, reads, writes, same_location, paired, store}
use Rattle.table.proofs.ProgramOrderLaws.{same-trans, same-sym}
use Rattle.model.specs.Rules.{static_ppo}
use Rattle.model.specs.Witness.{is_memory_event}
use Rattle.placing.specs.Guards.{own, depends, rereads, within, ready, forwarder, may_forward, may_read, may_write}
use Rattle.placing.specs.GoodTable.{GoodTable}
use Rattle.placing.proofs.GuardLaws.{own-parts, within-at, at-within}
use Rattle.order_facts.specs.Facts.{own_writer, opens, grounds, is_open, guards, here, reads_good, peers, wrong}
use Rattle.order_facts.proofs.WriteLaws.{bars, write-bars}
use Rattle.states.specs.declared.State.{State}
use Rattle.states.specs.States.{ends_well, accepts, step, runs}
use Rattle.states.specs.Choices.{watched, quiet_reader}
use Rattle.states.specs.Completions.{Enough}
use Rattle.states.proofs.StepLaws.{placed-step, placed-more, placed_less, placed-other, good-kept, steps-swap}
use Rattle.states.proofs.StepLaws.{May, accepts-may, may-accepts, event-counted, not-ended}

module _ {t : Table} (good : GoodTable t) where
  -- who opens a window, or has to be placed before it is open, is at its location
  opens-here : (v b : ℕ) → v < t.count → b < t.count → opens t v b ≡ true → same_location t b v ≡ true
  unfolding opens rereads
  opens-here v b i j o =
      ⊎_elim (λ q. same-sym t v b (search (and_l, and_r))) (λ q. good.pairs b v j i q)
      (or_cases (not (writes t v) && rereads t v b) _ o)

  grounds-here : (v w : ℕ) → v < t.count → grounds t v w ≡ true → (writes t w ≡ true) × (same_location t w v ≡ true)
  unfolding grounds own_writer
  grounds-here v w i g =
      ⊎_elim (λ q. let o = own-parts t v w (search (and_l, and_r)) in (o.0, o.1))
      (λ q. let f = some-found t.count (λ l. paired t l v && (reads t l && own t l w)) q in
      let x = f.2 in
      let o = own-parts t f.0 w (and_r (reads t f.0) _ (and_r (paired t f.0 v) _ x)) in
      (o.0, same-trans t w f.0 v o.1 (good.pairs f.0 v f.1 i (and_l _ _ x))))
      (or_cases (not (writes t v) && (reads t v && own t v w)) _ g)

-- a can't tell two sets apart: by the writers to its location, and by the windows that are open there
pub record Alike (t : Table) (P Q : ℕ → Bool) (a : ℕ) : Type 0 where
  pub writers : (w : ℕ) → writes t w ≡ true → same_location t w a ≡ true → P w ≡ Q w
  pub missing : (v : ℕ) → guards t a v ≡ true → Q v ≡ false → P v ≡ false
  pub windows : (v b : ℕ) → v < t.count → b < t.count → guards t a v ≡ true → Q v ≡ false → opens t v b ≡ true →
      Q b ≡ true → P b ≡ true

guards-here : (t : Table) (w v : ℕ) → guards t w v ≡ true → same_location t v w ≡ true
unfolding guards
guards-here t w v h = same-sym t w v (search (and_l, and_r))

-- sets that agree at its location
pub alike-here : {t : Table} → GoodTable t → (P Q : ℕ → Bool) (a : ℕ) →
    ((x : ℕ) → same_location t x a ≡ true → P x ≡ Q x) → Alike t P Q a
alike-here {t} good P Q a agree = record {
  writers = λ w h s. agree w s;
  missing = λ v g n. agree v (guards-here t a v g) ∙ n;
  windows = λ v b i j g n o p. agree b (same-trans t b v a (opens-here good v b i j o) (guards-here t a v g)) ∙ p;
}

module _ {t : Table} (good : GoodTable t) {P Q : ℕ → Bool} {a : ℕ} (alike : Alike t P Q a) where
  pub forwarder-same : forwarder t P a ≡ forwarder t Q a
  unfolding forwarder
  forwarder-same = ap (λ (f : ℕ → Bool). last_or f t.count (below t.count)) (fun_ext (λ w. go w (own t a w) refl))
    where
      go : (w : ℕ) (b : Bool) → own t a w ≡ b → (b && not (P w)) ≡ (b && not (Q w))
      go w true o = let q = own-parts t a w o in ap not (alike.writers w q.0 q.1)
      go w false o = refl

  ends_same : ends_well t P a ≡ ends_well t Q a
  unfolding ends_well peers
  ends_same = ap (λ (b : Bool). not (wrong t a) || b) (some_same t.count _ _ (λ v l. go v (peers t a v) refl))
    where
      go : (v : ℕ) (b : Bool) → peers t a v ≡ b → (b && not (P v)) ≡ (b && not (Q v))
      go v true p = ap not (alike.writers v (search (and_l, and_r)) (search (and_l, and_r)))
      go v false p = refl

  good-same : (now later : ℕ → Bool) → now a ≡ later a → reads_good t P now a ≡ reads_good t Q later a
  unfolding reads_good
  good-same now later e =
      ap₂ (λ (f : ℕ) (b : Bool). not (reads t a) || cond (ltb f t.count) (eqb (event t f).written (event t a).read) b)
      forwarder-same e

  read_more : (reads t a ≡ true → ltb (forwarder t P a) t.count ≡ true → may_forward t P (forwarder t P a) ≡ true →
      may_forward t Q (forwarder t P a) ≡ true) →
      (not (reads t a) || may_read t P a) ≡ true → (not (reads t a) || may_read t Q a) ≡ true
  unfolding may_read
  read_more f h =
      or-implied (reads t a) _ (λ r. rw (sym forwarder-same)
      (or-implied (ltb (forwarder t P a) t.count) _ (λ i. f r i (implied _ _ (implied (reads t a) _ h r) i))))

  open-before : (v : ℕ) → v < t.count → guards t a v ≡ true → Q v ≡ false → is_open t Q v ≡ true → is_open t P v ≡ true
  unfolding is_open
  open-before v i g n h =
      let f = some-found t.count (λ b. opens t v b && Q b) (and_l _ _ h) in
      let o = and_l (opens t v f.0) _ f.2 in
      rw (some_at t.count (λ b. opens t v b && P b) f.0 f.1
      (rw o (alike.windows v f.0 i f.1 g n o (and_r (opens t v f.0) _ f.2))))
      (at-within t P (grounds t v) (λ w l q. let x = grounds-here good v w i q in
      alike.writers w x.0 (same-trans t w v a x.1 (guards-here t a v g))
      ∙ within-at t Q (grounds t v) (and_r (some t.count (λ b. opens t v b && Q b)) _ h) w l q))

  write-more : (not (writes t a) || may_write t P a) ≡ true → (not (writes t a) || may_write t Q a) ≡ true
  write-more m =
      write-bars good Q a ∙ ap not (some-none t.count (bars good Q a) (λ v l. is_false _ (λ h.
      let g : guards t a v ≡ true = search (and_l, and_r) in
      let n : Q v ≡ false = not-true _ (search (and_l, and_r)) in
      let o : is_open t Q v ≡ true = search (and_l, and_r) in
      not-either _ (rw (g, alike.missing v g n) (open-before v l g n o))
      (none-at t.count (bars good P a) v (not-true _ (sym (write-bars good P a) ∙ m)) l))))

  -- so a may be placed behind both, if it isn't placed, nothing is missing, and it reads the same value
  pub may-alike : (now later : ℕ → Bool) → Q a ≡ false → ready t Q a ≡ true → now a ≡ later a →
      (reads t a ≡ true → ltb (forwarder t P a) t.count ≡ true → may_forward t P (forwarder t P a) ≡ true →
      may_forward t Q (forwarder t P a) ≡ true) → May t P now a → May t Q later a
  may-alike now later n r e f m = record {
    known = m.known;
    new = n;
    steady = r;
    read = read_more f m.read;
    write = write-more m.write;
    value = sym (good-same now later e) ∙ m.value;
    final = sym ends_same ∙ m.final;
  }

-- e is placed, and a doesn't notice it.
module _ (t : Table) (s : State) (e : ℕ) where
  within_more : (f : ℕ → Bool) → within t (bit s.placed) f ≡ true → within t (bit (step t s e).placed) f ≡ true
  within_more f h = at-within t _ f (λ a l q. placed-more t s e a (within-at t (bit s.placed) f h a l q))

  pub ready-more : (a : ℕ) → ready t (bit s.placed) a ≡ true → ready t (bit (step t s e).placed) a ≡ true
  unfolding ready
  ready-more a h = within_more (λ x. static_ppo t x a) h

  forward-more : (w : ℕ) → may_forward t (bit s.placed) w ≡ true → may_forward t (bit (step t s e).placed) w ≡ true
  unfolding may_forward
  forward-more w h = and_both (eqb (kind t w) store) _ (and_l _ _ h) (within_more (depends t w) (and_r (eqb (kind t w) store) _ h))

  pub accepts-more : GoodTable t → (a : ℕ) → Alike t (bit s.placed) (bit (step t s e).placed) a →
      eqb e a ≡ false → here t e a ≡ false → accepts t s a ≡ true → accepts t (step t s e) a ≡ true
  accepts-more good a alike d h c =
      let m = accepts-may t s a c in
      let n = placed-other t s e a d ∙ m.new in
      may-accepts t (step t s e) a (may-alike good alike (bit s.good) (bit (step t s e).good) n (ready-more a m.steady)
      (sym (good-kept t s e a h n)) (λ r i. forward-more (forwarder t (bit s.placed) a)) m)

-- What the test of a quiet reader says.
module _ (t : Table) (placed : ℕ → Bool) where
  is-watched : (v w : ℕ) → placed v ≡ false → w < t.count → placed w ≡ false → guards t w v ≡ true → watched t placed v ≡ true
  unfolding watched
  is-watched v w n l m g = rw n (some_at t.count (λ w. not (placed w) && guards t w v) w l (rw m g))

  watched-parts : (v : ℕ) → watched t placed v ≡ true →
      (placed v ≡ false) × ((w : ℕ) × (w < t.count) × (placed w ≡ false) × (guards t w v ≡ true))
  unfolding watched
  watched-parts v h =
      let f = some-found t.count (λ w. not (placed w) && guards t w v) (and_r (not (placed v)) _ h) in
      (not-true _ (and_l _ _ h), (f.0, f.1, not-true _ (and_l _ _ f.2), and_r (not (placed f.0)) _ f.2))

  quiet-reads : (e : ℕ) → quiet_reader t placed e ≡ true → writes t e ≡ false
  unfolding quiet_reader
  quiet-reads e q = not-true _ (and_l _ _ q)

  quiet-opens : (e v : ℕ) → quiet_reader t placed e ≡ true → v < t.count → watched t placed v ≡ true → opens t v e ≡ false
  unfolding quiet_reader
  quiet-opens e v q l h =
      rw h at (none-at t.count (λ v. watched t placed v && opens t v e) v (not-true _ (and_r (not (writes t e)) _ q)) l)

  is-quiet : (e : ℕ) → writes t e ≡ false → ((v : ℕ) → v < t.count → watched t placed v ≡ true → opens t v e ≡ false) →
      quiet_reader t placed e ≡ true
  unfolding quiet_reader
  is-quiet e n f = rw n (ap not (some-none t.count (λ v. watched t placed v && opens t v e) (λ v l.
      is_false _ (λ h. not-either _ (and_r (watched t placed v) _ h) (f v l (and_l _ _ h))))))

module _ (t : Table) where
  -- what only reads is no event that another reads from
  not-here : (e x : ℕ) → writes t e ≡ false → here t e x ≡ false
  unfolding here
  not-here e x n = rw n

  quiet-alike : (s : State) (e a : ℕ) → quiet_reader t (bit s.placed) e ≡ true → a < t.count → bit s.placed a ≡ false →
      Alike t (bit s.placed) (bit (step t s e).placed) a
  quiet-alike s e a q l n = record {
    writers = λ w h k. sym (placed-other t s e w (ne_eqb e w (λ (d : e ≡ w).
        not-either _ h (ap (writes t) (sym d) ∙ quiet-reads t _ e q))));
    missing = λ v g m. placed_less t s e v m;
    windows = λ v b i j g m o p. ⊎_elim (λ h. h)
        (λ h. absurd (not-either _ (ap (opens t v) (eqb-true e b h) ∙ o)
        (quiet-opens t (bit s.placed) e v q i (is-watched t (bit s.placed) v a (placed_less t s e v m) l n g))))
        (or_cases (bit s.placed b) _ (sym (placed-step t s e b) ∙ p));
  }

  quiet-more : (s : State) (a e : ℕ) → quiet_reader t (bit s.placed) e ≡ true → quiet_reader t (bit (step t s a).placed) e ≡ true
  quiet-more s a e q = is-quiet t _ e (quiet-reads t (bit s.placed) e q) (λ v l h.
      let x = watched-parts t (bit (step t s a).placed) v h in
      let f = x.1 in
      quiet-opens t (bit s.placed) e v q l
      (is-watched t (bit s.placed) v f.0 (placed_less t s a v x.0) f.1 (placed_less t s a f.0 f.2) f.3))

  -- a quiet reader comes first
  quiet-first : GoodTable t → (s : State) (e : ℕ) (l : List ℕ) → is_memory_event t e ≡ true → bit s.placed e ≡ false →
      quiet_reader t (bit s.placed) e ≡ true → runs t s l ≡ true → (rest : List ℕ) × (runs t (step t s e) rest ≡ true)
  unfolding runs
  quiet-first good s e [] k n q r = absurd (not-either _ r (not-ended t s e k n))
  quiet-first good s e (a ∷ l) k n q r = go (eqb e a) refl (quiet-first good (step t s a) e l k)
    where
      go : (b : Bool) → eqb e a ≡ b →
          (bit (step t s a).placed e ≡ false → quiet_reader t (bit (step t s a).placed) e ≡ true → runs t (step t s a) l ≡ true →
          (rest : List ℕ) × (runs t (step t (step t s a) e) rest ≡ true)) → (rest : List ℕ) × (runs t (step t s e) rest ≡ true)
      go true d later = (l, ap (λ (x : ℕ). runs t (step t s x) l) (eqb-true e a d) ∙ and_r (accepts t s a) _ r)
      go false d later =
          let m = accepts-may t s a (and_l _ _ r) in
          let x = later (placed-other t s a e (eqb_comm a e ∙ d) ∙ n) (quiet-more s a e q) (and_r (accepts t s a) _ r) in
          let h = quiet-reads t (bit s.placed) e q in (
            a ∷ x.0,
            and_both _ _
                (accepts-more t s e good a (quiet-alike s e a q (event-counted t a m.known) m.new) d
                (not-here e a h) (and_l _ _ r))
                (ap (λ (u : State). runs t u x.0) (steps-swap t s e a (λ y. inl (not-here e y h))) ∙ x.1),
          )

  pub eager : GoodTable t → (s : State) (e : ℕ) → accepts t s e ≡ true → quiet_reader t (bit s.placed) e ≡ true →
      Enough t s (eqb e)
  eager good s e c q l r d =
      let m = accepts-may t s e c in
      let x = quiet-first good s e l m.known m.new q r in
      record { next = e; rest = x.0; listed = eq-eqb e e refl; may = c; run = x.1 }
