-- Rule 2, asked of each writer at its place.
use Prim.Native.Nat.{ℕ, ◌<◌}
use native.Mathlib.Omega.{arith}
use mathlib.Core.Path.{◌≡◌, refl, sym, ap, ◌∙◌}
use mathlib.Core.Bool.{true, false, not, ◌&&◌, ◌||◌, or-true}
use mathlib.Core.List.{List}
use mathlib.Core.Logic.{◌⊎◌, inl, inr, ⊎_elim}
use lib.Dec.{eqb, ltb}
use borrow.Author.Tests.{eqb-true, eq-eqb, ne_eqb, lt-ltb, not-true}
use Rattle.lists.specs.Lists.{has, before}
use Rattle.lists.proofs.BoolLaws.{and_l, and_r, and_both, or_l, not-either, is_false, is_true, implied}
use Rattle.lists.proofs.SomeLaws.{none-at}
use Rattle.lists.proofs.BeforeLaws.{before-has, before-turned}
use Rattle.lists.proofs.LatestLaws.{last-either, last-latest}
use Rattle.table.specs.declared.Table.{Table}
use Rattle.table.specs.Events.{kind, hart, reads, writes, memory, same_location, po, between, reading_kind, store}
use Rattle.table.proofs.ProgramOrderLaws.{po-less, po-hart, po-cases, po-trans, same-trans, same-sym}
use Rattle.model.specs.Rules.{initially, from, rule2, may_order}
use Rattle.model.specs.Returns.{visible, return_of, returns}
use Rattle.model.proofs.VerdictLaws.{returns-at}
use Rattle.placing.specs.Guards.{own, rereads, within, forwarder, may_forward, may_read, open_read, open_pair}
use Rattle.placing.specs.Entries.{ahead}
use Rattle.placing.proofs.GuardLaws.{own-parts, is-own, within-at, at-within, forwards, forwarder-latest, is-open-read, open-read}
use Rattle.placing.proofs.KeptLaws.{Kept, self, trans, counted, not-initial, is-memory, reader-in, overlap}
use Rattle.placing.proofs.SourceLaws.{seen, seen_parts, sees-before, sees-own}
use Rattle.placing.proofs.WindowLaws.{behind, Foreign, other-event, window, Closed, closed_at}

module _ (t : Table) (a b : ℕ) where
  -- rule 2 is that b reads a's location again, and returns from another write
  second : (rf : List ℕ) → po t a b ≡ true → rule2 t rf a b ≡ true →
      (rereads t a b ≡ true) × (eqb (from rf a) (from rf b) ≡ false)
  unfolding rule2 rereads
  second rf p h = (rw p (and_l _ _ h), not-true (eqb (from rf a) (from rf b)) (search (and_l, and_r)))

  is-second : (rf : List ℕ) → rereads t a b ≡ true → eqb (from rf a) (from rf b) ≡ false → rule2 t rf a b ≡ true
  unfolding rule2 rereads
  is-second rf h n = let p : po t a b ≡ true = search (and_l, and_r) in and_both _ _ (rw p at h) (ap not n)

  module _ (h : rereads t a b ≡ true) where
    again : (po t a b ≡ true) × (reads t a ≡ true) × (reads t b ≡ true) × (same_location t a b ≡ true)
    unfolding rereads
    again = (search (and_l, and_r), search (and_l, and_r), search (and_l, and_r), search (and_l, and_r))

    -- no writer to the location is between
    quiet : (m : ℕ) → m < t.count → po t a m ≡ true → po t m b ≡ true → writes t m ≡ true → same_location t m a ≡ true → ⊥
    unfolding rereads between
    quiet m l p q w s =
        not-either (between t a m b && writes t m && same_location t m a) (rw (p, q, w) s)
        (none-at t.count _ m (not-true _ (and_r (po t a b && reads t a && reads t b && same_location t a b) _ h)) l)

    -- b's own writers are a's, and a itself if it writes
    own-again : (u : ℕ) → u < t.count → own t b u ≡ true → (u ≡ a) ⊎ (own t a u ≡ true)
    own-again u l o =
        let q = own-parts t b u o in
        let s = same-trans t u b a q.1 (same-sym t a b again.3) in
        ⊎_elim (λ p. inr (is-own t a u q.0 s p)) (⊎_elim (λ (e : u ≡ a). inl e) (λ p. absurd (quiet u l p q.2 q.0 s)))
        (po-cases t u a (po-hart t u b q.2 ∙ sym (po-hart t a b again.0)))

    own-more : (u : ℕ) → own t a u ≡ true → own t b u ≡ true
    own-more u o =
        let q = own-parts t a u o in
        is-own t b u q.0 (same-trans t u a b q.1 again.3) (po-trans t u a b q.2 again.0)

module _ {t : Table} {gmo : List ℕ} (k : Kept t gmo) where
  abbrev rf : List ℕ
  rf = returns t gmo

  -- rule 2 keeps the order
  abbrev pub SecondKept : Type 0
  SecondKept = (a b : ℕ) → a < t.count → b < t.count → may_order t a b ≡ true → rule2 t rf a b ≡ true → before gmo a b ≡ true

  -- Where it does, no writer w finds its window open: w stands behind what b returns from, and not behind what a does.
  pub reads-closed : SecondKept → (w a : ℕ) → Foreign t gmo w a → a < t.count → open_read t (ahead gmo w) a ≡ false
  unfolding may_order
  reads-closed kept w a f i = is_false _ opened
    where
      opened : open_read t (ahead gmo w) a ≡ true → ⊥
      opened o = not-either _ (trans k a b w (kept a b i j may (is-second t a b rf g differ)) b-first) x.1
        where
          x : (writes t a ≡ false) × (before gmo a w ≡ false) × (within t (ahead gmo w) (own t a) ≡ true)
              × ((b : ℕ) × (b < t.count) × (rereads t a b ≡ true) × (before gmo b w ≡ true))
          x = open-read t (ahead gmo w) a o

          b : ℕ
          b = x.3.0

          j : b < t.count
          j = x.3.1

          g : rereads t a b ≡ true
          g = x.3.2

          b-first : before gmo b w ≡ true
          b-first = x.3.3

          q : (po t a b ≡ true) × (reads t a ≡ true) × (reads t b ≡ true) × (same_location t a b ≡ true)
          q = again t a b g

          a_in : has a gmo ≡ true
          a_in = reader-in k a i q.1

          b-in : has b gmo ≡ true
          b-in = reader-in k b j q.2

          may : (po t a b && memory t a && memory t b) ≡ true
          may = rw (q.0, is-memory k a a_in) (is-memory k b b-in)

          own_in : (u : ℕ) → u < t.count → own t b u ≡ true → before gmo u w ≡ true
          own_in u m o =
              ⊎_elim (λ (e : u ≡ a). absurd (not-either _ (own-parts t b u o).0 (ap (writes t) e ∙ x.0)))
              (within-at t (ahead gmo w) (own t a) x.2 u m) (own-again t a b g u m o)

          a-behind : behind t gmo a w ≡ false
          a-behind = window k a w a_in f.listed f.writer f.here (other-event t gmo w a a f refl) ∙ rw x.1

          b-behind : behind t gmo b w ≡ true
          b-behind =
              window k b w b-in f.listed f.writer (same-trans t w a b f.here q.3)
              (other-event t gmo w a b f (sym (po-hart t a b q.0)))
              ∙ rw b-first (at-within t (ahead gmo w) (own t b) own_in)

          differ : eqb (from rf a) (from rf b) ≡ false
          differ =
              rw (returns-at t gmo a i q.1, returns-at t gmo b j q.2)
              (is_false _ (λ e. not-either _ b-behind
              (ap (λ (y : ℕ). eqb y initially || before gmo y w) (sym (eqb-true (return_of t gmo a) _ e)) ∙ a-behind)))

  -- And back. Let b stand before a and return from another write, though no writer finds a window open.
  module _ (closed : Closed k) (a b : ℕ) (i : a < t.count) (j : b < t.count) (g : rereads t a b ≡ true)
      (may : may_read t (ahead gmo b) b ≡ true) (differ : eqb (return_of t gmo a) (return_of t gmo b) ≡ false)
      (late : before gmo b a ≡ true) where
    q : (po t a b ≡ true) × (reads t a ≡ true) × (reads t b ≡ true) × (same_location t a b ≡ true)
    q = again t a b g

    a_in : has a gmo ≡ true
    a_in = reader-in k a i q.1

    b-in : has b gmo ≡ true
    b-in = reader-in k b j q.2

    wrong : before gmo a b ≡ true → ⊥
    wrong h = self k a (trans k a b a h late)

    -- b doesn't write: rule 1
    b-pure : writes t b ≡ false
    b-pure = is_false _ (λ h. wrong (overlap k a b a_in b-in q.0 q.3 h))

    abbrev f : ℕ
    f = forwarder t (ahead gmo b) b

    -- nor does a: b would return from an AMO that isn't placed
    a-pure : writes t a ≡ false
    unfolding may_read may_forward reads
    a-pure = is_false _ (λ h.
        let l = forwarder-latest t (ahead gmo b) b a i (is-own t b a h q.3 q.0) (is_false _ wrong) in
        let c = lt-ltb f t.count l.1 in
        let plain = and_l (eqb (kind t f) store) _ (implied (ltb f t.count) _ may c) in
        ⊎_elim (λ (e : f ≡ a). not-either _ q.1 (ap reading_kind (eqb-true (kind t a) store (rw e at plain))))
        (λ o. absurd (omega (arith, po-less t f a (own-parts t a f o).2)))
        (own-again t a b g f l.1 (forwards t (ahead gmo b) b c).0))

    -- what b sees, a sees
    more : (u : ℕ) → has u gmo ≡ true → visible t gmo b u ≡ true → visible t gmo a u ≡ true
    more u m v =
        let p = seen_parts k b u v in
        ⊎_elim (λ c. sees-before k a u p.0 (same-trans t u b a p.1 (same-sym t a b q.3)) (trans k u b a c late))
        (λ o. ⊎_elim (λ (e : u ≡ a). absurd (not-either _ p.0 (ap (writes t) e ∙ a-pure)))
        (sees-own k a u) (own-again t a b g u (counted k u m) o))
        (seen k b u v)

    -- a write that a sees finds a's window open, if it stands behind what b returns from
    opened : (w : ℕ) → has w gmo ≡ true → visible t gmo a w ≡ true → behind t gmo b w ≡ true → ⊥
    opened w m v h =
        not-either _
        (is-open-read t (ahead gmo w) a b a-pure (is_false _ (λ c. self k a (trans k a w a c w-first))) j g b-first
        (at-within t (ahead gmo w) (own t a) (λ u l o. own_in u l (own-more t a b g u o))))
        (or_l _ (open_pair t (ahead gmo w) a) (closed_at k closed w a foreign i))
      where
        p : (writes t w ≡ true) × (same_location t w a ≡ true)
        p = seen_parts k a w v

        not-b : eqb w b ≡ false
        not-b = ne_eqb w b (λ e. not-either _ p.0 (ap (writes t) e ∙ b-pure))

        open-b : (before gmo b w && within t (ahead gmo w) (own t b)) ≡ true
        open-b = sym (window k b w b-in m p.0 (same-trans t w a b p.1 q.3) not-b) ∙ h

        b-first : before gmo b w ≡ true
        b-first = and_l _ _ open-b

        own_in : (u : ℕ) → u < t.count → own t b u ≡ true → before gmo u w ≡ true
        own_in = within-at t (ahead gmo w) (own t b) (and_r (before gmo b w) _ open-b)

        not_own : own t a w ≡ true → ⊥
        not_own o = self k w (own_in w (counted k w m) (own-more t a b g w o))

        w-first : before gmo w a ≡ true
        w-first = ⊎_elim (λ c. c) (λ o. absurd (not_own o)) (seen k a w v)

        -- its hart's later writes stand behind a: rule 1
        not-here : hart t w ≡ hart t a → ⊥
        not-here e =
            ⊎_elim (λ c. not_own (is-own t a w p.0 p.1 c))
            (⊎_elim (λ (c : w ≡ a). not-either _ p.0 (ap (writes t) c ∙ a-pure))
            (λ c. self k a (trans k a w a (overlap k a w a_in m c (same-sym t w a p.1) p.0) w-first)))
            (po-cases t w a e)

        foreign : Foreign t gmo w a
        foreign = record { listed = m; writer = p.0; here = p.1; other = ne_eqb (hart t w) (hart t a) not-here }

    -- what a returns from is one
    both-same : ⊥
    unfolding return_of
    both-same = ⊎_elim initial later (last-either (visible t gmo b) initially gmo)
      where
        x : ℕ
        x = return_of t gmo a

        y : ℕ
        y = return_of t gmo b

        initial : y ≡ initially → ⊥
        initial e =
            ⊎_elim (λ c. not-either _ (eq-eqb x y (c ∙ sym e)) differ) (λ c. opened x c.0 c.1 (rw (eq-eqb y initially e)))
            (last-either (visible t gmo a) initially gmo)

        later : (has y gmo ≡ true) × (visible t gmo b y ≡ true) → ⊥
        later r =
            ⊎_elim (λ (e : y ≡ x). not-either _ (eq-eqb x y (sym e)) differ)
            (λ c. ⊎_elim (λ e. not-either _ (eq-eqb x initially e) (not-initial k x (before-has gmo y x c).1))
            (λ d. opened x d.0 d.1 (rw c (or-true (eqb y initially)))) (last-either (visible t gmo a) initially gmo))
            (last-latest (visible t gmo a) initially gmo y r.0 (more y r.0 r.1))

  pub second-kept : Closed k → ((r : ℕ) → r < t.count → reads t r ≡ true → may_read t (ahead gmo r) r ≡ true) → SecondKept
  unfolding may_order
  second-kept closed may a b i j m h = is_true _ (λ n. both-same closed a b i j s.0 (may b j q.2) differ (late n))
    where
      p : po t a b ≡ true
      p = search (and_l, and_r)

      s : (rereads t a b ≡ true) × (eqb (from rf a) (from rf b) ≡ false)
      s = second t a b rf p h

      q : (po t a b ≡ true) × (reads t a ≡ true) × (reads t b ≡ true) × (same_location t a b ≡ true)
      q = again t a b s.0

      differ : eqb (return_of t gmo a) (return_of t gmo b) ≡ false
      differ = rw (returns-at t gmo a i q.1, returns-at t gmo b j q.2) at s.1

      late : before gmo a b ≡ false → before gmo b a ≡ true
      late n =
          before-turned gmo a b k.different (reader-in k a i q.1) (reader-in k b j q.2)
          (ne_eqb a b (λ e. absurd (omega (arith, po-less t a b p))))
          ∙ ap not n
