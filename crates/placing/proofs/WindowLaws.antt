-- Where a write stands behind what a reader returns from; and atomicity, asked of each writer at its place.
use Prim.Native.Nat.{ℕ, ◌<◌}
use native.Mathlib.Omega.{arith}
use mathlib.Core.Path.{◌≡◌, refl, sym, ap, ◌∙◌}
use mathlib.Core.Bool.{Bool, true, false, not, ◌&&◌, ◌||◌, or-true}
use mathlib.Core.List.{List}
use mathlib.Core.Logic.{⊎_elim}
use lib.Dec.{eqb}
use borrow.Author.Tests.{eqb-true, eq-eqb, ne_eqb, not-true}
use Rattle.lists.specs.Below.{some}
use Rattle.lists.specs.Lists.{has, before}
use Rattle.lists.proofs.BoolLaws.{and_l, and_r, and_both, bool-ext, or_r, neither, not-either, is_false, eqb_comm}
use Rattle.lists.proofs.SomeLaws.{some_at, some-none, none-at}
use Rattle.lists.proofs.BeforeLaws.{before-has, before-turned}
use Rattle.lists.proofs.LatestLaws.{last-either, last-latest}
use Rattle.table.specs.declared.Table.{Table}
use Rattle.table.specs.Events.{kind, hart, reads, writes, same_location, po, paired, reading_kind, writing_kind, lr, sc}
use Rattle.table.proofs.ProgramOrderLaws.{po-less, po-hart, po-trans, same-trans, same-sym}
use Rattle.model.specs.Rules.{initially}
use Rattle.model.specs.Returns.{visible, return_of, returns}
use Rattle.model.specs.Axioms.{write_is_late, intrudes, breaks_pair}
use Rattle.model.proofs.VerdictLaws.{returns-at}
use Rattle.placing.specs.Guards.{own, within, open_read, open_pair, intruding, may_write}
use Rattle.placing.specs.Entries.{ahead}
use Rattle.placing.proofs.GuardLaws.{own-parts, within-at, at-within, is-open-pair, open-pair}
use Rattle.placing.proofs.KeptLaws.{Kept, self, trans, counted, not-initial, reader-in, writer_in, overlap}
use Rattle.placing.proofs.SourceLaws.{seen, sees-before, sees-own}

-- w stands behind what r returns from
abbrev pub behind : Table → List ℕ → ℕ → ℕ → Bool
behind t gmo r w = eqb (return_of t gmo r) initially || before gmo (return_of t gmo r) w

-- w is another hart's write to r's location
pub record Foreign (t : Table) (gmo : List ℕ) (w r : ℕ) : Type 0 where
  pub listed : has w gmo ≡ true
  pub writer : writes t w ≡ true
  pub here : same_location t w r ≡ true
  pub other : eqb (hart t w) (hart t r) ≡ false

-- it is no event of r's hart
pub other-event : (t : Table) (gmo : List ℕ) (w r s : ℕ) → Foreign t gmo w r → hart t s ≡ hart t r → eqb w s ≡ false
other-event t gmo w r s f e = ne_eqb w s (λ q. not-either _ (eq-eqb (hart t w) (hart t r) (ap (hart t) q ∙ e)) f.other)

module _ {t : Table} {gmo : List ℕ} (k : Kept t gmo) where
  abbrev rf : List ℕ
  rf = returns t gmo

  -- a write behind what r returns from stands behind all that r sees
  behind-all : (r w u : ℕ) → behind t gmo r w ≡ true → has u gmo ≡ true → visible t gmo r u ≡ true → before gmo u w ≡ true
  unfolding return_of
  behind-all r w u h i v =
      ⊎_elim (λ (q : u ≡ s). rw q (last (rw q at i))) (λ b. trans k u s w b (last (before-has gmo u s b).1))
      (last-latest (visible t gmo r) initially gmo u i v)
    where
      s : ℕ
      s = return_of t gmo r

      last : has s gmo ≡ true → before gmo s w ≡ true
      last j = rw (not-initial k s j) at h

  all-behind : (r w : ℕ) → ((u : ℕ) → has u gmo ≡ true → visible t gmo r u ≡ true → before gmo u w ≡ true) →
      behind t gmo r w ≡ true
  unfolding return_of
  all-behind r w h =
      let s = return_of t gmo r in
      ⊎_elim (λ q. rw (eq-eqb s initially q)) (λ q. rw (h s q.0 q.1) (or-true (eqb s initially)))
      (last-either (visible t gmo r) initially gmo)

  -- Another writer to r's location stands there exactly if r and all that r's hart wrote before stand before it.
  pub window : (r w : ℕ) → has r gmo ≡ true → has w gmo ≡ true → writes t w ≡ true → same_location t w r ≡ true →
      eqb w r ≡ false → behind t gmo r w ≡ (before gmo r w && within t (ahead gmo w) (own t r))
  window r w i j h s n =
      bool-ext _ _
      (λ b. and_both (before gmo r w) _
      (before-turned gmo w r k.different j i n
      ∙ ap not (is_false _ (λ c. self k w (behind-all r w w b j (sees-before k r w h s c)))))
      (at-within t (ahead gmo w) (own t r)
      (λ u l o. behind-all r w u b (writer_in k u l (own-parts t r u o).0) (sees-own k r u o))))
      (λ q. all-behind r w (λ u l v. ⊎_elim (λ b. trans k u r w b (and_l (before gmo r w) _ q))
      (λ o. within-at t (ahead gmo w) (own t r) (and_r (before gmo r w) _ q) u (counted k u l) o) (seen k r u v)))

  -- Each writer finds no window open.
  abbrev pub Closed : Type 0
  Closed = (w : ℕ) → has w gmo ≡ true → writes t w ≡ true → may_write t (ahead gmo w) w ≡ true

  pub closed_at : Closed → (w r : ℕ) → Foreign t gmo w r → r < t.count →
      (open_read t (ahead gmo w) r || open_pair t (ahead gmo w) r) ≡ false
  unfolding may_write intruding
  closed_at c w r f l =
      rw (f.here, f.other) at (none-at t.count (intruding t (ahead gmo w) w) r (not-true _ (c w f.listed f.writer)) l)

  -- An LR and its SC.
  module _ (l s : ℕ) (i : l < t.count) (j : s < t.count) (p : paired t l s ≡ true) where
    l-reads : reads t l ≡ true
    unfolding paired reads
    l-reads = ap reading_kind (eqb-true (kind t l) lr (search (and_l, and_r)))

    s-writes : writes t s ≡ true
    unfolding paired writes
    s-writes = ap writing_kind (eqb-true (kind t s) sc (search (and_l, and_r)))

    l-po : po t l s ≡ true
    unfolding paired
    l-po = search (and_l, and_r)

    l-in : has l gmo ≡ true
    l-in = reader-in k l i l-reads

    s-in : has s gmo ≡ true
    s-in = writer_in k s j s-writes

    same : same_location t l s ≡ true
    same = k.table.pairs l s i j p

    -- the SC stands behind its LR and behind what its hart wrote before: rule 1
    s-behind : behind t gmo l s ≡ true
    s-behind =
        window l s l-in s-in s-writes (same-sym t l s same) (ne_eqb s l (λ q. absurd (omega (arith, po-less t l s l-po))))
        ∙ rw (overlap k l s l-in s-in l-po same s-writes)
        (at-within t (ahead gmo s) (own t l) (λ u m o. let q = own-parts t l u o in
        overlap k u s (writer_in k u m q.0) s-in (po-trans t u l s q.2 l-po) (same-trans t u l s q.1 same) s-writes))

    -- so what the LR returned from precedes it
    not_late : write_is_late rf gmo l s ≡ false
    unfolding write_is_late
    not_late = rw (returns-at t gmo l i l-reads) (neither (eqb (return_of t gmo l) initially) _ ∙ ap not s-behind)

    -- a foreign write intrudes exactly if it stands in the LR's window and not behind the SC
    intrudes-is : (w : ℕ) → Foreign t gmo w l →
        intrudes t rf gmo l s w ≡ (before gmo l w && within t (ahead gmo w) (own t l) && not (before gmo s w))
    unfolding intrudes
    intrudes-is w f =
        rw (
          f.writer,
          f.here,
          f.other,
          returns-at t gmo l i l-reads,
          window l w l-in f.listed f.writer f.here (other-event t gmo w l l f refl),
        )
        (ap (λ (b : Bool). before gmo l w && within t (ahead gmo w) (own t l) && b)
        (before-turned gmo s w k.different s-in f.listed
        (eqb_comm s w ∙ other-event t gmo w l s f (sym (po-hart t l s l-po)))))

  -- Atomicity holds where each writer finds no window open;
  pub pairs-kept : Closed → (l s : ℕ) → l < t.count → s < t.count → breaks_pair t rf gmo l s ≡ false
  unfolding breaks_pair intrudes
  pairs-kept c l s i j = go (paired t l s) refl
    where
      between : paired t l s ≡ true → (w : ℕ) → w < t.count → intrudes t rf gmo l s w ≡ true → ⊥
      between p w m h =
          let v : writes t w ≡ true = search (and_l, and_r) in
          let f : Foreign t gmo w l = record {
            listed = writer_in k w m v;
            writer = v;
            here = search (and_l, and_r);
            other = not-true _ (search (and_l, and_r));
          } in
          let q = sym (intrudes-is l s i j p w f) ∙ h in
          let b : before gmo l w ≡ true = search (and_l, and_r) in
          let o : within t (ahead gmo w) (own t l) ≡ true = search (and_l, and_r) in
          let z = not-true (before gmo s w) (search (and_l, and_r)) in
          not-either _ (is-open-pair t (ahead gmo w) l s b j p z o) (or_r (open_read t (ahead gmo w) l) _ (closed_at c w l f i))

      go : (b : Bool) → paired t l s ≡ b → (b && (write_is_late rf gmo l s || some t.count (intrudes t rf gmo l s))) ≡ false
      go false p = refl
      go true p = rw (not_late l s i j p) (some-none t.count _ (λ w m. is_false _ (between p w m)))

  -- and where it holds none finds a pair's.
  pub pairs-closed : ((l s : ℕ) → l < t.count → s < t.count → breaks_pair t rf gmo l s ≡ false) →
      (w l : ℕ) → Foreign t gmo w l → l < t.count → open_pair t (ahead gmo w) l ≡ false
  unfolding breaks_pair
  pairs-closed kept w l f i = is_false _ (λ o.
      let x = open-pair t (ahead gmo w) l o in
      let s = x.2.0 in
      let q : intrudes t rf gmo l s w ≡ true = intrudes-is l s i x.2.1 x.2.2 w f ∙ rw (x.0, x.1, x.2.3) in
      let found = some_at t.count (intrudes t rf gmo l s) w (counted k w f.listed) q in
      not-either (breaks_pair t rf gmo l s) (rw (x.2.2, found) (or-true (write_is_late rf gmo l s))) (kept l s i x.2.1))
