-- Rules 3 and 12, asked of each reader at its place.
use Prim.Native.Nat.{ℕ, ◌<◌}
use native.Mathlib.Omega.{arith}
use mathlib.Core.Path.{◌≡◌, refl, sym, ap, ◌∙◌}
use mathlib.Core.Bool.{Bool, true, false, cond, not, ◌&&◌, ◌||◌, or-true}
use mathlib.Core.List.{List}
use mathlib.Core.Logic.{◌⊎◌, inl, inr, ⊎_elim}
use lib.Dec.{eqb, ltb}
use borrow.Author.Tests.{eqb-true, eq-eqb, ltb-true}
use Rattle.lists.specs.Lists.{before}
use Rattle.lists.proofs.BoolLaws.{and_l, and_r, and_both, or_cases, not-either, is_true, or-implied, implied}
use Rattle.lists.proofs.SomeLaws.{some_at, some-found}
use Rattle.lists.proofs.BeforeLaws.{before-has}
use Rattle.lists.proofs.LatestLaws.{last-either}
use Rattle.table.specs.declared.Table.{Table}
use Rattle.table.specs.Events.{kind, reads, writes, memory, same_location, po, between, store, amo, sc}
use Rattle.table.specs.Annotations.{address_depends, data_depends}
use Rattle.table.proofs.ProgramOrderLaws.{po-trans}
use Rattle.model.specs.Rules.{initially, from, rule3, rule12, may_order}
use Rattle.model.specs.Returns.{returns}
use Rattle.model.proofs.VerdictLaws.{returns-at}
use Rattle.placing.specs.Guards.{depends, forwarder, may_forward, may_read}
use Rattle.placing.specs.Entries.{ahead}
use Rattle.placing.proofs.GuardLaws.{own-parts, not_plain, within-at, at-within, forwards}
use Rattle.placing.proofs.KeptLaws.{Kept, trans, is-memory, reader-in, writer_in, dependency}
use Rattle.placing.proofs.SourceLaws.{last_before, return-is}

module _ {t : Table} {gmo : List ℕ} (k : Kept t gmo) (r : ℕ) (l : r < t.count) (r-reads : reads t r ≡ true) where
  abbrev rf : List ℕ
  rf = returns t gmo

  abbrev f : ℕ
  f = forwarder t (ahead gmo r) r

  -- what r returns from
  abbrev source : ℕ
  source = cond (ltb f t.count) f (last_before t gmo r)

  source_is : from rf r ≡ source
  source_is = returns-at t gmo r l r-reads ∙ return-is k r

  -- rule 3 of a and r
  third : (a : ℕ) → rule3 t rf a r ≡ true → ((eqb (kind t a) amo || eqb (kind t a) sc) ≡ true) × (source ≡ a)
  unfolding rule3
  third a h = (search (and_l, and_r), sym source_is ∙ eqb-true _ a (search (and_l, and_r)))

  -- rule 12 of a and r: r returns from m
  record Twelfth (a : ℕ) : Type 0 where
    m : ℕ
    few : m < t.count
    from-m : source ≡ m
    needs : depends t m a ≡ true

  twelfth : (a : ℕ) → rule12 t rf a r ≡ true → Twelfth a
  unfolding rule12 depends
  twelfth a h =
      let x = some-found t.count
      (λ m. between t a m r && writes t m && eqb (from rf r) m && (address_depends t m a || data_depends t m a))
      (and_r (reads t r) _ h) in
      let q = x.2 in
      record {
        m = x.0;
        few = x.1;
        from-m = sym source_is ∙ eqb-true _ x.0 (search (and_l, and_r));
        needs = search (and_l, and_r);
      }

  -- an event that r returns from memory stands before it
  from-memory : (x : ℕ) → x < t.count → last_before t gmo r ≡ x → before gmo x r ≡ true
  from-memory x m e =
      ⊎_elim (λ q. absurd (omega (arith, k.table.small.events, sym q ∙ e)))
      (λ q. rw e at (and_r (writes t (last_before t gmo r) && same_location t (last_before t gmo r) r) _ q.1))
      (last-either (λ w. writes t w && same_location t w r && before gmo w r) initially gmo)

  -- one of the two puts a before r
  abbrev pub late : ℕ → Bool
  late a = rule3 t rf a r || rule12 t rf a r

  -- Where r may be placed, what they put before it stands before it.
  pub late-kept : may_read t (ahead gmo r) r ≡ true → (a : ℕ) → a < t.count → late a ≡ true → before gmo a r ≡ true
  unfolding may_read may_forward
  late-kept g a j h = go (ltb f t.count) refl (or_cases (rule3 t rf a r) _ h)
    where
      go : (b : Bool) → ltb f t.count ≡ b → (rule3 t rf a r ≡ true) ⊎ (rule12 t rf a r ≡ true) → before gmo a r ≡ true
      go true i (inl q) =
          let p = third a q in
          let plain = and_l (eqb (kind t f) store) _ (implied (ltb f t.count) _ g i) in
          absurd (not-either _ p.0 (ap (λ (x : ℕ). eqb (kind t x) amo || eqb (kind t x) sc) (sym (rw i at p.1))
          ∙ not_plain t f (own-parts t r f (forwards t (ahead gmo r) r i).0).0 ∙ ap not plain))
      go true i (inr q) =
          let p = twelfth a q in
          within-at t (ahead gmo r) (depends t f) (and_r (eqb (kind t f) store) _ (implied (ltb f t.count) _ g i)) a j
          (ap (λ (x : ℕ). depends t x a) (rw i at p.from-m) ∙ p.needs)
      go false i (inl q) = from-memory a j (rw i at (third a q).1)
      go false i (inr q) =
          let p = twelfth a q in
          let b = from-memory p.m p.few (rw i at p.from-m) in
          trans k a p.m r (dependency k a p.m j (before-has gmo p.m r b).0 p.needs) b

  -- And back: of a forwarder, where they keep the order.
  module _ (kept : (a : ℕ) → a < t.count → may_order t a r ≡ true → late a ≡ true → before gmo a r ≡ true)
      (i : ltb f t.count ≡ true) where
    f-count : f < t.count
    f-count = ltb-true f t.count i

    f-own : (writes t f ≡ true) × (same_location t f r ≡ true) × (po t f r ≡ true)
    f-own = own-parts t r f (forwards t (ahead gmo r) r i).0

    from-f : eqb (from rf r) f ≡ true
    from-f = eq-eqb _ f (source_is ∙ rw i)

    r-memory : memory t r ≡ true
    r-memory = is-memory k r (reader-in k r l r-reads)

    -- rule 3: it is a plain store
    f-plain : eqb (kind t f) store ≡ true
    unfolding rule3 may_order
    f-plain = is_true _ (λ n. not-either _
        (kept f f-count (rw (f-own.2, is-memory k f (writer_in k f f-count f-own.0)) r-memory)
        (rw (not_plain t f f-own.0, n, r-reads, from-f)))
        (forwards t (ahead gmo r) r i).1)

    -- rule 12: what it depends on stands before r
    f-needs : (a : ℕ) → a < t.count → depends t f a ≡ true → before gmo a r ≡ true
    unfolding rule12 may_order between depends
    f-needs a j d =
        let n = k.table.named f a f-count j d in
        kept a j (rw (po-trans t a f r n.0 f-own.2, n.1) r-memory)
        (rw (
          r-reads,
          some_at t.count
              (λ m. between t a m r && writes t m && eqb (from rf r) m && (address_depends t m a || data_depends t m a)) f f-count
              (rw (n.0, f-own.2, f-own.0, from-f) d),
        ) (or-true (rule3 t rf a r)))

  pub read_kept : ((a : ℕ) → a < t.count → may_order t a r ≡ true → late a ≡ true → before gmo a r ≡ true) →
      may_read t (ahead gmo r) r ≡ true
  unfolding may_read may_forward
  read_kept kept =
      or-implied (ltb f t.count) _
      (λ i. and_both (eqb (kind t f) store) _ (f-plain kept i) (at-within t (ahead gmo r) (depends t f) (f-needs kept i)))
