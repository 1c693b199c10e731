-- What is asked of a writer, by masks: no guard that isn't placed has a window that is open.
use Prim.Native.Nat.{ℕ, ◌<◌}
use mathlib.Core.Path.{◌≡◌, refl, sym, ap, ap₂, ◌∙◌}
use mathlib.Core.Bool.{Bool, true, false, not, ◌&&◌, ◌||◌, or-true}
use mathlib.Core.Logic.{⊎_elim}
use lib.Bits.{bit_and}
use lib.Dec.{eqb}
use borrow.Author.Tests.{eqb-true, not-true}
use Rattle.lists.specs.Below.{some}
use Rattle.lists.proofs.BoolLaws.{and_l, and_r, bool-ext, or_cases, not-either}
use Rattle.lists.proofs.SomeLaws.{some_at, some-found, some-none}
use Rattle.masks.specs.Bit.{bit}
use Rattle.table.specs.declared.Table.{Table}
use Rattle.table.specs.Events.{kind, hart, reads, writes, same_location, paired, lr, sc}
use Rattle.table.proofs.ProgramOrderLaws.{po-hart, same-trans, same-sym}
use Rattle.placing.specs.Guards.{own, rereads, within, open_read, open_pair, intruding, may_write}
use Rattle.placing.specs.GoodTable.{GoodTable}
use Rattle.placing.proofs.GuardLaws.{within-at, at-within, open-read, is-open-read, open-pair, is-open-pair}
use Rattle.placing.proofs.GoodTableLaws.{paired-parts, paired-once}
use Rattle.order_facts.specs.Facts.{mask_by, own_writer, opens, grounds, is_open, guards}
use Rattle.masks.proofs.BelowLaws.{mask-meets}
use Rattle.order_facts.proofs.ReadLaws.{within-mask}

-- an SC writes
pub pair-writes : (t : Table) (l s : ℕ) → paired t l s ≡ true → writes t s ≡ true
unfolding writes
pair-writes t l s p = rw (eqb-true (kind t s) sc (paired-parts t l s p).2) refl

-- an LR reads
pair_reads : (t : Table) (l s : ℕ) → paired t l s ≡ true → reads t l ≡ true
unfolding reads
pair_reads t l s p = rw (eqb-true (kind t l) lr (paired-parts t l s p).1) refl

module _ (t : Table) (placed : ℕ → Bool) where
  -- v isn't placed, and its window is open
  is_open_lem : (v b : ℕ) → b < t.count → opens t v b ≡ true → placed b ≡ true → within t placed (grounds t v) ≡ true →
      is_open t placed v ≡ true
  unfolding is_open
  is_open_lem v b l o p g = rw (some_at t.count (λ x. opens t v x && placed x) b l (rw (o, p))) g

  open-parts : (v : ℕ) → is_open t placed v ≡ true →
      (within t placed (grounds t v) ≡ true) × ((b : ℕ) × (b < t.count) × (opens t v b ≡ true) × (placed b ≡ true))
  unfolding is_open
  open-parts v h =
      let f = some-found t.count (λ x. opens t v x && placed x) (and_l _ _ h) in (
        and_r (some t.count (λ x. opens t v x && placed x)) _ h,
        (f.0, f.1, and_l (opens t v f.0) _ f.2, and_r (opens t v f.0) _ f.2),
      )

module _ {t : Table} (good : GoodTable t) (placed : ℕ → Bool) (w : ℕ) where
  -- v guards the location that w writes, isn't placed, and its window is open
  abbrev pub bars : ℕ → Bool
  bars v = guards t w v && not (placed v) && is_open t placed v

  -- Where w writes:
  module _ (writer : writes t w ≡ true) where
    bars-at : (v b : ℕ) → same_location t w v ≡ true → eqb (hart t w) (hart t v) ≡ false → placed v ≡ false → b < t.count →
        opens t v b ≡ true → placed b ≡ true → within t placed (grounds t v) ≡ true → bars v ≡ true
    unfolding guards
    bars-at v b s h n l o p g =
        rw (writer, s, h, n, some_at t.count (opens t v) b l o) (is_open_lem t placed v b l o p g)

    -- the ground of a reader that doesn't write, and of an SC
    reader-ground : (v : ℕ) → writes t v ≡ false → within t placed (own t v) ≡ true → within t placed (grounds t v) ≡ true
    unfolding grounds own_writer
    reader-ground v n h =
        at-within t placed (grounds t v) (λ a i q.
        ⊎_elim (λ o. within-at t placed (own t v) h a i (and_r (reads t v) _ (and_r (not (writes t v)) _ o)))
        (λ o. let f = some-found t.count (λ l. paired t l v && own_writer t l a) o in
        absurd (not-either _ (pair-writes t f.0 v (and_l (paired t f.0 v) _ f.2)) n))
        (or_cases (not (writes t v) && own_writer t v a) _ q))

    pair-ground : (l s : ℕ) → l < t.count → paired t l s ≡ true → within t placed (own t l) ≡ true →
        within t placed (grounds t s) ≡ true
    unfolding grounds own_writer
    pair-ground l s j p h =
        at-within t placed (grounds t s) (λ a i q.
        ⊎_elim (λ o. absurd (not-either _ (pair-writes t l s p) (not-true _ (and_l (not (writes t s)) _ o))))
        (λ o. let f = some-found t.count (λ l. paired t l s && own_writer t l a) o in
        let e = paired-once t f.0 l s f.1 j (and_l (paired t f.0 s) _ f.2) p in
        within-at t placed (own t l) h a i
        (ap (λ (x : ℕ). own t x a) (sym e) ∙ and_r (reads t f.0) _ (and_r (paired t f.0 s) _ f.2)))
        (or_cases (not (writes t s) && own_writer t s a) _ q))

    intruded : (r : ℕ) → r < t.count → intruding t placed w r ≡ true → some t.count bars ≡ true
    unfolding intruding opens
    intruded r i h =
        ⊎_elim at_read at_pair
        (or_cases (open_read t placed r) _ (and_r (same_location t w r && not (eqb (hart t w) (hart t r))) _ h))
      where
        same : same_location t w r ≡ true
        same = search (and_l, and_r)

        other : eqb (hart t w) (hart t r) ≡ false
        other = not-true _ (search (and_l, and_r))

        at_read : open_read t placed r ≡ true → some t.count bars ≡ true
        at_read o =
            let q = open-read t placed r o in
            let b = q.3 in
            some_at t.count bars r i
            (bars-at r b.0 same other q.1 b.1 (rw (q.0, b.2)) b.3 (reader-ground r q.0 q.2))

        at_pair : open_pair t placed r ≡ true → some t.count bars ≡ true
        at_pair o =
            let q = open-pair t placed r o in
            let s = q.2 in
            some_at t.count bars s.0 s.1
            (bars-at s.0 r (same-trans t w r s.0 same (good.pairs r s.0 i s.1 s.2))
            (ap (eqb (hart t w)) (sym (po-hart t r s.0 (paired-parts t r s.0 s.2).0)) ∙ other)
            s.3 i (rw s.2 (or-true (not (writes t s.0) && rereads t s.0 r))) q.0 (pair-ground r s.0 i s.2 q.1))

    barred : (v : ℕ) → v < t.count → bars v ≡ true → some t.count (intruding t placed w) ≡ true
    unfolding guards intruding opens grounds own_writer rereads
    barred v i h =
        ⊎_elim at_read at_pair (or_cases (not (writes t v) && rereads t v b) (paired t b v) q.1.2)
      where
        same : same_location t w v ≡ true
        same = search (and_l, and_r)

        other : eqb (hart t w) (hart t v) ≡ false
        other = not-true _ (search (and_l, and_r))

        absent : placed v ≡ false
        absent = not-true _ (search (and_l, and_r))

        q : (within t placed (grounds t v) ≡ true) × ((b : ℕ) × (b < t.count) × (opens t v b ≡ true) × (placed b ≡ true))
        q = open-parts t placed v (and_r (guards t w v && not (placed v)) _ h)

        b : ℕ
        b = q.1.0

        intrudes : (r : ℕ) → r < t.count → same_location t w r ≡ true → eqb (hart t w) (hart t r) ≡ false →
            (open_read t placed r || open_pair t placed r) ≡ true → some t.count (intruding t placed w) ≡ true
        intrudes r l s d o = some_at t.count (intruding t placed w) r l (rw (s, d) o)

        at_read : (not (writes t v) && rereads t v b) ≡ true → some t.count (intruding t placed w) ≡ true
        at_read o =
            let n : writes t v ≡ false = not-true _ (and_l _ (rereads t v b) o) in
            let u : reads t v ≡ true = search (and_l, and_r) in
            intrudes v i same other
            (rw (is-open-read t placed v b n absent q.1.1 (and_r (not (writes t v)) _ o) q.1.3
            (at-within t placed (own t v) (λ a l m. within-at t placed (grounds t v) q.0 a l (rw (n, u, m))))))

        at_pair : paired t b v ≡ true → some t.count (intruding t placed w) ≡ true
        at_pair p =
            intrudes b q.1.1 (same-trans t w v b same (same-sym t b v (good.pairs b v q.1.1 i p)))
            (ap (eqb (hart t w)) (po-hart t b v (paired-parts t b v p).0) ∙ other)
            (rw (is-open-pair t placed b v q.1.3 i p absent
            (at-within t placed (own t b) (λ a l m. within-at t placed (grounds t v) q.0 a l
            (rw (some_at t.count (λ l. paired t l v && own_writer t l a) b q.1.1 (rw (p, pair_reads t b v p, m)))
            (or-true (not (writes t v) && own_writer t v a)))))) (or-true (open_read t placed b)))

    intruding-bars : some t.count (intruding t placed w) ≡ some t.count bars
    intruding-bars =
        bool-ext _ _
        (λ h. let f = some-found t.count (intruding t placed w) h in intruded f.0 f.1 f.2)
        (λ h. let f = some-found t.count bars h in barred f.0 f.1 f.2)

  -- e may be placed as a writer exactly if no guard bars it
  pub write-bars : (not (writes t w) || may_write t placed w) ≡ not (some t.count bars)
  unfolding may_write guards
  write-bars = go (writes t w) refl
    where
      go : (b : Bool) → writes t w ≡ b → (not b || may_write t placed w) ≡ not (some t.count bars)
      go true h = ap not (intruding-bars h)
      go false h = sym (ap not (some-none t.count bars (λ k l. rw h refl)))

-- a window is open, by masks
pub open-mask : (t : Table) (placed v : ℕ) →
    is_open t (bit placed) v
    ≡ (not (eqb (bit_and (mask_by t (opens t v)) placed) 0) && eqb (bit_and (mask_by t (grounds t v)) placed) (mask_by t (grounds t v)))
unfolding is_open mask_by
open-mask t placed v =
    ap₂ (λ (a b : Bool). a && b) (mask-meets (opens t v) t.count placed) (within-mask t placed (grounds t v))
