-- A table that none of lines 5 to 11 refuses is good, of a block or a text.
use Prim.Native.Nat.{ℕ, ◌<◌}
use native.Mathlib.Omega.{arith}
use mathlib.Core.Path.{◌≡◌, refl, sym, ◌∙◌}
use mathlib.Core.Bool.{Bool, true, false, not, ◌&&◌, ◌||◌}
use mathlib.Core.Logic.{⊎_elim}
use lib.Dec.{eqb}
use borrow.Author.Tests.{ltb-false, not-true, not-false}
use Rattle.lists.specs.Below.{first_from}
use Rattle.lists.proofs.BoolLaws.{and_l, and_r, or_l, or_r, not-either}
use Rattle.lists.proofs.SomeLaws.{some-found, none-at, every-at}
use Rattle.table.specs.declared.Table.{Table}
use Rattle.table.specs.Events.{capacity, event, kind, hart, location, reads, writes, memory, same_location, po, between, reserves, paired}
use Rattle.table.specs.Events.{memory_kind, fencing_kind, lr, sc, store, fencetso}
use Rattle.table.specs.Annotations.{address_depends, data_depends}
use Rattle.table.proofs.ProgramOrderLaws.{po-hart, po-cases}
use Rattle.refusals.specs.TableLines.{outside, field_out_of_range, names, names_wrongly, line9, paired_here, line10}
use Rattle.refusals.proofs.InRange.{AsksRange, places-in-range}
use Rattle.refusals.proofs.TablePassed.{TablePassed}
use Rattle.placing.specs.Guards.{depends}
use Rattle.placing.specs.GoodTable.{GoodTable}

-- a kind from 1 to 7 that is no fence is a memory event's
memory-kind : (k : ℕ) → outside k fencetso ≡ false → fencing_kind k ≡ false → memory_kind k ≡ true
unfolding first_from
memory-kind k o f =
    rw (o, f) at (every-at 8 (λ k. outside k fencetso || fencing_kind k || memory_kind k) k refl
    (omega (arith, ltb-false fencetso k (or_r (eqb k 0) _ o))))

module _ (t : Table) where
  pub paired-parts : (l s : ℕ) → paired t l s ≡ true → (po t l s ≡ true) × (eqb (kind t l) lr ≡ true) × (eqb (kind t s) sc ≡ true)
  unfolding paired
  paired-parts l s p = (search (and_l, and_r), search (and_l, and_r), search (and_l, and_r))

  -- no paired LR stands between another and its SC
  paired-between : (l m s : ℕ) → m < t.count → paired t l s ≡ true → paired t m s ≡ true → po t l m ≡ true → ⊥
  unfolding paired reserves between
  paired-between l m s i p q h =
      let r = paired-parts m s q in
      not-either (reserves t l s m) (rw (h, r.0, r.1))
      (none-at t.count (reserves t l s) m (not-true _ (and_r (po t l s && eqb (kind t l) lr && eqb (kind t s) sc) _ p)) i)

  -- so an SC has one LR
  pub paired-once : (l m s : ℕ) → l < t.count → m < t.count → paired t l s ≡ true → paired t m s ≡ true → l ≡ m
  paired-once l m s i j p q =
      ⊎_elim (λ h. absurd (paired-between l m s j p q h)) (⊎_elim (λ (h : l ≡ m). h) (λ h. absurd (paired-between m l s i q p h)))
      (po-cases t l m (po-hart t l s (paired-parts l s p).0 ∙ sym (po-hart t m s (paired-parts m s q).0)))

module _ (asked : ℕ → Bool) (most : ℕ) (extra : Bool) (t : Table) (range : AsksRange t asked) (room : most < capacity)
    (passed : TablePassed asked most extra t) where
  field_fits : (e : ℕ) → e < t.count → field_out_of_range t.harts t.locations (event t e) ≡ false
  field_fits e l = range e (none-at t.count asked e passed.fields l)

  places : (e : ℕ) → e < t.count → (hart t e < t.harts) × (location t e < t.locations)
  places e l = places-in-range t e (field_fits e l)

  kind_fits : (e : ℕ) → e < t.count → outside (kind t e) fencetso ≡ false
  unfolding field_out_of_range kind
  kind_fits e l = let h = field_fits e l in search (or_l, or_r)

  -- what an address or data mask names: no later event, plain store or fence
  rightly-named : (b a : ℕ) → b < t.count → a < t.count → depends t b a ≡ true →
      (not (po t a b) || eqb (kind t a) store || fencing_kind (kind t a)) ≡ false
  unfolding line9 names_wrongly names depends address_depends data_depends
  rightly-named b a l j h =
      let n = none-at t.count (line9 t) b passed.dependencies l in
      let w = none-at capacity (names_wrongly t b) a (search (or_l, or_r)) (omega (arith, passed.counts.events)) in
      rw h at w

  named : (b a : ℕ) → b < t.count → a < t.count → depends t b a ≡ true → (po t a b ≡ true) × (memory t a ≡ true)
  unfolding memory reads writes
  named b a l j h =
      let r = rightly-named b a l j h in
      (not-false (po t a b) (search (or_l, or_r)), memory-kind (kind t a) (kind_fits a j) (search (or_l, or_r)))

  pub no-store-named : (b a : ℕ) → b < t.count → a < t.count → depends t b a ≡ true → eqb (kind t a) store ≡ false
  no-store-named b a l j h = let r = rightly-named b a l j h in search (or_l, or_r)

  pairs : (l s : ℕ) → l < t.count → s < t.count → paired t l s ≡ true → same_location t l s ≡ true
  unfolding line10 paired_here
  pairs l s i j p =
      let f = some-found t.count (paired_here t s)
      (not-false _ (rw (paired-parts t l s p).2 at (none-at t.count (line10 t) s passed.pairs j))) in
      rw (paired-once t l f.0 s i f.1 p (and_l (paired t f.0 s) _ f.2)) (and_r (paired t f.0 s) _ f.2)

  pub good-table : GoodTable t
  good-table = record {
    small = record {
      events = omega (arith, passed.counts.events);
      locations = passed.counts.locations;
      each-hart = λ e l. omega (arith, (places e l).0, passed.counts.harts);
      each-location = λ e l. omega (arith, (places e l).1, passed.counts.locations);
    };
    located = λ e l. (places e l).1;
    named = named;
    pairs = pairs;
  }
