-- Atomicity of a pair looks at the order up to the SC, and at what the LR returned from.
use Prim.Native.Nat.{ℕ}
use mathlib.Core.Path.{◌≡◌, refl, sym, ap, ap₂, ◌∙◌}
use mathlib.Core.Bool.{Bool, true, false, not, ◌&&◌, ◌||◌, or-true, and-false}
use mathlib.Core.List.{List, ◌++◌}
use lib.Dec.{eqb}
use borrow.Author.Tests.{eqb-true}
use Rattle.lists.specs.Lists.{has, distinct, before}
use Rattle.lists.proofs.SomeLaws.{some_same}
use Rattle.lists.proofs.BeforeLaws.{before-has}
use Rattle.lists.proofs.DistinctLaws.{distinct_apart, before-left}
use Rattle.table.specs.declared.Table.{Table}
use Rattle.table.specs.Events.{kind, hart, reads, writes, memory, same_location, paired, reading_kind, writing_kind, lr, sc}
use Rattle.model.specs.Rules.{initially, from, may_order}
use Rattle.model.specs.Axioms.{write_is_late, intrudes, breaks_pair}
use Rattle.placing.proofs.GoodTableLaws.{paired-parts}

module _ (t : Table) where
  -- an LR and its SC may be ordered
  pub paired-may : (l s : ℕ) → paired t l s ≡ true → (may_order t l s ≡ true) × (reads t l ≡ true) × (reads t s ≡ false)
  unfolding may_order memory reads writes
  paired-may l s h =
      let p = paired-parts t l s h in
      let r : reads t l ≡ true = ap reading_kind (eqb-true (kind t l) lr p.1) in
      let w : writes t s ≡ true = ap writing_kind (eqb-true (kind t s) sc p.2) in
      (rw (p.0, r, w) (or-true (reads t s)), r, ap reading_kind (eqb-true (kind t s) sc p.2))

  module _ (rf rg p q : List ℕ) (l s : ℕ) (d : distinct (p ++ q) ≡ true) (i : has s p ≡ true) (e : from rf l ≡ from rg l) where
    before-s : (a : ℕ) → before (p ++ q) a s ≡ before p a s
    before-s a = before-left p q a s (distinct_apart p q s d i)

    late-same : write_is_late rf (p ++ q) l s ≡ write_is_late rg p l s
    unfolding write_is_late
    late-same = rw (e, before-s (from rg l))

    -- what stands before the SC stands in p
    intrudes-same : (w : ℕ) → intrudes t rf (p ++ q) l s w ≡ intrudes t rg p l s w
    unfolding intrudes
    intrudes-same w = rw (e, before-s w) (go (before p w s) refl)
      where
        foreign : Bool
        foreign = writes t w && same_location t w l && not (eqb (hart t w) (hart t l))

        go : (b : Bool) → before p w s ≡ b →
            (foreign && (eqb (from rg l) initially || before (p ++ q) (from rg l) w) && b)
            ≡ (foreign && (eqb (from rg l) initially || before p (from rg l) w) && b)
        go true h =
            ap (λ (b : Bool). foreign && (eqb (from rg l) initially || b) && true)
            (before-left p q (from rg l) w (distinct_apart p q w d (before-has p w s h).0))
        go false h =
            and-false (foreign && (eqb (from rg l) initially || before (p ++ q) (from rg l) w))
            ∙ sym (and-false (foreign && (eqb (from rg l) initially || before p (from rg l) w)))

    -- so it is the same of a longer order, where the list agrees on the LR
    pub pair_same : breaks_pair t rf (p ++ q) l s ≡ breaks_pair t rg p l s
    unfolding breaks_pair
    pair_same = ap₂ (λ (b c : Bool). paired t l s && (b || c)) late-same (some_same t.count _ _ (λ w k. intrudes-same w))

  pub unpaired : (rf gmo : List ℕ) (l s : ℕ) → paired t l s ≡ false → breaks_pair t rf gmo l s ≡ false
  unfolding breaks_pair
  unpaired rf gmo l s h = rw h
