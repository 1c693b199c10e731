-- Program order is an order within each hart; touching one location is an equivalence.
use Prim.Native.Nat.{ℕ, ◌<◌}
use native.Mathlib.Omega.{arith}
use native.Mathlib.Nat.{le_antisymm}
use mathlib.Core.Path.{◌≡◌, refl, sym, ◌∙◌}
use mathlib.Core.Bool.{Bool, true, false}
use mathlib.Core.Logic.{◌⊎◌, inl, inr}
use lib.Dec.{ltb}
use borrow.Author.Tests.{eqb-true, eq-eqb, ltb-true, ltb-false, lt-ltb}
use Rattle.lists.proofs.BoolLaws.{and_l, and_r, and_both}
use Rattle.table.specs.declared.Table.{Table}
use Rattle.table.specs.Events.{hart, location, same_location, po}

module _ (t : Table) where
  pub po-less : (a b : ℕ) → po t a b ≡ true → a < b
  unfolding po
  po-less a b h = ltb-true a b (and_l (ltb a b) _ h)

  pub po-hart : (a b : ℕ) → po t a b ≡ true → hart t a ≡ hart t b
  unfolding po
  po-hart a b h = eqb-true (hart t a) (hart t b) (and_r (ltb a b) _ h)

  -- an earlier event of one hart
  pub is-po : (a b : ℕ) → a < b → hart t a ≡ hart t b → po t a b ≡ true
  unfolding po
  is-po a b l h = and_both (ltb a b) _ (lt-ltb a b l) (eq-eqb (hart t a) (hart t b) h)

  pub po-trans : (a b c : ℕ) → po t a b ≡ true → po t b c ≡ true → po t a c ≡ true
  po-trans a b c h k = is-po a c (omega (arith, po-less a b h, po-less b c k)) (po-hart a b h ∙ po-hart b c k)

  -- of two events of one hart one is the earlier
  pub po-cases : (a b : ℕ) → hart t a ≡ hart t b → (po t a b ≡ true) ⊎ ((a ≡ b) ⊎ (po t b a ≡ true))
  po-cases a b h = go (ltb a b) (ltb b a) refl refl
    where
      go : (c d : Bool) → ltb a b ≡ c → ltb b a ≡ d → (po t a b ≡ true) ⊎ ((a ≡ b) ⊎ (po t b a ≡ true))
      go true d p q = inl (is-po a b (ltb-true a b p) h)
      go false true p q = inr (inr (is-po b a (ltb-true b a q) (sym h)))
      go false false p q = inr (inl (le_antisymm (ltb-false b a q) (ltb-false a b p)))

  pub same-trans : (a b c : ℕ) → same_location t a b ≡ true → same_location t b c ≡ true → same_location t a c ≡ true
  unfolding same_location
  same-trans a b c h k = eq-eqb (location t a) (location t c) (eqb-true _ (location t b) h ∙ eqb-true _ _ k)

  pub same-sym : (a b : ℕ) → same_location t a b ≡ true → same_location t b a ≡ true
  unfolding same_location
  same-sym a b h = eq-eqb (location t b) (location t a) (sym (eqb-true _ _ h))
