-- What RVTSO makes steady: a reader before all that is later on its hart, and all that is earlier before a writer.
use Prim.Native.Nat.{ℕ, ◌<◌}
use mathlib.Core.Path.{◌≡◌, refl, ap, ◌∙◌}
use mathlib.Core.Bool.{Bool, true, false, ◌||◌, or-true, false≢true}
use lib.Dec.{eqb}
use lib.Bits.{bit_or}
use borrow.Author.Tests.{eqb-true, eq-eqb}
use Rattle.masks.specs.Bit.{bit}
use Rattle.masks.proofs.BitLaws.{bit-or}
use Rattle.table.specs.declared.Table.{Table}
use Rattle.table.specs.Events.{event, kind, reads, writes, reading_kind, writing_kind, load, store, amo, lr, sc}
use Rattle.table.specs.Annotations.{acquiring, releasing, rvtso, ztso, annotations, acquire, release}
use Rattle.model.specs.Rules.{rule1, rule4, rule5, rule6, may_order, static_rules, static_ppo}
use Rattle.placing.specs.Guards.{depends}
use Rattle.placing.specs.GoodTable.{GoodTable}

-- what holds of three kinds holds of one of them
three : (f : ℕ → Bool) (k x y z : ℕ) → (eqb k x || eqb k y || eqb k z) ≡ true → f x ≡ true → f y ≡ true → f z ≡ true → f k ≡ true
three f k x y z h fx fy fz = go (eqb k x) (eqb k y) (eqb k z) refl refl refl h
  where
    go : (a b c : Bool) → eqb k x ≡ a → eqb k y ≡ b → eqb k z ≡ c → (a || b || c) ≡ true → f k ≡ true
    go true b c p q r h = ap f (eqb-true k x p) ∙ fx
    go false true c p q r h = ap f (eqb-true k y q) ∙ fy
    go false false true p q r h = ap f (eqb-true k z r) ∙ fz
    go false false false p q r h = absurd (false≢true h)

-- every reader acquires, every writer releases
ztso-reads : (k : ℕ) → reading_kind k ≡ true → acquiring (ztso k) ≡ true
unfolding ztso
ztso-reads k h = three (λ j. acquiring (ztso j)) k load amo lr h refl refl refl

ztso-writes : (k : ℕ) → writing_kind k ≡ true → releasing (ztso k) ≡ true
unfolding ztso
ztso-writes k h = three (λ j. releasing (ztso j)) k store amo sc h refl refl refl

-- what is carried takes nothing away
kept-bits : (f z i j : ℕ) → (bit z i || bit z j) ≡ true → (bit (bit_or f z) i || bit (bit_or f z) j) ≡ true
kept-bits f z i j h = rw (bit-or f z i, bit-or f z j) (go (bit f i) (bit f j) (bit z i) (bit z j) h)
  where
    go : (a b c d : Bool) → (c || d) ≡ true → ((a || c) || (b || d)) ≡ true
    go true b c d h = refl
    go false b true d h = refl
    go false b false true h = or-true b
    go false b false false h = absurd (false≢true h)

-- what is used of a table of model 1
pub record TsoTable (t : Table) : Type 0 where
  pub good : GoodTable t
  pub tso : t.model ≡ rvtso
  -- address and data masks name no plain store
  pub plain : (b a : ℕ) → b < t.count → a < t.count → depends t b a ≡ true → eqb (kind t a) store ≡ false

module _ {t : Table} (k : TsoTable t) where
  acquire-reads : (e : ℕ) → reads t e ≡ true → acquire t e ≡ true
  unfolding acquire annotations reads kind
  acquire-reads e h =
      rw (eq-eqb t.model rvtso k.tso)
      (kept-bits (event t e).flags (ztso (event t e).kind) 0 1 (ztso-reads (event t e).kind h))

  release-writes : (e : ℕ) → writes t e ≡ true → release t e ≡ true
  unfolding release annotations writes kind
  release-writes e h =
      rw (eq-eqb t.model rvtso k.tso)
      (kept-bits (event t e).flags (ztso (event t e).kind) 2 3 (ztso-writes (event t e).kind h))

  -- rule 5: a reader before all that is later
  pub static-reads : (a b : ℕ) → may_order t a b ≡ true → reads t a ≡ true → static_ppo t a b ≡ true
  unfolding static_ppo static_rules rule5
  static-reads a b m h = rw (m, acquire-reads a h, or-true (rule4 t a b)) (or-true (rule1 t a b))

  -- rule 6: all that is earlier before a writer
  pub static-writes : (a b : ℕ) → may_order t a b ≡ true → writes t b ≡ true → static_ppo t a b ≡ true
  unfolding static_ppo static_rules rule5 rule6
  static-writes a b m h = rw (m, release-writes b h, or-true (acquire t a), or-true (rule4 t a b)) (or-true (rule1 t a b))
