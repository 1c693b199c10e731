-- What is used of an order: it has each memory event once, and keeps the steady rules 1, 9 and 10.
use Prim.Native.Nat.{ℕ, ◌<◌}
use native.Mathlib.Omega.{arith}
use mathlib.Core.Path.{◌≡◌, refl}
use mathlib.Core.Bool.{true, false, or-true, or-false}
use mathlib.Core.List.{List, [], ◌∷◌, Sublistᴰ}
use lib.Dec.{eqb, ltb}
use borrow.Author.Tests.{ltb-true, lt-ltb, ne_eqb}
use Rattle.lists.specs.Lists.{any, has, distinct, before}
use Rattle.lists.proofs.BoolLaws.{and_l, and_r, not-either}
use Rattle.lists.proofs.ListLaws.{all-has}
use Rattle.lists.proofs.BeforeLaws.{before_self, before-trans}
use Rattle.table.specs.declared.Table.{Table}
use Rattle.table.specs.Events.{reads, writes, memory, same_location, po}
use Rattle.table.specs.Counts.{Small}
use Rattle.table.specs.Annotations.{data_depends}
use Rattle.model.specs.Rules.{initially, rule1, rule9, rule10, holds, static_rules, may_order, static_ppo}
use Rattle.model.specs.Witness.{is_memory_event, is_order}
use Rattle.model.specs.Prefixes.{is_prefix, clean}
use Rattle.model.proofs.PrefixLaws.{any-sublist, both}
use Rattle.placing.specs.Guards.{depends}
use Rattle.placing.specs.GoodTable.{GoodTable}
use Rattle.placing.proofs.ReturnedLaws.{order-has, static_kept}

pub record Kept (t : Table) (gmo : List ℕ) : Type 0 where
  pub table : GoodTable t
  pub different : distinct gmo ≡ true
  pub events : (e : ℕ) → has e gmo ≡ true → is_memory_event t e ≡ true
  pub each : (e : ℕ) → is_memory_event t e ≡ true → has e gmo ≡ true
  pub steady : (a b : ℕ) → a < t.count → b < t.count → may_order t a b ≡ true →
      any holds (rule1 t a b ∷ rule9 t a b ∷ rule10 t a b ∷ []) ≡ true → before gmo a b ≡ true

-- no event is the initial write
pub event-initial : (t : Table) → Small t → (e : ℕ) → e < t.count → eqb e initially ≡ false
event-initial t small e l = ne_eqb e initially (λ q. absurd (omega (arith, small.events)))

module _ {t : Table} {gmo : List ℕ} (k : Kept t gmo) where
  -- nothing stands before itself
  pub self : (a : ℕ) → before gmo a a ≡ true → ⊥
  self a h = not-either _ h (before_self gmo a k.different)

  pub trans : (a b c : ℕ) → before gmo a b ≡ true → before gmo b c ≡ true → before gmo a c ≡ true
  trans a b c h j = before-trans gmo a b c k.different h j

  -- an entry is a memory event of the test
  pub counted : (e : ℕ) → has e gmo ≡ true → e < t.count
  unfolding is_memory_event
  counted e h = ltb-true e t.count (and_l _ (memory t e) (k.events e h))

  pub is-memory : (e : ℕ) → has e gmo ≡ true → memory t e ≡ true
  unfolding is_memory_event
  is-memory e h = and_r (ltb e t.count) (memory t e) (k.events e h)

  pub not-initial : (e : ℕ) → has e gmo ≡ true → eqb e initially ≡ false
  not-initial e h = event-initial t k.table.small e (counted e h)

  -- every memory event is an entry
  listed : (e : ℕ) → e < t.count → memory t e ≡ true → has e gmo ≡ true
  unfolding is_memory_event
  listed e l h = k.each e (rw (lt-ltb e t.count l) h)

  pub reader-in : (r : ℕ) → r < t.count → reads t r ≡ true → has r gmo ≡ true
  unfolding memory
  reader-in r l h = listed r l (rw h refl)

  pub writer_in : (w : ℕ) → w < t.count → writes t w ≡ true → has w gmo ≡ true
  unfolding memory
  writer_in w l h = listed w l (rw h (or-true (reads t w)))

  -- rule 1: what a hart writes stands behind all that touched the location before
  pub overlap : (a b : ℕ) → has a gmo ≡ true → has b gmo ≡ true → po t a b ≡ true → same_location t a b ≡ true →
      writes t b ≡ true → before gmo a b ≡ true
  unfolding may_order rule1
  overlap a b i j p s w = k.steady a b (counted a i) (counted b j) (rw (p, is-memory a i) (is-memory b j)) (rw (w, s))

  -- rules 9 and 10: what depends on another stands behind it
  pub dependency : (a b : ℕ) → a < t.count → has b gmo ≡ true → depends t b a ≡ true → before gmo a b ≡ true
  unfolding may_order rule9 rule10 depends
  dependency a b l j h =
      let n = k.table.named b a (counted b j) l h in
      k.steady a b l (counted b j) (rw (n.0, n.1) (is-memory b j))
      (rw (or-false (data_depends t b a), h) (or-true (rule1 t a b)))

-- rules 1, 9 and 10 are among the steady ones
steady-three : (t : Table) (a b : ℕ) → Sublistᴰ (rule1 t a b ∷ rule9 t a b ∷ rule10 t a b ∷ []) (static_rules t a b)
unfolding static_rules
steady-three t a b =
    both (Sublistᴰ.cons (Sublistᴰ.cons (Sublistᴰ.cons (Sublistᴰ.cons (Sublistᴰ.cons (both (both
    (Sublistᴰ.cons (Sublistᴰ.cons Sublistᴰ.slnil)))))))))

-- A clean order keeps them.
pub clean-kept : {t : Table} {gmo : List ℕ} → GoodTable t → is_order t gmo ≡ true → clean t gmo ≡ true → Kept t gmo
unfolding is_order clean is_prefix is_memory_event static_ppo
clean-kept {t} {gmo} good o c = record {
  table = good;
  different = search (and_l, and_r);
  events = λ e h. all-has (is_memory_event t) gmo e (and_l _ _ o) h;
  each = λ e h. order-has t gmo o c e (ltb-true e t.count (and_l _ (memory t e) h)) (and_r (ltb e t.count) _ h);
  steady = λ a b i j m h. static_kept t gmo o c a b i j (rw m (any-sublist (steady-three t a b) h));
}
