-- Where fence bits, annotations and dependencies only grow, so does preserved order.
use Prim.Native.Nat.{ℕ}
use mathlib.Core.Path.{◌≡◌, ap}
use mathlib.Core.Bool.{true, not, ◌&&◌, ◌||◌}
use mathlib.Core.List.{List}
use lib.Dec.{eqb}
use borrow.Author.Tests.{eqb-true, not-true}
use Rattle.lists.specs.Below.{some}
use Rattle.lists.specs.Lists.{any}
use Rattle.lists.proofs.BoolLaws.{and_l, and_r, is_false, not-either}
use Rattle.masks.specs.Bit.{bit}
use Rattle.table.specs.declared.Table.{Table}
use Rattle.table.specs.Events.{kind, reads, writes, memory, po, between, fence}
use Rattle.table.specs.Annotations.{flags, acquire, release, rcsc, address_depends, data_depends, control_depends}
use Rattle.model.specs.Rules.{fence_orders, rule4, rule5, rule6, rule7, rule9, rule10, rule11, rule12, rule13, may_order, rules, holds, ppo}
use Rattle.model.specs.Axioms.{breaks_ppo, preserved_order}
use Rattle.stronger.proofs.ImpliesLaws.{Implies, same-implies, and-grows, or-grows, some-grows}
use Rattle.stronger.proofs.SameLaws.{Same, reads_same, writes-same, memory-same, between-same, may-same, rule1-same, rule2-same, rule3-same, tso-same, rule8-same}

-- what the rules look at, of a table and of one that is at least as strong
pub record Grows (t u : Table) : Type 0 where
  pub same : Same t u
  pub fence-bit : (f k : ℕ) → kind t f ≡ fence → Implies (bit (flags t f) k) (bit (flags u f) k)
  pub acquire : (e : ℕ) → memory t e ≡ true → Implies (acquire t e) (acquire u e)
  pub release : (e : ℕ) → memory t e ≡ true → Implies (release t e) (release u e)
  pub rcsc : (e : ℕ) → memory t e ≡ true → Implies (rcsc t e) (rcsc u e)
  pub address : (b a : ℕ) → Implies (address_depends t b a) (address_depends u b a)
  pub «data» : (b a : ℕ) → Implies (data_depends t b a) (data_depends u b a)
  pub control : (b a : ℕ) → Implies (control_depends t b a) (control_depends u b a)

module _ {t u : Table} (g : Grows t u) where
  abbrev s : Same t u
  s = g.same

  reads-grow : (e : ℕ) → Implies (reads t e) (reads u e)
  reads-grow e = same-implies (λ i. reads_same s i e)

  writes-grow : (e : ℕ) → Implies (writes t e) (writes u e)
  writes-grow e = same-implies (λ i. writes-same s i e)

  between-grows : (a m b : ℕ) → Implies (between t a m b) (between u a m b)
  between-grows a m b = same-implies (λ i. between-same s i a m b)

  -- one side of a fence: bit i lets what reads count, bit j what writes
  side-grows : (f e i j : ℕ) → kind t f ≡ fence →
      Implies (reads t e && bit (flags t f) i || writes t e && bit (flags t f) j)
      (reads u e && bit (flags u f) i || writes u e && bit (flags u f) j)
  side-grows f e i j k =
      or-grows (and-grows (reads-grow e) (g.fence-bit f i k)) (and-grows (writes-grow e) (g.fence-bit f j k))

  fence-grows : (a f b : ℕ) → Implies (fence_orders t a f b) (fence_orders u a f b)
  unfolding fence_orders
  fence-grows a f b h =
      and-grows (and-grows (same-implies (λ i. eqb (s.kind i f) fence)) (side-grows f a 0 1 is)) (side-grows f b 2 3 is) h
    where
      is : kind t f ≡ fence
      is = eqb-true (kind t f) fence (and_l _ _ (and_l _ _ h))

  rule4-grows : (a b : ℕ) → Implies (rule4 t a b) (rule4 u a b)
  unfolding rule4
  rule4-grows a b =
      some-grows _ _ s.count (λ f.
      and-grows (between-grows a f b) (or-grows (fence-grows a f b) (same-implies (λ i. tso-same s i a f b))))

  rule12-grows : (rf : List ℕ) (a b : ℕ) → Implies (rule12 t rf a b) (rule12 u rf a b)
  unfolding rule12
  rule12-grows rf a b =
      and-grows (reads-grow b) (some-grows _ _ s.count (λ m.
      and-grows (and-grows (and-grows (between-grows a m b) (writes-grow m)) (λ h. h))
      (or-grows (g.address m a) (g.«data» m a))))

  rule13-grows : (a b : ℕ) → Implies (rule13 t a b) (rule13 u a b)
  unfolding rule13
  rule13-grows a b =
      and-grows (writes-grow b) (some-grows _ _ s.count (λ m.
      and-grows (and-grows (between-grows a m b) (same-implies (λ i. memory-same s i m))) (g.address m a)))

  rules-grow : (rf : List ℕ) (a b : ℕ) → memory t a ≡ true → memory t b ≡ true →
      Implies (any holds (rules t rf a b)) (any holds (rules u rf a b))
  unfolding rules rule5 rule6 rule7 rule9 rule10 rule11
  rules-grow rf a b ma mb =
      or-grows (same-implies (λ i. rule1-same s i a b))
      (or-grows (same-implies (λ i. rule2-same s i rf a b))
      (or-grows (same-implies (λ i. rule3-same s i rf a b))
      (or-grows (rule4-grows a b)
      (or-grows (g.acquire a ma)
      (or-grows (g.release b mb)
      (or-grows (and-grows (g.rcsc a ma) (g.rcsc b mb))
      (or-grows (same-implies (λ i. rule8-same s i a b))
      (or-grows (g.address b a)
      (or-grows (g.«data» b a)
      (or-grows (and-grows (writes-grow b) (g.control b a))
      (or-grows (rule12-grows rf a b)
      (or-grows (rule13-grows a b) (λ h. h)))))))))))))

  ppo-grows : (rf : List ℕ) (a b : ℕ) → Implies (ppo t rf a b) (ppo u rf a b)
  unfolding ppo may_order
  ppo-grows rf a b h = and-grows (same-implies (λ i. may-same s i a b)) (rules-grow rf a b ma mb) h
    where
      may : may_order t a b ≡ true
      may = and_l _ _ h

      ma : memory t a ≡ true
      ma = and_r (po t a b) (memory t a) (and_l _ _ may)

      mb : memory t b ≡ true
      mb = and_r (po t a b && memory t a) (memory t b) may

  -- so an order that keeps the second's keeps the first's
  pub preserved-grows : (rf gmo : List ℕ) → Implies (preserved_order u rf gmo) (preserved_order t rf gmo)
  unfolding preserved_order breaks_ppo
  preserved-grows rf gmo h = ap not (is_false _ (λ k. not-either _ (broken k) (not-true _ h)))
    where
      broken : Implies (some t.count (λ a. some t.count (breaks_ppo t rf gmo a)))
          (some u.count (λ a. some u.count (breaks_ppo u rf gmo a)))
      broken = some-grows _ _ s.count (λ a. some-grows _ _ s.count (λ b. and-grows (ppo-grows rf a b) (λ x. x)))
