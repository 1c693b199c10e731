-- In a clean order the steady rules are kept: what breaks preserved order breaks a rule that looks at what was returned.
use Prim.Native.Nat.{ℕ, ◌<◌}
use mathlib.Core.Path.{◌≡◌, refl, sym, ap, ◌∙◌}
use mathlib.Core.Bool.{Bool, true, false, not, ◌&&◌, ◌||◌, true≢false}
use mathlib.Core.List.{List, [], ◌∷◌}
use lib.Dec.{eqb}
use borrow.Author.Tests.{eqb-true}
use Rattle.lists.specs.Below.{some, below}
use Rattle.lists.specs.Lists.{all, any, has, count, before}
use Rattle.lists.proofs.BoolLaws.{and_l, and_r, and_right}
use Rattle.lists.proofs.DistinctLaws.{counted_has}
use Rattle.lists.proofs.ListLaws.{all-has}
use Rattle.lists.proofs.MemberLaws.{has-keep, below-has}
use Rattle.lists.proofs.SomeLaws.{some_same, every-at}
use Rattle.table.specs.declared.Table.{Table}
use Rattle.table.specs.Events.{memory, memory_events, po}
use Rattle.model.specs.Rules.{rule1, rule2, rule3, rule4, rule5, rule6, rule7, rule8, rule9, rule10, rule11, rule12, rule13, holds, rules, static_rules, may_order, ppo, static_ppo}
use Rattle.model.specs.Returns.{returns}
use Rattle.model.specs.Axioms.{breaks_ppo, preserved_order, atomicity}
use Rattle.model.specs.Witness.{is_memory_event, is_order, lawful}
use Rattle.model.specs.Prefixes.{is_prefix, predecessors_listed, clean}
use Rattle.model.proofs.VerdictLaws.{returns-load-value}
use Rattle.placing.specs.ReturnedRules.{returned_ppo, breaks_returned}

-- where no steady rule holds, the other three are left of the thirteen
three-left : (r1 r2 r3 r4 r5 r6 r7 r8 r9 r10 r11 r12 r13 : Bool)
    → any holds (r1 ∷ r4 ∷ r5 ∷ r6 ∷ r7 ∷ r8 ∷ r9 ∷ r10 ∷ r11 ∷ r13 ∷ []) ≡ false
    → any holds (r1 ∷ r2 ∷ r3 ∷ r4 ∷ r5 ∷ r6 ∷ r7 ∷ r8 ∷ r9 ∷ r10 ∷ r11 ∷ r12 ∷ r13 ∷ []) ≡ (r2 || r3 || r12)
three-left true r2 r3 r4 r5 r6 r7 r8 r9 r10 r11 r12 r13 h = absurd (true≢false h)
three-left false r2 r3 true r5 r6 r7 r8 r9 r10 r11 r12 r13 h = absurd (true≢false h)
three-left false r2 r3 false true r6 r7 r8 r9 r10 r11 r12 r13 h = absurd (true≢false h)
three-left false r2 r3 false false true r7 r8 r9 r10 r11 r12 r13 h = absurd (true≢false h)
three-left false r2 r3 false false false true r8 r9 r10 r11 r12 r13 h = absurd (true≢false h)
three-left false r2 r3 false false false false true r9 r10 r11 r12 r13 h = absurd (true≢false h)
three-left false r2 r3 false false false false false true r10 r11 r12 r13 h = absurd (true≢false h)
three-left false r2 r3 false false false false false false true r11 r12 r13 h = absurd (true≢false h)
three-left false r2 r3 false false false false false false false true r12 r13 h = absurd (true≢false h)
three-left false r2 r3 false false false false false false false false r12 true h = absurd (true≢false h)
three-left false true r3 false false false false false false false false r12 false h = true-or r3 r12
  where
    true-or : (p q : Bool) → true ≡ (true || p || q)
    true-or p q = refl
three-left false false true false false false false false false false false r12 false h = refl
three-left false false false false false false false false false false false true false h = refl
three-left false false false false false false false false false false false false false h = refl

module _ (t : Table) (gmo : List ℕ) (o : is_order t gmo ≡ true) (c : clean t gmo ≡ true) where
  -- the order has each memory event
  pub order-has : (e : ℕ) → e < t.count → memory t e ≡ true → has e gmo ≡ true
  unfolding is_order memory_events
  order-has e l m =
      counted_has e gmo (eqb-true (count e gmo) 1 (all-has (λ x. eqb (count x gmo) 1) (memory_events t) e
      (and_r (all (is_memory_event t) gmo) (all (λ x. eqb (count x gmo) 1) (memory_events t)) o)
      (has-keep (memory t) (below t.count) e (below-has t.count e l) m)))

  -- and keeps static ppo
  pub static_kept : (a b : ℕ) → a < t.count → b < t.count → static_ppo t a b ≡ true → before gmo a b ≡ true
  unfolding clean predecessors_listed static_ppo may_order
  static_kept a b k l s =
      let listed = every-at t.count (λ x. not (static_ppo t x b) || before gmo x b) a
      (all-has (predecessors_listed t gmo) gmo b (and_r (is_prefix t gmo) (all (predecessors_listed t gmo) gmo) c)
      (order-has b l (and_r (po t a b && memory t a) (memory t b) (and_l (may_order t a b) (any holds (static_rules t a b)) s)))) k in
      rw s at listed

  module _ (rf : List ℕ) where
    -- where static ppo doesn't, ppo is one of the three
    ppo-returned : (a b : ℕ) → static_ppo t a b ≡ false → ppo t rf a b ≡ returned_ppo t rf a b
    unfolding ppo static_ppo returned_ppo rules static_rules
    ppo-returned a b s = go (may_order t a b) refl
      where
        go : (m : Bool) → may_order t a b ≡ m →
            (may_order t a b && any holds (rules t rf a b)) ≡ (may_order t a b && (rule2 t rf a b || rule3 t rf a b || rule12 t rf a b))
        go false q = rw q
        go true q = rw q
            (three-left (rule1 t a b) (rule2 t rf a b) (rule3 t rf a b) (rule4 t a b) (rule5 t a b) (rule6 t a b) (rule7 t a b)
            (rule8 t a b) (rule9 t a b) (rule10 t a b) (rule11 t a b) (rule12 t rf a b) (rule13 t a b) (rw q at s))

    breaks-same : (a b : ℕ) → a < t.count → b < t.count → breaks_ppo t rf gmo a b ≡ breaks_returned t rf gmo a b
    unfolding breaks_ppo breaks_returned
    breaks-same a b k l = go (static_ppo t a b) refl
      where
        go : (s : Bool) → static_ppo t a b ≡ s →
            (ppo t rf a b && not (before gmo a b)) ≡ (returned_ppo t rf a b && not (before gmo a b))
        go true q =
            let late : not (before gmo a b) ≡ false = ap not (static_kept a b k l q) in
            and_right (ppo t rf a b) _ late ∙ sym (and_right (returned_ppo t rf a b) _ late)
        go false q = ap (λ (p : Bool). p && not (before gmo a b)) (ppo-returned a b q)

    -- preserved order breaks exactly where one of the three does
    preserved-same : preserved_order t rf gmo ≡ not (some t.count (λ a. some t.count (breaks_returned t rf gmo a)))
    unfolding preserved_order
    preserved-same = ap not (some_same t.count _ _ (λ a k. some_same t.count _ _ (λ b l. breaks-same a b k l)))

  -- what is left to test
  pub lawful-left : lawful t gmo
      ≡ (not (some t.count (λ a. some t.count (breaks_returned t (returns t gmo) gmo a))) && atomicity t (returns t gmo) gmo)
  unfolding lawful
  lawful-left = rw (o, preserved-same (returns t gmo), returns-load-value t gmo)
      (two-left (not (some t.count (λ a. some t.count (breaks_returned t (returns t gmo) gmo a)))) _)
    where
      two-left : (p a : Bool) → (true && p && true && a) ≡ (p && a)
      two-left true true = refl
      two-left true false = refl
      two-left false true = refl
      two-left false false = refl
