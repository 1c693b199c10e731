-- How the tests that the code makes join to the rules and their list.
use Prim.Native.Nat.{ℕ}
use mathlib.Core.Path.{◌≡◌}
use mathlib.Core.Bool.{Bool, true, false, not}
use mathlib.Core.List.{List, [], ◌∷◌}
use lib.Dec.{eqb}
use Rattle.table.specs.declared.Table.{Table}
use Rattle.model.specs.Rules.{rules, may_order, ppo}
use Rattle.model.specs.Rules.{rule1, rule2, rule3, rule4, rule5, rule6, rule7, rule8, rule9, rule10, rule11, rule12, rule13}
use Rattle.rule_sets.specs.RuleMask.{set_mask}
use Rattle.rule_sets.proofs.MaskLaws.{mask-any}

-- the thirteen tests, each that of its rule
pub held : (t : Table) (rf : List ℕ) (a b : ℕ) {r1 r2 r3 r4 r5 r6 r7 r8 r9 r10 r11 r12 r13 : Bool}
    → r1 ≡ rule1 t a b → r2 ≡ rule2 t rf a b → r3 ≡ rule3 t rf a b → r4 ≡ rule4 t a b → r5 ≡ rule5 t a b → r6 ≡ rule6 t a b
    → r7 ≡ rule7 t a b → r8 ≡ rule8 t a b → r9 ≡ rule9 t a b → r10 ≡ rule10 t a b → r11 ≡ rule11 t a b → r12 ≡ rule12 t rf a b
    → r13 ≡ rule13 t a b
    → (r1 ∷ r2 ∷ r3 ∷ r4 ∷ r5 ∷ r6 ∷ r7 ∷ r8 ∷ r9 ∷ r10 ∷ r11 ∷ r12 ∷ r13 ∷ []) ≡ rules t rf a b
unfolding rules
held t rf a b h1 h2 h3 h4 h5 h6 h7 h8 h9 h10 h11 h12 h13 = rw (h1, h2, h3, h4, h5, h6, h7, h8, h9, h10, h11, h12, h13)

-- a before b by program order, both memory events: the set of rules decides
pub ppo-taken : (t : Table) (rf : List ℕ) (a b s : ℕ) → may_order t a b ≡ true → s ≡ set_mask (rules t rf a b) → not (eqb s 0) ≡ ppo t rf a b
unfolding ppo
ppo-taken t rf a b s h e = rw (e, h) (mask-any (rules t rf a b))

pub ppo-left : (t : Table) (rf : List ℕ) (a b : ℕ) → may_order t a b ≡ false → false ≡ ppo t rf a b
unfolding ppo
ppo-left t rf a b h = rw h
