-- "Verdict order": the first that is broken, for a candidate that nothing refuses.
use Rattle.std.specs.Prelude.{ℕ, Bool, true, false, List, ltb}
use Rattle.lists.specs.Below.{lowest, some}
use Rattle.table.specs.declared.Table.{Table}
use Rattle.model.specs.Rules.{rule_set}
use Rattle.model.specs.Axioms.{breaks_ppo, breaks_load_value, breaks_atomicity, atomicity_writer, breaks_value_read, breaks_final_value}

pub data Verdict : Type 0 where
  allowed : Verdict
  broken_ppo : (a b : ℕ) (rules : List ℕ) → Verdict
  broken_load_value : (reader : ℕ) → Verdict
  broken_atomicity : (lr writer : ℕ) → Verdict
  broken_value_read : (reader : ℕ) → Verdict
  broken_final_value : (location : ℕ) → Verdict

-- v if the test says that it is broken, else what follows
abbrev pub broken : Bool → Verdict → Verdict → Verdict
broken true v rest = v
broken false v rest = rest

-- one line each, of the number that is lowest below n
abbrev pub broken_at : ℕ → (ℕ → Bool) → (ℕ → Verdict) → Verdict → Verdict
broken_at n f v rest = broken (some n f) (v (lowest n f)) rest

-- "the lowest a, and for that a the lowest b, .. using the returns given"; "carries the set" of the rules
abbrev pub ppo_break : Table → List ℕ → List ℕ → ℕ → Verdict
ppo_break t rf gmo a = let b = lowest t.count (breaks_ppo t rf gmo a) in broken_ppo a b (rule_set t rf a b)

-- "preserved order ..; load value (lowest reader); atomicity (lowest LR, then the lowest foreign writer between; ..);
-- value read (lowest reader); final value (lowest location)."
unfoldable pub verdict : Table → List ℕ → List ℕ → Verdict
verdict t rf gmo =
    broken_at t.count (λ a. some t.count (breaks_ppo t rf gmo a)) (ppo_break t rf gmo)
    (broken_at t.count (breaks_load_value t rf gmo) broken_load_value
    (broken_at t.count (breaks_atomicity t rf gmo) (λ l. broken_atomicity l (atomicity_writer t rf gmo l))
    (broken_at t.count (breaks_value_read t rf) broken_value_read
    (broken_at t.locations (breaks_final_value t gmo) broken_final_value
    allowed))))
