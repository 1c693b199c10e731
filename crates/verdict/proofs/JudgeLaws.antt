-- The verdict line by line: at the line that is broken, and past one that isn't.
use Prim.Native.Nat.{ℕ, ◌<◌}
use mathlib.Core.Path.{◌≡◌, sym, ap, ap₂, ◌∙◌}
use mathlib.Core.Bool.{Bool}
use mathlib.Core.List.{List}
use Rattle.lists.specs.Below.{lowest, some}
use Rattle.table.specs.declared.Table.{Table}
use Rattle.model.specs.Rules.{rules, rule_set}
use Rattle.model.specs.Axioms.{breaks_ppo, breaks_load_value, breaks_atomicity, atomicity_writer, breaks_value_read, breaks_final_value}
use Rattle.model.specs.Verdict.{Verdict, allowed, broken_ppo, broken_load_value, broken_atomicity, broken_value_read, broken_final_value}
use Rattle.model.specs.Verdict.{broken_at, ppo_break, verdict}
use Rattle.rule_sets.specs.RuleMask.{set_mask, rules_in}
use Rattle.rule_sets.proofs.MaskLaws.{rules-in}
use Rattle.verdict.specs.Pairs.{LowestPair}
use native.Mathlib.Omega.{arith}
use borrow.Author.Tests.{lt-ltb, le-ltb}

-- k is the lowest below n that is broken
broken-here : (n k : ℕ) (f : ℕ → Bool) (v : ℕ → Verdict) (rest : Verdict) → lowest n f < n → k ≡ lowest n f → v k ≡ broken_at n f v rest
broken-here n k f v rest h e = rw (lt-ltb _ _ h) (ap v e)

-- none below n is
broken-next : (n : ℕ) (f : ℕ → Bool) (v : ℕ → Verdict) (rest : Verdict) → ¬ (lowest n f < n) → rest ≡ broken_at n f v rest
broken-next n f v rest h = rw (le-ltb (lowest n f) n (omega (arith, h)))

-- Each line's name is the verdict where all lines above it are kept.
module _ (t : Table) (gmo : List ℕ) where
  abbrev pub final_line : Verdict
  final_line = broken_at t.locations (breaks_final_value t gmo) broken_final_value allowed

  abbrev pub lowest_final : ℕ
  lowest_final = lowest t.locations (breaks_final_value t gmo)

  pub at-final : (x : ℕ) → lowest_final < t.locations → x ≡ lowest_final → broken_final_value x ≡ final_line
  at-final x h e = broken-here t.locations x (breaks_final_value t gmo) broken_final_value allowed h e

  pub past-final : ¬ (lowest_final < t.locations) → allowed ≡ final_line
  past-final h = broken-next t.locations (breaks_final_value t gmo) broken_final_value allowed h

module _ (t : Table) (rf gmo : List ℕ) where
  abbrev pub read_line : Verdict
  read_line = broken_at t.count (breaks_value_read t rf) broken_value_read (final_line t gmo)

  abbrev pub atomicity_line : Verdict
  atomicity_line =
      broken_at t.count (breaks_atomicity t rf gmo) (λ l. broken_atomicity l (atomicity_writer t rf gmo l)) read_line

  abbrev pub load_line : Verdict
  load_line = broken_at t.count (breaks_load_value t rf gmo) broken_load_value atomicity_line

  pub at_pair : (a b s : ℕ) → LowestPair t.count (breaks_ppo t rf gmo) a b → s ≡ set_mask (rules t rf a b)
      → broken_ppo a b (rules_in s) ≡ verdict t rf gmo
  unfolding verdict
  at_pair a b s p e =
      ap₂ (broken_ppo a) (sym p.second) (ap rules_in e ∙ rules-in t rf a b ∙ ap (rule_set t rf a) (sym p.second))
      ∙ broken-here t.count a (λ x. some t.count (breaks_ppo t rf gmo x)) (ppo_break t rf gmo) load_line (omega (arith, p.first, p.below)) (sym p.first)

  pub past-pair : (v : Verdict) → lowest t.count (λ x. some t.count (breaks_ppo t rf gmo x)) ≡ t.count → v ≡ load_line
      → v ≡ verdict t rf gmo
  unfolding verdict
  past-pair v p e =
      e ∙ broken-next t.count (λ x. some t.count (breaks_ppo t rf gmo x)) (ppo_break t rf gmo) load_line (λ l. absurd (omega arith))

  abbrev lowest_load : ℕ
  lowest_load = lowest t.count (breaks_load_value t rf gmo)

  pub at_load : (r : ℕ) → lowest_load < t.count → r ≡ lowest_load → broken_load_value r ≡ load_line
  at_load r h e = broken-here t.count r (breaks_load_value t rf gmo) broken_load_value atomicity_line h e

  pub past-load : (v : Verdict) → ¬ (lowest_load < t.count) → v ≡ atomicity_line → v ≡ load_line
  past-load v h q = q ∙ broken-next t.count (breaks_load_value t rf gmo) broken_load_value atomicity_line h

  abbrev lowest_lr : ℕ
  lowest_lr = lowest t.count (breaks_atomicity t rf gmo)

  pub at-atomicity : (l w : ℕ) → lowest_lr < t.count → l ≡ lowest_lr → w ≡ atomicity_writer t rf gmo l
      → broken_atomicity l w ≡ atomicity_line
  at-atomicity l w h e q =
      ap (broken_atomicity l) q
      ∙ broken-here t.count l (breaks_atomicity t rf gmo) (λ x. broken_atomicity x (atomicity_writer t rf gmo x)) read_line h e

  pub past-atomicity : (v : Verdict) → ¬ (lowest_lr < t.count) → v ≡ read_line → v ≡ atomicity_line
  past-atomicity v h q =
      q ∙ broken-next t.count (breaks_atomicity t rf gmo) (λ x. broken_atomicity x (atomicity_writer t rf gmo x)) read_line h

  abbrev lowest_read : ℕ
  lowest_read = lowest t.count (breaks_value_read t rf)

  pub at_read : (r : ℕ) → lowest_read < t.count → r ≡ lowest_read → broken_value_read r ≡ read_line
  at_read r h e = broken-here t.count r (breaks_value_read t rf) broken_value_read (final_line t gmo) h e

  pub past-read : (v : Verdict) → ¬ (lowest_read < t.count) → v ≡ final_line t gmo → v ≡ read_line
  past-read v h q = q ∙ broken-next t.count (breaks_value_read t rf) broken_value_read (final_line t gmo) h
