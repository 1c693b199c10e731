-- The rules of a pair of a table: when there are none, and what the answer is, once the lines are known.
use Prim.Native.Nat.{ℕ, ◌≤◌, ◌<◌}
use mathlib.Core.Path.{◌≡◌, refl, sym, ap, ◌∙◌}
use mathlib.Core.Bool.{Bool, true, false, ◌&&◌}
use mathlib.Core.List.{List, []}
use lib.Dec.{eqb, ltb}
use borrow.Author.Tests.{lt-ltb, le-ltb}
use Rattle.lists.specs.Reply.{Reply, refused, answered}
use Rattle.lists.proofs.BoolLaws.{and_left, and_right}
use Rattle.table.specs.declared.Table.{Table}
use Rattle.table.specs.Events.{memory, po, hart}
use Rattle.refusals.specs.Lines.{Refused, by_line, first_line, reply_unless}
use Rattle.refusals.proofs.LineLaws.{none_here, whole_here, whole-next}
use Rattle.model.specs.Rules.{rule_set}
use Rattle.model.specs.Witness.{is_memory_event}
use Rattle.candidate.specs.CandidateLines.{returned_length_wrong, returned_wrong}
use Rattle.pair_rules.specs.PairRules.{returned_lines, only_if, rules_between}

module _ (t : Table) (rf : List ℕ) (a b : ℕ) where
  -- the test that the definition makes of the pair, and the code's
  abbrev asked : Bool
  asked = is_memory_event t a && is_memory_event t b && po t a b

  abbrev pub told : Bool
  told = po t a b && memory t a && memory t b

  none : asked ≡ false → [] ≡ rules_between t rf a b
  unfolding rules_between
  none h = sym (ap (λ (c : Bool). only_if c (rule_set t rf a b)) h)

  -- b is no event of the test
  pub pair-past : t.count ≤ b → [] ≡ rules_between t rf a b
  unfolding is_memory_event
  pair-past h =
      none (sym (and_left (is_memory_event t a && is_memory_event t b) (po t a b)
      (and_right (is_memory_event t a) (is_memory_event t b) (sym (and_left (ltb b t.count) (memory t b) (le-ltb _ _ h))))))

  -- b isn't later than a
  pub pair-late : b ≤ a → [] ≡ rules_between t rf a b
  unfolding po
  pair-late h =
      none (and_right (is_memory_event t a && is_memory_event t b) (po t a b)
      (sym (and_left (ltb a b) (eqb (hart t a) (hart t b)) (le-ltb _ _ h))))

  turned : (p m n : Bool) → (m && n && p) ≡ (p && m && n)
  turned true true true = refl
  turned true true false = refl
  turned true false n = refl
  turned false true true = refl
  turned false true false = refl
  turned false false n = refl

  -- for events of the test the two tests are the same
  asked-told : a < t.count → b < t.count → asked ≡ told
  unfolding is_memory_event
  asked-told h k = rw (lt-ltb _ _ h, lt-ltb _ _ k) (turned (po t a b) (memory t a) (memory t b))

  pub pair-not : a < t.count → b < t.count → told ≡ false → [] ≡ rules_between t rf a b
  pair-not h k e = none (asked-told h k ∙ e)

  pub pair-ruled : a < t.count → b < t.count → told ≡ true → rule_set t rf a b ≡ rules_between t rf a b
  unfolding rules_between
  pair-ruled h k e = sym (ap (λ (c : Bool). only_if c (rule_set t rf a b)) (asked-told h k ∙ e))

  -- The lines of a returned list, told one by one.
  abbrev pub RuledAs : Reply Refused (List ℕ) → Type 0
  RuledAs r = r ≡ reply_unless (first_line t.count (returned_lines t rf)) (rules_between t rf a b)

  pub pair-12 : returned_length_wrong t rf ≡ true → RuledAs (refused (by_line 12))
  unfolding returned_lines
  pair-12 d = ap (λ (r : Refused). reply_unless r (rules_between t rf a b)) (whole_here _ _ _ _ d)

  pub pair-14 : returned_length_wrong t rf ≡ false → returned_wrong t rf ≡ true → RuledAs (refused (by_line 14))
  unfolding returned_lines
  pair-14 d e = ap (λ (r : Refused). reply_unless r (rules_between t rf a b)) (whole-next _ _ _ _ _ d (whole_here _ _ _ _ e))

  pub pair-none : returned_length_wrong t rf ≡ false → returned_wrong t rf ≡ false → (rs : List ℕ) → rs ≡ rules_between t rf a b →
      RuledAs (answered rs)
  unfolding returned_lines
  pair-none d e rs h =
      ap answered h ∙ ap (λ (r : Refused). reply_unless r (rules_between t rf a b)) (whole-next _ _ _ _ _ d (whole-next _ _ _ _ _ e (none_here _)))
