-- A candidate of a table: what the verdict and the returned list are, once its lines are known.
use Prim.Native.Nat.{ℕ, ◌≤◌, ◌<◌}
use mathlib.Core.Path.{◌≡◌, sym, ap, ◌∙◌}
use mathlib.Core.Bool.{Bool, true, false, not, ◌||◌}
use mathlib.Core.List.{List, ◌++◌}
use lib.ListN.{length, drop}
use lib.Dec.{eqb}
use borrow.Author.Tests.{lt-ltb, le-ltb, eqb-true, eq-eqb, not-false}
use Rattle.candidate.specs.Buffers.{written}
use Rattle.lists.specs.Reply.{Reply, refused, answered}
use Rattle.lists.proofs.BoolLaws.{or_off}
use Rattle.lists.proofs.FilledLaws.{length-up_to}
use Rattle.table.specs.declared.Table.{Table}
use Rattle.table.specs.Events.{memory_count}
use Rattle.refusals.specs.Lines.{Refused, accepted, by_line, first_line, unless, reply_unless}
use Rattle.refusals.proofs.LineLaws.{none_here, whole_here, whole-next}
use Rattle.model.specs.Returns.{return_entry, returns}
use Rattle.model.specs.Verdict.{verdict, Verdict}
use Rattle.candidate.specs.CandidateLines.{order_length_wrong, returned_length_wrong, order_wrong, returned_wrong, returns_too_short}
use Rattle.answers.specs.Candidate.{candidate_lines, order_lines}

-- The lines of a candidate, told one by one.
module _ (t : Table) (rf gmo : List ℕ) where
  abbrev pub JudgedAs : Reply Refused Verdict → Type 0
  JudgedAs j = j ≡ reply_unless (first_line t.count (candidate_lines t rf gmo)) (verdict t rf gmo)

  refused-by : (n : ℕ) → by_line n ≡ first_line t.count (candidate_lines t rf gmo) → JudgedAs (refused (by_line n))
  refused-by n e = ap (λ (r : Refused). reply_unless r (verdict t rf gmo)) e

  pub judge-12 : (order_length_wrong t gmo || returned_length_wrong t rf) ≡ true → JudgedAs (refused (by_line 12))
  unfolding candidate_lines
  judge-12 a = refused-by 12 (whole_here _ _ _ _ a)

  pub judge-13 : (order_length_wrong t gmo || returned_length_wrong t rf) ≡ false → order_wrong t gmo ≡ true → JudgedAs (refused (by_line 13))
  unfolding candidate_lines
  judge-13 a b = refused-by 13 (whole-next _ _ _ _ _ a (whole_here _ _ _ _ b))

  module _ (a : (order_length_wrong t gmo || returned_length_wrong t rf) ≡ false) (b : order_wrong t gmo ≡ false) where
    pub judge-14 : returned_wrong t rf ≡ true → JudgedAs (refused (by_line 14))
    unfolding candidate_lines
    judge-14 d = refused-by 14 (whole-next _ _ _ _ _ a (whole-next _ _ _ _ _ b (whole_here _ _ _ _ d)))

    pub judge-none : returned_wrong t rf ≡ false → (j : Reply Refused Verdict) → j ≡ answered (verdict t rf gmo) → JudgedAs j
    unfolding candidate_lines
    judge-none d j e =
        e ∙ ap (λ (r : Refused). reply_unless r (verdict t rf gmo))
        (whole-next _ _ _ _ _ a (whole-next _ _ _ _ _ b (whole-next _ _ _ _ _ d (none_here _))))

-- The lines of an order whose returned list is asked for.
module _ (t : Table) (gmo out : List ℕ) where
  -- a refusal and a buffer are those of the lines
  abbrev pub DeterminedAs : Refused → List ℕ → Type 0
  DeterminedAs r after =
      (r ≡ first_line t.count (order_lines t gmo out)) × (after ≡ unless (first_line t.count (order_lines t gmo out)) (written (returns t gmo) out) out)

  left_alone : (n : ℕ) → by_line n ≡ first_line t.count (order_lines t gmo out) → DeterminedAs (by_line n) out
  left_alone n e = (e, ap (λ (r : Refused). unless r (written (returns t gmo) out) out) e)

  pub determine-12 : order_length_wrong t gmo ≡ true → DeterminedAs (by_line 12) out
  unfolding order_lines
  determine-12 a = left_alone 12 (whole_here _ _ _ _ a)

  determine-13 : order_length_wrong t gmo ≡ false → order_wrong t gmo ≡ true → DeterminedAs (by_line 13) out
  unfolding order_lines
  determine-13 a b = left_alone 13 (whole-next _ _ _ _ _ a (whole_here _ _ _ _ b))

  module _ (a : order_length_wrong t gmo ≡ false) (b : order_wrong t gmo ≡ false) where
    pub determine-16 : length out < t.count → DeterminedAs (by_line 16) out
    unfolding order_lines returns_too_short
    determine-16 d = left_alone 16 (whole-next _ _ _ _ _ a (whole-next _ _ _ _ _ b (whole_here _ _ _ _ (lt-ltb _ _ d))))

    pub determine-none : t.count ≤ length out → (after : List ℕ) → after ≡ returns t gmo ++ drop t.count out → DeterminedAs accepted after
    unfolding order_lines returns_too_short returns
    determine-none d after e = (
      none,
      e ∙ ap (λ (n : ℕ). returns t gmo ++ drop n out) (sym (length-up_to t.count (return_entry t gmo)))
          ∙ ap (λ (r : Refused). unless r (written (returns t gmo) out) out) none,
    )
      where
        none : accepted ≡ first_line t.count (order_lines t gmo out)
        none = whole-next _ _ _ _ _ a (whole-next _ _ _ _ _ b (whole-next _ _ _ _ _ (le-ltb _ _ d) (none_here _)))

-- the tests of lengths, as the code makes them
pub order-length-wrong : (t : Table) (gmo : List ℕ) (n : ℕ) → n ≡ memory_count t → not (eqb (length gmo) n) ≡ order_length_wrong t gmo
unfolding order_length_wrong
order-length-wrong t gmo n e = ap (λ (m : ℕ). not (eqb (length gmo) m)) e

pub returned-length : (t : Table) (rf gmo : List ℕ) → (order_length_wrong t gmo || returned_length_wrong t rf) ≡ false → length rf ≡ t.count
unfolding returned_length_wrong
returned-length t rf gmo h = eqb-true _ _ (not-false _ (or_off (order_length_wrong t gmo) _ h).1)

-- Refused by 13, from what the code's tests say: the number, and the buffer left alone.
module _ (t : Table) (gmo out : List ℕ) (n : ℕ) (e : n ≡ memory_count t) (h : length gmo ≡ n) (w : Bool) (f : w ≡ order_wrong t gmo) (g : w ≡ true) where
  told-13 : DeterminedAs t gmo out (by_line 13) out
  told-13 = determine-13 t gmo out (sym (order-length-wrong t gmo n e) ∙ ap not (eq-eqb _ _ h)) (sym f ∙ g)

  pub refused-13 : by_line 13 ≡ first_line t.count (order_lines t gmo out)
  refused-13 = told-13.0

  pub left-13 : out ≡ unless (first_line t.count (order_lines t gmo out)) (written (returns t gmo) out) out
  left-13 = told-13.1
