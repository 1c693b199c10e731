use Rattle.pair_rules.proofs.PairLaws.{pair-12, pair-14, pair-none}
use Rattle.candidate.specs.CandidateLines.{returned_length_wrong}
use borrow.Author.Tests.{eq-eqb, ne_eqb}
use mathlib.Core.Bool.{not}
use mathlib.Core.Path.{sym, ap, ◌∙◌}
use Rattle.pair_rules.proofs.pair.Goals as goal

pub returns-then-returned-from : goal.returns-then-returned-from
unfolding returned_length_wrong
returns-then-returned-from c = pair-12 _ _ _ _ (ap not (ne_eqb _ _ (rw c.from.ensures at c.if-returned-from.true)))

pub returns-then-returned_wrong : goal.returns-then-returned_wrong
unfolding returned_length_wrong
returns-then-returned_wrong c = pair-14 _ _ _ _ (ap not (eq-eqb _ _ (rw c.from.ensures at c.if-returned-from.false))) (sym c.returned_wrong.ensures ∙ c.if-returned_wrong.true)

pub returns : goal.returns
unfolding returned_length_wrong
returns c = pair-none _ _ _ _ (ap not (eq-eqb _ _ (rw c.from.ensures at c.if-returned-from.false))) (sym c.returned_wrong.ensures ∙ c.if-returned_wrong.false) _ c.held.ensures
