use mathlib.Core.Path.{sym, ◌∙◌}
use borrow.Author.Tests.{eqb-true, eqb-false}
use lib.ListN.{take}
use Rattle.condition_test.proofs.WantedLaws.{witness-stated, witness-any, witness-met, witness-unmet}
use Rattle.condition_test.proofs.is_witness.Goals as goal

pub returns-then-is_empty : goal.returns-then-is_empty
returns-then-is_empty c = let a = c.args in record {
  witnesses = witness-stated a.facts.now a.words.now (take a.len a.order.now) (eqb-true _ _ (sym c.is_empty.ensures ∙ c.if-is_empty.true)) _
      c.is_witness.ensures a.seen.now a.kept.now;
  seen_len = c.requires.1;
}

pub returns-then-words-eq-ANY : goal.returns-then-words-eq-ANY
returns-then-words-eq-ANY c = let a = c.args in record {
  witnesses = witness-any a.facts.now a.words.now (take a.len a.order.now) (eqb-false _ _ (sym c.is_empty.ensures ∙ c.if-is_empty.false)) c.if-words-eq-ANY.true _
      c.is_lawful.ensures a.seen.now a.kept.now;
  seen_len = c.requires.1;
}

pub returns-then-meets : goal.returns-then-meets
returns-then-meets c = let a = c.args in record {
  witnesses = witness-met a.facts.now a.words.now (take a.len a.order.now) (eqb-false _ _ (sym c.is_empty.ensures ∙ c.if-is_empty.false)) c.if-words-eq-ANY.false a.seen.now a.kept.now
      c.meets.new.seen c.meets.new.kept _ c.meets.ensures.meets c.if-meets.true _
      c.is_lawful-then-meets.ensures;
  seen_len = c.meets.ensures.seen_len;
}

pub returns-else-meets : goal.returns-else-meets
returns-else-meets c = let a = c.args in record {
  witnesses = witness-unmet a.facts.now a.words.now (take a.len a.order.now) (eqb-false _ _ (sym c.is_empty.ensures ∙ c.if-is_empty.false)) c.if-words-eq-ANY.false a.seen.now a.kept.now
      c.meets.new.seen c.meets.new.kept _ c.meets.ensures.meets c.if-meets.false;
  seen_len = c.meets.ensures.seen_len;
}
