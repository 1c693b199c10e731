use Rattle.state_test.proofs.AcceptLaws.{follow-unready, follow-misreads, follow-spoils, follow-last}
use Rattle.state_test.proofs.may_follow.Goals as goal

pub returns-then-not-within : goal.returns-then-not-within
returns-then-not-within c = follow-unready _ _ c.args.s _ c.within.ensures c.if-not-within.true

pub returns-then-not-reads_well : goal.returns-then-not-reads_well
returns-then-not-reads_well c = follow-misreads _ _ c.args.s _ c.within.ensures c.reads_well.ensures
    c.if-not-reads_well.true

pub returns-then-not-ends_well : goal.returns-then-not-ends_well
returns-then-not-ends_well c = follow-spoils _ _ c.args.s _ c.within.ensures c.reads_well.ensures
    c.ends_well.ensures c.if-not-ends_well.true

pub returns : goal.returns
returns c = follow-last _ _ c.args.s _ c.within.ensures c.reads_well.ensures
    c.ends_well.ensures _ c.if-not-within.false
    c.if-not-reads_well.false c.if-not-ends_well.false c.may_place.ensures
