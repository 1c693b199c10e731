use Rattle.advising.proofs.ReplyLaws.{too_many, few-fences, too_large, advice-given}
use Rattle.advising.proofs.advise.Goals as goal

pub returns-then-fences-gt-FENCES : goal.returns-then-fences-gt-FENCES
returns-then-fences-gt-FENCES c = too_many c.requires.small c.clear_fences-fences.ensures _ c.if-fences-gt-FENCES.true

pub returns-then-allowance-gt-ALLOWANCE : goal.returns-then-allowance-gt-ALLOWANCE
returns-then-allowance-gt-ALLOWANCE c = too_large c.requires.small c.clear_fences-fences.ensures _ c.if-fences-gt-FENCES.false c.if-allowance-gt-ALLOWANCE.true

pub try_all-requires : goal.try_all-requires
try_all-requires c = (c.of_table-facts.ensures, few-fences c.requires.small c.clear_fences-fences.ensures 0 c.if-fences-gt-FENCES.false, c.if-allowance-gt-ALLOWANCE.false)

pub returns : goal.returns
returns c = advice-given c.requires.small c.clear_fences-fences.ensures _ c.if-fences-gt-FENCES.false c.if-allowance-gt-ALLOWANCE.false c.try_all.ensures
