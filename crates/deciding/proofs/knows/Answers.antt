use Rattle.deciding.proofs.MemoLaws.{knows_as}
use Rattle.deciding.proofs.knows.Goals as goal

pub returns : goal.returns
returns c = knows_as c.args.memo.now c.args.s c.slot_of.result _ c.word_of-word.ensures
