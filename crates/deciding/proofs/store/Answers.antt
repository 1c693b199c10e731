use mathlib.Core.Path.{refl}
use mathlib.Core.Logic.{inl}
use Rattle.deciding.proofs.MemoLaws.{stored-as}
use Rattle.deciding.proofs.store.Goals as goal

pub returns-then-is_empty : goal.returns-then-is_empty
returns-then-is_empty c = record { each = λ i. inl refl }

pub returns : goal.returns
returns c = stored-as c.args.memo.now c.args.s c.slot_of-slot.result _ c.slot_of-slot.ensures c.word_of.ensures
