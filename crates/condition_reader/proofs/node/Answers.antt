use Rattle.condition_reader.proofs.node.Goals as goal
use Rattle.condition_reader.proofs.node.Goals.{then-returned, else-returned}
use Rattle.condition_reader.proofs.AtomLaws.{returns-word, ends-word}

pub returns : goal.returns
returns c = elim c.if-returned.branch [
  | then-returned w ↦ rw (w.if-returned.true, w.kind-is) (returns-word _ _)
  | else-returned w ↦ rw (w.if-returned.false, w.kind-is) (ends-word _ _)
]
