use native.Mathlib.Omega.{arith}
use Rattle.search.proofs.CallLaws.{counted, count_small}
use Rattle.deciding.proofs.ReplyLaws.{short-is}
use Rattle.deciding.proofs.is_short.Goals as goal

pub overflow_cast-result : goal.overflow_cast-result
overflow_cast-result c = omega (arith, counted _ c.memory_mask.ensures, count_small c.args.t c.requires.small)

pub returns : goal.returns
returns c = short-is _ _ (counted _ c.memory_mask.ensures)
