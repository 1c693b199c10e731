-- How a walk ended, in the paper's words; the prefix stands at the front of the order.
use Rattle.std.specs.Prelude.{ℕ, List, take}
use Rattle.prefixes.specs.Answer.{Answer, found, none_left, spent}
use Rattle.witness_walk.specs.declared.Ending.{Ending}
use Rattle.witness_walk.specs.declared.Ending.TheVariants.{Found, NoneLeft, Spent}

abbrev pub answer_of : Ending → List ℕ → Answer
answer_of (Found len visited) order = found (take len order) visited
answer_of (NoneLeft visited) order = none_left visited
answer_of (Spent len visited) order = spent (take len order) visited
