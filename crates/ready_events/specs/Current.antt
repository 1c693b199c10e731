-- What the mask of the events that may come next stands for.
use Rattle.std.specs.Prelude.{ℕ, ◌≡◌, List}
use Rattle.masks.specs.Bit.{bit}
use Rattle.successors.specs.CleanMasks.{may_follow}

-- can is the mask of the events that may come next
abbrev pub Current : List ℕ → ℕ → ℕ → ℕ → Type 0
Current preds mem placed can = (k : ℕ) → bit can k ≡ may_follow preds mem placed k
