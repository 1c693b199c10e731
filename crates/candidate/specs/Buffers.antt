-- What a call leaves in the buffer that it was lent.
use Rattle.std.specs.Prelude.{ℕ, List, ◌++◌, length, drop}

-- a buffer whose front is written; "bytes past it stay"
abbrev pub written : List ℕ → List ℕ → List ℕ
written front out = front ++ drop (length front) out
