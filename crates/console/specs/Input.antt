-- What is held of the input at the front of a buffer.
use Rattle.std.specs.Prelude.{ℕ, ◌≤◌, List, ◌≡◌, length, take, Result, Ok, Err}

-- The bytes held before stand where they did, and those that were read stand behind them.
abbrev pub Holds : {E : Type 0} → ℕ → List ℕ → List ℕ → Result ℕ E → Type 0
Holds held before after (Ok n) = (held ≤ n) × (n ≤ length before) × (take held after ≡ take held before)
Holds held before after (Err e) = Unit {0}
