-- The bytes held of standard input, from the first block of the next test on.
use Rattle.std.specs.Prelude.{ℕ, ◌*◌, ◌≤◌, List, ◌≡◌, length, take, drop}
use Rattle.edition.specs.Limits.{block_length}
use Rattle.suite_walk.specs.Tests.{next_block}
use Rattle.suite.specs.declared.held.Step.{Step}
use Rattle.suite.specs.declared.Effect.{Effect}
use Rattle.suite.specs.declared.Effect.TheVariants.{Passed, NoMore, Failed}

-- The walk moved from the first test of these bytes to the next: what is left of them stands at the front of the buffer.
pub record Passes (bytes buffer : List ℕ) (step : Step) : Type 0 where
  pub moved : step.blocks ≡ next_block bytes 0
  pub left : take step.held buffer ≡ drop (block_length * step.blocks) bytes
  pub within : step.held ≤ length bytes

-- A turn passed the first test of the bytes held before it and of those that it read behind them.
pub record Turn (held : ℕ) (before after : List ℕ) (step : Step) : Type 0 where
  pub bytes : List ℕ
  pub begin : take held bytes ≡ take held before
  pub fit : length bytes ≤ length before
  pub pass : Passes bytes after step

-- What a turn did.
abbrev pub Turned : ℕ → List ℕ → List ℕ → Effect → Type 0
Turned held before after (Passed step) = Turn held before after step
Turned held before after NoMore = Unit {0}
Turned held before after Failed = Unit {0}
