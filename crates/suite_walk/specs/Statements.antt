-- What the walk through a suite meets, and that a part of the suite is enough for each of its steps.
use Rattle.std.specs.Prelude.{ℕ, ◌+◌, ◌-◌, ◌*◌, ◌<◌, ◌≡◌, Bool, true, not, ◌&&◌, List, ltb, length, get_or, take, drop}
use Rattle.lists.specs.Below.{every, below}
use Rattle.lists.specs.Lists.{all, any, has}
use Rattle.edition.specs.Limits.{two, blocks_of, block_length}
use Rattle.suite_part.specs.Part.{block_count, in_suite}
use Rattle.suite_walk.specs.Tests.{test_of, good_two, next_block, tests}

-- block k is one of the two behind the first block of a good edition 2 test
abbrev pub behind_first : List ℕ → ℕ → Bool
behind_first s k = any (λ j. good_two s j && ltb j k && ltb k (j + blocks_of two)) (tests s)

-- the walk through the suite s
pub record Walk (s : List ℕ) : Type 0 where
  -- each first block is in the suite
  pub within : all (in_suite s) (tests s) ≡ true
  -- the first blocks rise
  pub rise : (i j : ℕ) → i < j → j < length (tests s) → get_or (tests s) i 0 < get_or (tests s) j 0
  -- no block is left out: each is a first block, or else one of the two behind the first block of a good edition 2 test
  pub each : (k : ℕ) → in_suite s k ≡ true → has k (tests s) ≡ not (behind_first s k)
  -- without good edition 2 tests each block is a first block
  pub plain : every (block_count s) (λ k. not (good_two s k)) ≡ true → tests s ≡ below (block_count s)

-- n bytes from block k on
abbrev pub window : List ℕ → ℕ → ℕ → List ℕ
window s k n = take n (drop (block_length * k) s)

-- where these are as many as the test at block k asks for, that test and the step from it can be told from them alone
pub record Told (s : List ℕ) (k n : ℕ) : Type 0 where
  pub test : test_of (window s k n) 0 ≡ test_of s k
  pub next : in_suite s k ≡ true → k + next_block (window s k n) 0 ≡ next_block s k
  -- without the blocks passed, they are bytes from the next test on
  pub left : in_suite s k ≡ true → drop (block_length * next_block (window s k n) 0) (window s k n)
      ≡ window s (next_block s k) (n - block_length * next_block (window s k n) 0)
