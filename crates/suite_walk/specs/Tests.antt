-- The tests of a suite, of both editions, and the walk from each to the next. "Block k is still asked for by its own number."
use Rattle.std.specs.Prelude.{ℕ, zero, suc, ◌+◌, ◌*◌, Bool, true, false, cond, ◌&&◌, not, List, [], ◌∷◌, eqb, length, take, drop}
use Rattle.edition.specs.Limits.{Edition, two, edition_number, blocks_of, test_length, block_length}
use Rattle.decode.specs.Layout.{byte_at, edition_at, second_if}
use Rattle.suite_part.specs.Part.{block_of, block_count, in_suite}
use Rattle.refusals.specs.Lines.{unless}
use Rattle.block.specs.Reading.{line2, line3, read_refusal}

-- a block "by itself passes 2 and 3 and has edition 2"
unfoldable pub begins_two : List ℕ → Bool
begins_two block = not (line2 block) && not (line3 block) && eqb (byte_at block edition_at) (edition_number two)

-- "at block k the test is three blocks if block k by itself passes 2 and 3 and has edition 2, else one"
abbrev pub edition_here : List ℕ → ℕ → Edition
edition_here s k = second_if (begins_two (block_of s k))

-- the test at block k: its blocks, or what is left of the suite
unfoldable pub test_of : List ℕ → ℕ → List ℕ
test_of s k = take (test_length (edition_here s k)) (drop (block_length * k) s)

-- "how many bytes the test that begins at block k has (0 if k isn't in the suite; a cut one what is left)"
abbrev pub test_length_at : List ℕ → ℕ → ℕ
test_length_at s k = length (test_of s k)

-- "a good edition 2 test" begins at block k
unfoldable pub good_two : List ℕ → ℕ → Bool
good_two s k = begins_two (block_of s k) && unless (read_refusal (test_of s k)) true false

-- "a good edition 2 test moves the walk by three blocks, anything else (refused, too few bytes left: 1) by one"
abbrev pub moved : List ℕ → ℕ → ℕ
moved s k = blocks_of (second_if (good_two s k))

-- "the number of the block where the test after it begins (k itself where k isn't in the suite)"
unfoldable pub next_block : List ℕ → ℕ → ℕ
next_block s k = cond (in_suite s k) (k + moved s k) k

-- the first blocks of n tests, from block k on, as far as the suite goes
unfoldable pub tests_from : List ℕ → ℕ → ℕ → List ℕ
tests_from s zero k = []
tests_from s (suc n) k = let later = tests_from s n (next_block s k) in cond (in_suite s k) (k ∷ later) []

-- the first blocks of all tests, in their order: there are no more tests than blocks
abbrev pub tests : List ℕ → List ℕ
tests s = tests_from s (block_count s) 0
