-- "The block": the bytes named zero that are no field of the table.
use Rattle.std.specs.Prelude.{ℕ, ◌+◌, ◌-◌, ◌*◌, Bool, ◌||◌, not, List, eqb}
use Rattle.lists.specs.Below.{some}
use Rattle.edition.specs.Limits.{Edition, one, two, block_length, most_events, blocks_of}
use Rattle.decode.specs.Layout.{byte_at, record_at, wide_record_at}

-- byte at + i isn't zero
unfoldable pub not_zero : List ℕ → ℕ → ℕ → Bool
not_zero s at i = not (eqb (byte_at s (at + i)) 0)

-- one of the n bytes from at isn't zero
abbrev pub some_not_zero : List ℕ → ℕ → ℕ → Bool
some_not_zero s at n = some n (not_zero s at)

-- "9..15 | zero", of which "Header byte 9 becomes the model"
abbrev pub header_zeros : List ℕ → Bool
header_zeros s = some_not_zero s 10 6

-- "304..507 | zero"
abbrev pub tail_zeros : List ℕ → Bool
tail_zeros s = some_not_zero s 304 204

-- in the header block, of both editions
abbrev pub header_block_zeros : List ℕ → Bool
header_block_zeros s = header_zeros s || tail_zeros s

-- edition 2: "records area zero"
abbrev pub area_zeros : List ℕ → Bool
area_zeros s = some_not_zero s (record_at 0) 256

-- "ten zeros" in each record
abbrev pub record_zeros : List ℕ → Bool
record_zeros s = some (most_events two) (λ k. some_not_zero s (wide_record_at k + 22) 10)

-- "zero from 480", in each later block up to its check
abbrev pub later_zeros : List ℕ → Bool
later_zeros s = some (blocks_of two - 1) (λ b. some_not_zero s (block_length * (1 + b) + 480) 28)

-- 6, of the bytes: "a byte named zero isn't zero"
unfoldable pub bytes_not_zero : Edition → List ℕ → Bool
bytes_not_zero one s = header_block_zeros s
bytes_not_zero two s = header_block_zeros s || area_zeros s || record_zeros s || later_zeros s
