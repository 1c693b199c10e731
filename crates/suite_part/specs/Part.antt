-- "A suite is any number of blocks, and block k is handed back as that part of the caller's bytes."
use Rattle.std.specs.Prelude.{ℕ, ◌+◌, ◌-◌, ◌*◌, ◌/◌, Bool, List, ltb, length, take, drop}
use Rattle.edition.specs.Limits.{block_length}

-- block k: shorter where the suite's last block is a part one, empty past the end
unfoldable pub block_of : List ℕ → ℕ → List ℕ
block_of s k = take block_length (drop (block_length * k) s)

-- the number of blocks: the length divided by a block's, rounded up, since "a last part block counts"
abbrev pub block_count : List ℕ → ℕ
block_count s = (length s + (block_length - 1)) / block_length

-- block k is in the suite; "18: block number not in the suite"
abbrev pub in_suite : List ℕ → ℕ → Bool
in_suite s k = ltb k (block_count s)
