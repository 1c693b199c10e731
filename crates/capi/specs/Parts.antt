-- Block k of a suite, for C: the word of its refusal, and where it stands.
use Rattle.std.specs.Prelude.{ℕ, ◌*◌, cond, List, ◌≡◌, length, take, drop}
use Rattle.edition.specs.Limits.{block_length}
use Rattle.refusals.specs.Lines.{Refused, accepted, by_line}
use Rattle.suite_part.specs.Part.{block_of, in_suite}

-- "18: block number not in the suite"
abbrev pub part_refusal : List ℕ → ℕ → Refused
part_refusal s k = cond (in_suite s k) accepted (by_line 18)

-- the byte that block k begins at; 0 if it isn't in the suite
abbrev pub part_offset : List ℕ → ℕ → ℕ
part_offset s k = cond (in_suite s k) (block_length * k) 0

-- how many bytes it has
abbrev pub part_length : List ℕ → ℕ → ℕ
part_length s k = length (block_of s k)

-- these bytes are block k, of any suite and any k
abbrev pub PartIsBlock : Type 0
PartIsBlock = (s : List ℕ) (k : ℕ) → take (part_length s k) (drop (part_offset s k) s) ≡ block_of s k
