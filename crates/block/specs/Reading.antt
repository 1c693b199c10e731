-- Reading a test: refusals 1 to 11 and 21, and the table.
use Rattle.std.specs.Prelude.{ℕ, ◌+◌, ◌-◌, ◌≡◌, Bool, true, false, ◌&&◌, ◌||◌, not, List, [], ◌∷◌, ◌++◌, length, replicate, eqb, ltb, Result, Ok, Err}
use Rattle.lists.specs.Below.{some}
use Rattle.edition.specs.Limits.{Edition, one, two, edition_number, most_events, blocks_of, test_length, max_locations, block_length}
use Rattle.table.specs.declared.Table.{Table}
use Rattle.table.specs.Events.{capacity, no_event}
use Rattle.checksum.specs.Checksum.{checksum}
use Rattle.decode.specs.Layout.{byte_at, edition_at, stored_check, edition_of}
use Rattle.decode.specs.Decoded.{decoded_as, decoded}
use Rattle.suite_part.specs.Part.{block_of}
use Rattle.refusals.specs.declared.Refusal.{Refusal}
use Rattle.refusals.specs.Lines.{Refused, Line, whole, first_line, unless}
use Rattle.refusals.specs.Refusals.{refused_by}
use Rattle.refusals.specs.TableLines.{table_lines}
use Rattle.zero_bytes.specs.ZeroBytes.{bytes_not_zero}

-- 1: "the first 512 bytes are short"
abbrev pub line1 : List ℕ → Bool
line1 s = ltb (length s) block_length

-- 2: "check wrong", of the block with which the bytes begin
abbrev pub line2 : List ℕ → Bool
line2 s = not (eqb (stored_check s) (checksum s))

-- 3: "marker wrong": "0..3 | 52 56 54 31 hex"
abbrev pub line3 : List ℕ → Bool
line3 s = not (eqb (byte_at s 0) 0x52) || not (eqb (byte_at s 1) 0x56) || not (eqb (byte_at s 2) 0x54) || not (eqb (byte_at s 3) 0x31)

-- "refusal 4 is for editions other than 1 and 2"
abbrev pub line4 : List ℕ → Bool
line4 s = not (eqb (byte_at s edition_at) (edition_number one)) && not (eqb (byte_at s edition_at) (edition_number two))

-- "Where the first 512 bytes are short or fail 2, 3 or 4, that is the answer"
unfoldable pub header_lines : List ℕ → List Line
header_lines s = whole 1 (line1 s) ∷ whole 2 (line2 s) ∷ whole 3 (line3 s) ∷ whole 4 (line4 s) ∷ []

-- 1, by the edition: "For edition 2, refusal 1 is a length other than 1,536"; for edition 1, "the block isn't 512 bytes"
abbrev pub length_wrong : Edition → List ℕ → Bool
length_wrong e s = not (eqb (length s) (test_length e))

-- 2, of a block behind the first
abbrev pub later_check_wrong : Edition → List ℕ → Bool
later_check_wrong e s = some (blocks_of e - 1) (λ k. line2 (block_of s (1 + k)))

-- "otherwise length is checked by edition before the later blocks"
unfoldable pub length_lines : Edition → List ℕ → List Line
length_lines e s = whole 1 (length_wrong e s) ∷ whole 2 (later_check_wrong e s) ∷ []

-- what the edition asks: its length, and lines 5 to 11 with its limits, and 21
unfoldable pub edition_lines : Edition → List ℕ → List Line
edition_lines e s = length_lines e s ++ table_lines (most_events e) (bytes_not_zero e s) (decoded_as e s)

-- lines 1 to 11 and 21, in their order
unfoldable pub reading_lines : List ℕ → List Line
reading_lines s = header_lines s ++ edition_lines (edition_of s) s

-- the refusal of a test whose header block is good, if any
unfoldable pub edition_refusal : Edition → List ℕ → Refused
edition_refusal e s = first_line (decoded_as e s).count (edition_lines e s)

-- the refusal of a test, if any
unfoldable pub read_refusal : List ℕ → Refused
read_refusal s = first_line (decoded s).count (reading_lines s)

-- a fixed blank table
abbrev pub no_table : Table
no_table =
    record {
      harts = 0;
      locations = 0;
      count = 0;
      stated = 0;
      model = 0;
      initial = replicate max_locations 0;
      events = replicate capacity no_event;
      finals = replicate max_locations 0;
    }

-- the table if nothing refuses, else the blank one
unfoldable pub read_table : List ℕ → Table
read_table s = unless (read_refusal s) (decoded s) no_table

-- the table that was read, else the blank one
abbrev pub table_of : {E : Type 0} → Result Table E → Table
table_of (Ok t) = t
table_of (Err r) = no_table

-- the refusal of the bytes, or their table
abbrev pub Reads : List ℕ → Result Table Refusal → Type 0
Reads s r = (refused_by r ≡ read_refusal s) × (table_of r ≡ read_table s)

-- the same, if their header block is good and states the edition
abbrev pub ReadsAs : Edition → List ℕ → Result Table Refusal → Type 0
ReadsAs e s r = (refused_by r ≡ edition_refusal e s) × (table_of r ≡ unless (edition_refusal e s) (decoded_as e s) no_table)
