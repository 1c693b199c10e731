-- "The block": where each field stands. Numbers of two and four bytes are little endian.
use Rattle.std.specs.Prelude.{ℕ, ◌+◌, ◌*◌, ◌/◌, ◌%◌, Bool, true, false, List, get_or, eqb}
use Rattle.edition.specs.Limits.{Edition, one, two, block_length, edition_number}

abbrev pub byte_at : List ℕ → ℕ → ℕ
byte_at s i = get_or s i 0

abbrev pub word_at : List ℕ → ℕ → ℕ
word_at s i = byte_at s i + 256 * byte_at s (i + 1)

abbrev pub long_at : List ℕ → ℕ → ℕ
long_at s i = word_at s i + 65536 * word_at s (i + 2)

-- "4, 5, 6, 7: edition 1; harts 1..4; locations 1..8; events 1..16"
abbrev pub edition_at : ℕ
edition_at = 4

abbrev pub harts_at : ℕ
harts_at = 5

abbrev pub locations_at : ℕ
locations_at = 6

abbrev pub events_at : ℕ
events_at = 7

-- "8: mask of locations whose final value is stated"
abbrev pub stated_at : ℕ
stated_at = 8

-- "Header byte 9 becomes the model"
abbrev pub model_at : ℕ
model_at = 9

-- "16..31: initial values, two bytes a location"
abbrev pub initial_at : ℕ → ℕ
initial_at x = 16 + 2 * x

-- "32..287: event records, 16 bytes each"
abbrev pub record_at : ℕ → ℕ
record_at k = 32 + 16 * k

-- edition 2: "two blocks of fifteen 32-byte records from byte 0", behind the header block
abbrev pub wide_record_at : ℕ → ℕ
wide_record_at k = block_length * (1 + k / 15) + 32 * (k % 15)

-- "288..303: stated final values, two bytes a location"
abbrev pub final_at : ℕ → ℕ
final_at x = 288 + 2 * x

-- "508..511": the check
abbrev pub stored_check : List ℕ → ℕ
stored_check s = byte_at s 508 + 256 * byte_at s 509 + 65536 * byte_at s 510 + 16777216 * byte_at s 511

abbrev pub second_if : Bool → Edition
second_if true = two
second_if false = one

-- the edition that the first block states; what states neither is refused by 4 before this matters
unfoldable pub edition_of : List ℕ → Edition
edition_of s = second_if (eqb (byte_at s edition_at) (edition_number two))
