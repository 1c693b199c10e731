-- "The block": the 512 bytes of a table, a definition for each line of the layout, in the paper's order.
use Rattle.std.specs.Prelude.{ℕ, zero, suc, ◌/◌, ◌%◌, List, [], ◌∷◌, ◌++◌, get_or, replicate}
use Rattle.edition.specs.Limits.{one, edition_number, max_locations, most_events}
use Rattle.table.specs.declared.Table.{Table}
use Rattle.table.specs.Events.{event}
use Rattle.checksum.specs.Checksum.{checksum}
use Rattle.record_bytes.specs.RecordBytes.{two, record_bytes}

-- a number of four bytes
abbrev pub four : ℕ → List ℕ
four n = n % 256 ∷ n / 256 % 256 ∷ n / 65536 % 256 ∷ n / 16777216 % 256 ∷ []

-- n zero bytes
abbrev pub zeros : ℕ → List ℕ
zeros n = replicate n 0

-- the lists f 0, f 1, .. , f (n - 1), one behind the other
unfoldable pub joined : ℕ → (ℕ → List ℕ) → List ℕ
joined zero f = []
joined (suc n) f = joined n f ++ f n

-- a value for each location, two bytes a location
unfoldable pub value_bytes : List ℕ → List ℕ
value_bytes vs = joined max_locations (λ x. two (get_or vs x 0))

-- "0..3 | 52 56 54 31 hex"
abbrev pub marker_bytes : List ℕ
marker_bytes = 0x52 ∷ 0x56 ∷ 0x54 ∷ 0x31 ∷ []

-- "4, 5, 6, 7 | edition 1; harts 1..4; locations 1..8; events 1..16"
abbrev pub count_bytes : Table → List ℕ
count_bytes t = edition_number one ∷ t.harts ∷ t.locations ∷ t.count ∷ []

-- "8 | mask of locations whose final value is stated"
abbrev pub stated_bytes : Table → List ℕ
stated_bytes t = t.stated ∷ []

-- "Header byte 9 becomes the model"
abbrev pub model_bytes : Table → List ℕ
model_bytes t = t.model ∷ []

-- "9..15 | zero", of which the model is the first
abbrev pub header_zeros : List ℕ
header_zeros = zeros 6

-- "16..31 | initial values, two bytes a location"
abbrev pub initial_bytes : Table → List ℕ
initial_bytes t = value_bytes t.initial

-- "32..287 | event records, 16 bytes each"
unfoldable pub records_bytes : Table → List ℕ
records_bytes t = joined (most_events one) (λ k. record_bytes (event t k))

-- "288..303 | stated final values, two bytes a location"
abbrev pub final_bytes : Table → List ℕ
final_bytes t = value_bytes t.finals

-- "304..507 | zero"
abbrev pub tail_zeros : List ℕ
tail_zeros = zeros 204

-- bytes 0..507, which the check covers
unfoldable pub covered_bytes : Table → List ℕ
covered_bytes t =
    marker_bytes ++ count_bytes t ++ stated_bytes t ++ model_bytes t ++ header_zeros ++ initial_bytes t ++ records_bytes t ++ final_bytes t
    ++ tail_zeros

-- "508..511 | the sum over i = 0..507 of (i+1) times byte i"
unfoldable pub check_bytes : Table → List ℕ
check_bytes t = four (checksum (covered_bytes t))

-- the block of a table
unfoldable pub encoded : Table → List ℕ
encoded t = covered_bytes t ++ check_bytes t
