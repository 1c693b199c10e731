-- A block that is being written from the front: zeros behind what stands.
use Rattle.std.specs.Prelude.{ℕ, ◌-◌, List, ◌++◌, length}
use Rattle.edition.specs.Limits.{block_length}
use Rattle.table.specs.declared.Table.{Table}
use Rattle.encode.specs.Encoded.{zeros, marker_bytes, count_bytes, stated_bytes, model_bytes, header_zeros, initial_bytes}

-- the bytes l, then zeros to the block's end
unfoldable pub begun : List ℕ → List ℕ
begun l = l ++ zeros (block_length - length l)

-- bytes 0..9: the fields of one byte
abbrev pub header : Table → List ℕ
header t = marker_bytes ++ count_bytes t ++ stated_bytes t ++ model_bytes t

-- bytes 0..31: what stands before the records
unfoldable pub front : Table → List ℕ
front t = header t ++ header_zeros ++ initial_bytes t
