-- How many bytes each part of a block has.
use Prim.Native.Nat.{ℕ}
use mathlib.Core.Path.{◌≡◌, refl}
use mathlib.Core.List.{List}
use lib.ListN.{length}
use Rattle.edition.specs.Limits.{block_length}
use Rattle.table.specs.declared.Event.{Event}
use Rattle.table.specs.declared.Table.{Table}
use Rattle.checksum.specs.Checksum.{covered}
use Rattle.record_bytes.specs.RecordBytes.{record_bytes}
use Rattle.encode.specs.Encoded.{joined, value_bytes, records_bytes, covered_bytes, check_bytes, encoded}
use Rattle.encode.specs.Begun.{front}

pub length-values : (vs : List ℕ) → length (value_bytes vs) ≡ 16
unfolding value_bytes joined
length-values vs = refl

pub length-record : (e : Event) → length (record_bytes e) ≡ 16
unfolding record_bytes
length-record e = refl

pub length-records : (t : Table) → length (records_bytes t) ≡ 256
unfolding records_bytes joined record_bytes
length-records t = refl

pub length_front : (t : Table) → length (front t) ≡ 32
unfolding front value_bytes joined
length_front t = refl

pub length-covered : (t : Table) → length (covered_bytes t) ≡ covered
unfolding covered_bytes value_bytes records_bytes joined record_bytes
length-covered t = refl

pub length-encoded : (t : Table) → length (encoded t) ≡ block_length
unfolding encoded check_bytes covered_bytes value_bytes records_bytes joined record_bytes
length-encoded t = refl
