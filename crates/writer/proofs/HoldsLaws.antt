-- A block holds a table: each part of the layout stands at its place. What the check covers is just these parts.
use Prim.Native.Nat.{ℕ, ◌+◌, ◌*◌, ◌<◌}
use mathlib.Core.Path.{◌≡◌, refl, ◌∙◌}
use mathlib.Core.List.{List, ◌++◌}
use native.Mathlib.Omega.{arith}
use lib.ListN.{length, get_or, length-append}
use Rattle.edition.specs.Limits.{one, max_locations, most_events}
use Rattle.table.specs.declared.Table.{Table}
use Rattle.table.specs.Events.{event}
use Rattle.record_bytes.specs.RecordBytes.{two, record_bytes}
use Rattle.encode.specs.Encoded.{value_bytes, marker_bytes, count_bytes, stated_bytes, model_bytes, header_zeros, initial_bytes, records_bytes, final_bytes, tail_zeros, covered_bytes}
use Rattle.encode.specs.Begun.{header, front}
use Rattle.encode.proofs.LengthLaws.{length-values, length-record, length-records, length_front}
use Rattle.writer.proofs.StandsLaws.{Stands, stands-left, stands-right, stands-both, stands-each, stands-joined}

pub record Holds (s : List ℕ) (t : Table) : Type 0 where
  pub marker : Stands s 0 marker_bytes
  pub counts : Stands s 4 (count_bytes t)
  pub stated : Stands s 8 (stated_bytes t)
  pub model : Stands s 9 (model_bytes t)
  pub header : Stands s 10 header_zeros
  pub initial : (x : ℕ) → x < max_locations → Stands s (16 + 2 * x) (two (get_or t.initial x 0))
  pub records : (k : ℕ) → k < most_events one → Stands s (32 + 16 * k) (record_bytes (event t k))
  pub finals : (x : ℕ) → x < max_locations → Stands s (288 + 2 * x) (two (get_or t.finals x 0))
  pub tail : Stands s 304 tail_zeros

-- the values of the locations, each by itself
values-apart : (s vs : List ℕ) (at : ℕ) → Stands s at (value_bytes vs) → (x : ℕ) → x < max_locations → Stands s (at + 2 * x) (two (get_or vs x 0))
unfolding value_bytes
values-apart s vs at h x l = stands-each s at 2 (λ y. two (get_or vs y 0)) (λ y. refl) max_locations x l h

values-joined : (s vs : List ℕ) (at : ℕ) → ((x : ℕ) → x < max_locations → Stands s (at + 2 * x) (two (get_or vs x 0))) → Stands s at (value_bytes vs)
unfolding value_bytes
values-joined s vs at h = stands-joined s at 2 (λ y. two (get_or vs y 0)) (λ y. refl) max_locations h

-- the records, each by itself
records-apart : (s : List ℕ) (t : Table) → Stands s 32 (records_bytes t) → (k : ℕ) → k < most_events one → Stands s (32 + 16 * k) (record_bytes (event t k))
unfolding records_bytes
records-apart s t h k l = stands-each s 32 16 (λ j. record_bytes (event t j)) (λ j. length-record (event t j)) (most_events one) k l h

records-joined : (s : List ℕ) (t : Table) → ((k : ℕ) → k < most_events one → Stands s (32 + 16 * k) (record_bytes (event t k))) → Stands s 32 (records_bytes t)
unfolding records_bytes
records-joined s t h = stands-joined s 32 16 (λ j. record_bytes (event t j)) (λ j. length-record (event t j)) (most_events one) h

-- where the final values and the zeros behind them begin
length-to-finals : (t : Table) → length (front t ++ records_bytes t) ≡ 288
length-to-finals t = length-append (front t) (records_bytes t) ∙ omega (arith, length_front t, length-records t)

length-to-tail : (t : Table) → length (front t ++ records_bytes t ++ final_bytes t) ≡ 304
length-to-tail t = length-append (front t ++ records_bytes t) (final_bytes t) ∙ omega (arith, length-to-finals t, length-values t.finals)

-- the covered bytes taken apart
pub holds : (s : List ℕ) (t : Table) → Stands s 0 (covered_bytes t) → Holds s t
unfolding covered_bytes front
holds s t h =
    let to-tail = stands-left s (front t ++ records_bytes t ++ final_bytes t) tail_zeros 0 h in
    let to-finals = stands-left s (front t ++ records_bytes t) (final_bytes t) 0 to-tail in
    let to-records = stands-left s (front t) (records_bytes t) 0 to-finals in
    let to-initial = stands-left s (header t ++ header_zeros) (initial_bytes t) 0 to-records in
    let to-zeros = stands-left s (header t) header_zeros 0 to-initial in
    let to-model = stands-left s (marker_bytes ++ count_bytes t ++ stated_bytes t) (model_bytes t) 0 to-zeros in
    let to-stated = stands-left s (marker_bytes ++ count_bytes t) (stated_bytes t) 0 to-model in
    record {
      marker = stands-left s marker_bytes (count_bytes t) 0 to-stated;
      counts = stands-right s marker_bytes (count_bytes t) 0 4 refl to-stated;
      stated = stands-right s (marker_bytes ++ count_bytes t) (stated_bytes t) 0 8 refl to-model;
      model = stands-right s (marker_bytes ++ count_bytes t ++ stated_bytes t) (model_bytes t) 0 9 refl to-zeros;
      header = stands-right s (header t) header_zeros 0 10 refl to-initial;
      initial = values-apart s t.initial 16 (stands-right s (header t ++ header_zeros) (initial_bytes t) 0 16 refl to-records);
      records = records-apart s t (stands-right s (front t) (records_bytes t) 0 32 (omega (arith, length_front t)) to-finals);
      finals = values-apart s t.finals 288 (stands-right s (front t ++ records_bytes t) (final_bytes t) 0 288 (omega (arith, length-to-finals t)) to-tail);
      tail = stands-right s (front t ++ records_bytes t ++ final_bytes t) tail_zeros 0 304 (omega (arith, length-to-tail t)) h;
    }

-- and put together
pub holds-all : (s : List ℕ) (t : Table) → Holds s t → Stands s 0 (covered_bytes t)
unfolding covered_bytes front
holds-all s t h =
    let to-stated = stands-both s marker_bytes (count_bytes t) 0 4 refl h.marker h.counts in
    let to-model = stands-both s (marker_bytes ++ count_bytes t) (stated_bytes t) 0 8 refl to-stated h.stated in
    let to-zeros = stands-both s (marker_bytes ++ count_bytes t ++ stated_bytes t) (model_bytes t) 0 9 refl to-model h.model in
    let to-initial = stands-both s (header t) header_zeros 0 10 refl to-zeros h.header in
    let to-records = stands-both s (header t ++ header_zeros) (initial_bytes t) 0 16 refl to-initial (values-joined s t.initial 16 h.initial) in
    let to-finals = stands-both s (front t) (records_bytes t) 0 32 (omega (arith, length_front t)) to-records (records-joined s t h.records) in
    let to-tail =
    stands-both s (front t ++ records_bytes t) (final_bytes t) 0 288 (omega (arith, length-to-finals t)) to-finals
    (values-joined s t.finals 288 h.finals) in
    stands-both s (front t ++ records_bytes t ++ final_bytes t) tail_zeros 0 304 (omega (arith, length-to-tail t)) to-tail h.tail
