-- "Reading what was written gives the table back, and writing what was read gives the same 512 bytes, so one table has one
-- block": of edition 1 blocks.
use Rattle.std.specs.Prelude.{ℕ, ◌≡◌, false, List, length}
use Rattle.edition.specs.Limits.{one, edition_number, block_length}
use Rattle.table.specs.declared.Table.{Table}
use Rattle.decode.specs.Layout.{byte_at, edition_at, edition_of}
use Rattle.decode.specs.Decoded.{decoded}
use Rattle.refusals.specs.Lines.{accepted}
use Rattle.zero_bytes.specs.ZeroBytes.{bytes_not_zero}
use Rattle.block.specs.Reading.{line2, line3, length_wrong, read_refusal, read_table}
use Rattle.writer.specs.Writing.{write_refusal, written_block}
use Rattle.writer.specs.Fits.{Bytes, TableFits}

pub record RoundTrip : Type 0 where
  -- for every table that isn't refused, what was written isn't refused, and reading it gives that table back
  pub read_back : (t : Table) (out : List ℕ) → TableFits t → write_refusal t out ≡ accepted
      → (read_refusal (written_block t out) ≡ accepted) × (read_table (written_block t out) ≡ t)
  -- for every edition 1 block that isn't refused, what was read isn't refused, and writing it gives the same 512 bytes
  pub written_back : (s out : List ℕ) → Bytes s → length out ≡ block_length → edition_of s ≡ one → read_refusal s ≡ accepted
      → (write_refusal (read_table s) out ≡ accepted) × (written_block (read_table s) out ≡ s)
  -- hence one table has one edition 1 block
  pub one_block : (r s : List ℕ) → Bytes r → Bytes s → edition_of r ≡ one → edition_of s ≡ one → read_refusal r ≡ accepted
      → read_refusal s ≡ accepted → read_table r ≡ read_table s → r ≡ s
  -- and one block has one table
  pub one_table : (t u : Table) (o p : List ℕ) → TableFits t → TableFits u → write_refusal t o ≡ accepted → write_refusal u p ≡ accepted
      → written_block t o ≡ written_block u p → t ≡ u
  -- edition 1 bytes that no line refuses as bytes are refused as their table is, by the same number and record
  pub refused-alike : (s out : List ℕ) → length out ≡ block_length
      → byte_at s edition_at ≡ edition_number one → length_wrong one s ≡ false → line2 s ≡ false → line3 s ≡ false
      → bytes_not_zero one s ≡ false
      → write_refusal (decoded s) out ≡ read_refusal s
