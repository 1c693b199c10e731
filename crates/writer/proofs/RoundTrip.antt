-- The round trip, both ways, and what follows from it.
use Prim.Native.Nat.{ℕ, ◌≤◌}
use mathlib.Core.Path.{◌≡◌, refl, sym, ap, ◌∙◌}
use mathlib.Core.Bool.{Bool, false, not}
use mathlib.Core.List.{List}
use lib.ListN.{length}
use native.Mathlib.Omega.{arith}
use borrow.Author.Tests.{eq-eqb, eqb-true, not-false, le-ltb}
use Rattle.edition.specs.Limits.{one, edition_number, block_length, most_events}
use Rattle.table.specs.declared.Table.{Table}
use Rattle.decode.specs.Layout.{byte_at, edition_at, edition_of}
use Rattle.decode.specs.Decoded.{decoded_as, decoded}
use Rattle.refusals.specs.Lines.{Refused, accepted, first_line, unless}
use Rattle.refusals.specs.TableLines.{table_lines}
use Rattle.refusals.proofs.LineLaws.{whole-next, whole-off}
use Rattle.zero_bytes.specs.ZeroBytes.{bytes_not_zero}
use Rattle.block.specs.Reading.{line2, line3, length_wrong, length_lines, edition_lines, edition_refusal, read_refusal, read_table, no_table}
use Rattle.block.proofs.ReadingLaws.{states, no-later, edition-decides, as_one}
use Rattle.encode.specs.Encoded.{encoded}
use Rattle.writer.specs.Writing.{buffer_wrong, writing_lines, write_refusal, written_block}
use Rattle.writer.specs.Fits.{Bytes, TableFits}
use Rattle.writer.specs.RoundTrip.{RoundTrip}
use Rattle.writer.proofs.GoodLaws.{good}
use Rattle.writer.proofs.ReadBackLaws.{read-accepted, read_table_lem}
use Rattle.writer.proofs.WrittenBackLaws.{passed, encoded-back}

-- a table and a buffer that aren't refused: no line refuses the table
lines-passed : (t : Table) (out : List ℕ) → write_refusal t out ≡ accepted → first_line t.count (table_lines (most_events one) false t) ≡ accepted
unfolding write_refusal writing_lines
lines-passed t out h = (whole-off t.count 1 (buffer_wrong out) (table_lines (most_events one) false t) h).1

-- what no line refuses isn't refused where the buffer has 512 bytes
write-alike : (t : Table) (out : List ℕ) → length out ≡ block_length → write_refusal t out ≡ first_line t.count (table_lines (most_events one) false t)
unfolding write_refusal writing_lines
write-alike t out h = sym (whole-next _ _ _ _ _ (ap not (eq-eqb _ _ h)) refl)

-- without a refusal the block is written
written_is : (t : Table) (out : List ℕ) → write_refusal t out ≡ accepted → written_block t out ≡ encoded t
unfolding written_block
written_is t out h = ap (λ (r : Refused). unless r (encoded t) out) h

-- without a refusal the table is the one that the bytes stand for
table_is : (s : List ℕ) → read_refusal s ≡ accepted → read_table s ≡ decoded s
unfolding read_table
table_is s h = ap (λ (r : Refused). unless r (decoded s) no_table) h

-- reading what was written
read_back : (t : Table) (out : List ℕ) → TableFits t → write_refusal t out ≡ accepted
    → (read_refusal (written_block t out) ≡ accepted) × (read_table (written_block t out) ≡ t)
read_back t out f h =
    let lines = lines-passed t out h in
    let g = good t false f lines in
    let w = written_is t out h in
    (ap read_refusal w ∙ read-accepted t f g lines, ap read_table w ∙ read_table_lem t f g lines)

-- writing what was read
written_back : (s out : List ℕ) → Bytes s → length out ≡ block_length → edition_of s ≡ one → read_refusal s ≡ accepted
    → (write_refusal (read_table s) out ≡ accepted) × (written_block (read_table s) out ≡ s)
written_back s out b n o h =
    let p = passed s o h in
    let w = ap (λ (t : Table). write_refusal t out) p.table ∙ write-alike (decoded_as one s) out n ∙ p.lines in
    let e = table_is s h in (
      ap (λ (t : Table). write_refusal t out) e ∙ w,
      ap (λ (t : Table). written_block t out) e ∙ written_is (decoded s) out w ∙ encoded-back s b p,
    )

-- one table has one block
one_block : (r s : List ℕ) → Bytes r → Bytes s → edition_of r ≡ one → edition_of s ≡ one → read_refusal r ≡ accepted → read_refusal s ≡ accepted
    → read_table r ≡ read_table s → r ≡ s
one_block r s b d o p h k e =
    sym (encoded-back r b (passed r o h)) ∙ ap encoded (sym (table_is r h) ∙ e ∙ table_is s k) ∙ encoded-back s d (passed s p k)

-- one block has one table
one_table : (t u : Table) (o p : List ℕ) → TableFits t → TableFits u → write_refusal t o ≡ accepted → write_refusal u p ≡ accepted
    → written_block t o ≡ written_block u p → t ≡ u
one_table t u o p f g h k e = sym (read_back t o f h).1 ∙ ap read_table e ∙ (read_back u p g k).1

-- a table is refused as its bytes are
refused-alike : (s out : List ℕ) → length out ≡ block_length
    → byte_at s edition_at ≡ edition_number one → length_wrong one s ≡ false → line2 s ≡ false → line3 s ≡ false → bytes_not_zero one s ≡ false
    → write_refusal (decoded s) out ≡ read_refusal s
unfolding edition_refusal edition_lines length_lines
refused-alike s out n e l l2 l3 z =
    let t = decoded_as one s in
    let extra : first_line t.count (table_lines (most_events one) false t) ≡ first_line t.count (table_lines (most_events one) (bytes_not_zero one s) t) =
    ap (λ (b : Bool). first_line t.count (table_lines (most_events one) b t)) (sym z) in
    ap (λ (u : Table). write_refusal u out) (as_one s (states one s e).0) ∙ write-alike t out n
    ∙ whole-next _ _ _ _ _ l (whole-next _ _ _ _ _ (no-later s) extra) ∙ edition-decides one s (le-ltb (length s) block_length (long s l)) l2 l3 e
  where
    long : (s : List ℕ) → length_wrong one s ≡ false → block_length ≤ length s
    long s h = omega (arith, eqb-true (length s) block_length (not-false _ h))

pub round_trip : RoundTrip
round_trip = record { read_back = read_back; written_back = written_back; one_block = one_block; one_table = one_table; refused-alike = refused-alike }
