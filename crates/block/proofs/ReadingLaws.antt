-- What reading gives once the first line that holds is known, and what bytes have that no line refuses.
use Prim.Native.Nat.{ℕ, ◌+◌, ◌<◌}
use mathlib.Core.Path.{◌≡◌, refl, sym, ap, ◌∙◌}
use mathlib.Core.Bool.{Bool, true, false, ◌&&◌, ◌||◌, not}
use mathlib.Core.List.{List}
use native.Mathlib.Omega.{arith}
use lib.Dec.{eqb}
use Rattle.std.specs.Prelude.{Result, Ok, Err}
use Rattle.refusals.specs.declared.Refusal.{Refusal}
use Rattle.refusals.specs.declared.Refusal.TheVariants as code
use Rattle.refusals.specs.Refusals.{refusal_of}
use Rattle.lists.specs.Below.{some}
use Rattle.edition.specs.Limits.{Edition, one, two, edition_number, most_events}
use Rattle.table.specs.declared.Table.{Table}
use Rattle.table.specs.Events.{capacity}
use Rattle.suite_part.specs.Part.{block_of}
use Rattle.decode.specs.Layout.{byte_at, edition_at, second_if, edition_of}
use Rattle.decode.specs.Decoded.{decoded_as, decoded}
use Rattle.refusals.specs.Lines.{Refused, accepted, by_line, first_line, unless}
use Rattle.refusals.specs.TableLines.{line7, table_lines}
use Rattle.refusals.proofs.LineLaws.{whole-next}
use Rattle.refusals.proofs.PassedLaws.{passed-both}
use Rattle.refusals.proofs.TablePassed.{TablePassed, table-passed}
use Rattle.zero_bytes.specs.ZeroBytes.{bytes_not_zero}
use Rattle.block.specs.Reading.{no_table, line1, line2, line3, line4, later_check_wrong, header_lines, length_lines, edition_lines, edition_refusal, reading_lines, read_refusal, read_table, Reads, ReadsAs}

some-two : (f : ℕ → Bool) → some 2 f ≡ (f 0 || f 1)
unfolding Rattle.lists.specs.Below.first_from
some-two f = go (f 0) (f 1) refl refl
  where
    go : (a b : Bool) → f 0 ≡ a → f 1 ≡ b → some 2 f ≡ (a || b)
    go true b e h = rw (e) refl
    go false true e h = rw (e, h) refl
    go false false e h = rw (e, h) refl

-- refused by line n: the table is blank
pub reads-refused : (s : List ℕ) (n : ℕ) → by_line n ≡ read_refusal s → Reads s (Err (code.Line n))
unfolding read_table
reads-refused s n e = (e, ap (λ (q : Refused). unless q (decoded s) no_table) e)

pub reads-as-refused : (e : Edition) (s : List ℕ) (n : ℕ) → by_line n ≡ edition_refusal e s → ReadsAs e s (Err (code.Line n))
reads-as-refused e s n q = (q, ap (λ (x : Refused). unless x (decoded_as e s) no_table) q)

-- lines 5 to 11 decide: one of them refuses,
pub reads-as-declined : (e : Edition) (s : List ℕ) (r : Refusal) → refusal_of r ≡ edition_refusal e s → ReadsAs e s (Err r)
reads-as-declined e s (code.Line n) q = reads-as-refused e s n q
reads-as-declined e s (code.Record n k) q = (q, ap (λ (x : Refused). unless x (decoded_as e s) no_table) q)

-- or none does
pub reads-as-table : (e : Edition) (s : List ℕ) (t : Table) → accepted ≡ edition_refusal e s → t ≡ decoded_as e s → ReadsAs e s (Ok t)
reads-as-table e s t k h = (k, h ∙ ap (λ (x : Refused). unless x (decoded_as e s) no_table) k)

-- line 4, of a number
abbrev unknown : ℕ → Bool
unknown n = not (eqb n (edition_number one)) && not (eqb n (edition_number two))

-- the edition that the header block states
pub states : (e : Edition) (s : List ℕ) → byte_at s edition_at ≡ edition_number e → (edition_of s ≡ e) × (line4 s ≡ false)
unfolding edition_of
states one s h = (ap (λ (n : ℕ). second_if (eqb n (edition_number two))) h, ap unknown h)
states two s h = (ap (λ (n : ℕ). second_if (eqb n (edition_number two))) h, ap unknown h)

-- the edition decides
pub edition-decides : (e : Edition) (s : List ℕ) → line1 s ≡ false → line2 s ≡ false → line3 s ≡ false → byte_at s edition_at ≡ edition_number e
    → edition_refusal e s ≡ read_refusal s
unfolding decoded read_refusal edition_refusal reading_lines header_lines
edition-decides e s h1 h2 h3 q =
    whole-next _ 1 (line1 s) _ _ h1 (whole-next _ 2 (line2 s) _ _ h2 (whole-next _ 3 (line3 s) _ _ h3
    (whole-next _ 4 (line4 s) _ _ (states e s q).1
    (ap (λ (d : Edition). first_line (decoded_as d s).count (edition_lines d s)) (sym (states e s q).0)))))

pub reads-edition : (e : Edition) (s : List ℕ) (r : Result Table Refusal) → line1 s ≡ false → line2 s ≡ false → line3 s ≡ false
    → byte_at s edition_at ≡ edition_number e → ReadsAs e s r → Reads s r
unfolding read_table decoded
reads-edition e s r h1 h2 h3 q h =
    let same = edition-decides e s h1 h2 h3 q in (
      h.0 ∙ same,
      h.1 ∙ ap (λ (x : Refused). unless x (decoded_as e s) no_table) same
          ∙ ap (λ (d : Edition). unless (read_refusal s) (decoded_as d s) no_table) (sym (states e s q).0),
    )

-- the table of bytes that state edition 1
pub as_one : (s : List ℕ) → edition_of s ≡ one → decoded s ≡ decoded_as one s
unfolding decoded
as_one s h = ap (λ (e : Edition). decoded_as e s) h

-- edition 1 has no later block
pub no-later : (s : List ℕ) → later_check_wrong one s ≡ false
unfolding Rattle.lists.specs.Below.first_from
no-later s = refl

-- edition 2 has two
pub two-later : (s : List ℕ) → (line2 (block_of s 1) || line2 (block_of s 2)) ≡ later_check_wrong two s
two-later s = sym (some-two (λ k. line2 (block_of s (1 + k))))

-- nothing is refused: no line of the header block does, and none of the edition
pub passed-header : (s : List ℕ) → read_refusal s ≡ accepted →
    (first_line (decoded s).count (header_lines s) ≡ accepted) × (edition_refusal (edition_of s) s ≡ accepted)
unfolding read_refusal reading_lines decoded edition_refusal
passed-header s h = passed-both (decoded s).count (header_lines s) (edition_lines (edition_of s) s) h

-- neither the length and the later checks refuse nor lines 5 to 11
pub passed-edition : (e : Edition) (s : List ℕ) → edition_refusal e s ≡ accepted →
    (first_line (decoded_as e s).count (length_lines e s) ≡ accepted)
    × (first_line (decoded_as e s).count (table_lines (most_events e) (bytes_not_zero e s) (decoded_as e s)) ≡ accepted)
unfolding edition_refusal edition_lines
passed-edition e s h = passed-both (decoded_as e s).count (length_lines e s) (table_lines (most_events e) (bytes_not_zero e s) (decoded_as e s)) h

pub passed-table : (s : List ℕ) → read_refusal s ≡ accepted
    → TablePassed (line7 (decoded s)) (most_events (edition_of s)) (bytes_not_zero (edition_of s) s) (decoded s)
unfolding decoded
passed-table s h =
    let e = edition_of s in
    table-passed (most_events e) (bytes_not_zero e s) (decoded_as e s) (passed-edition e s (passed-header s h).1).1

-- a slot at least is left in the table
pub most-fits : (e : Edition) → most_events e < capacity
most-fits one = omega arith
most-fits two = omega arith
