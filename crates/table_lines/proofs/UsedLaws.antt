-- The locations that memory events touch, and line 21.
use Prim.Native.Nat.{ℕ, ◌+◌, ◌^◌, ◌<◌}
use mathlib.Core.Path.{◌≡◌, refl, sym, ap, ap₂, ◌∙◌}
use mathlib.Core.Bool.{Bool, true, false, cond, not, ◌&&◌, ◌||◌, and-false}
use mathlib.Core.List.{List, [], ◌∷◌, ◌++◌}
use mathlib.Core.Logic.{◌≢◌}
use native.Mathlib.Omega.{arith}
use lib.Bits.{bit_or}
use lib.Dec.{eqb}
use Rattle.lists.specs.Below.{first_from, some}
use Rattle.lists.proofs.SomeLaws.{some-none, some_more, none-at, every-at}
use Rattle.edition.specs.Limits.{max_locations}
use Rattle.masks.specs.Bit.{bit}
use Rattle.masks.proofs.BitLaws.{bit-zero, bit-or}
use Rattle.masks.proofs.GatherLaws.{bit-if}
use Rattle.table.specs.declared.Table.{Table}
use Rattle.table.specs.Events.{location, memory}
use Rattle.refusals.specs.Lines.{Refused, accepted, by_line, by_record, by_place, Line, whole, first_line}
use Rattle.refusals.specs.TableLines.{line7, line21, touched, record_lines_by, record_lines, table_lines_by}
use Rattle.refusals.proofs.InRange.{block-asks-range, places-in-range}
use Rattle.refusals.proofs.LineLaws.{line-refuses, record-refuses, place-refuses, none_here, whole_here, whole-next, record-off}
use Rattle.refusals.proofs.PassedLaws.{refused-first, passed_first}
use Rattle.refusals.proofs.TablePassed.{table-passed-by}
use Rattle.table_lines.specs.Used.{every_location, InTest, Touches}

module _ (t : Table) where
  pub touches-start : Touches t 0 0
  touches-start x = bit-zero x ∙ sym (some-none 0 _ (λ k l. absurd (omega arith)))

  -- one more event
  pub touches-more : (n mask v : ℕ) → Touches t n mask → v ≡ cond (memory t n) (2 ^ location t n) 0 → Touches t (n + 1) (bit_or mask v)
  touches-more n mask v h e x =
      bit-or mask v x
      ∙ ap₂ (λ (a b : Bool). a || b) (h x) (ap (λ (w : ℕ). bit w x) e ∙ bit-if (memory t n) (location t n) x)
      ∙ sym (some_more n _)

  -- a location is unused if neither the touched ones nor the named ones have it
  pub unused-at : (mask named : ℕ) → Touches t t.count mask → (x : ℕ)
      → not (bit (bit_or mask named) x) ≡ (not (touched t x) && not (bit named x))
  unfolding touched
  unused-at mask named h x = ap not (bit-or mask named x ∙ ap (λ (b : Bool). b || bit named x) (h x)) ∙ neither (some t.count (λ e. memory t e && eqb (location t e) x)) (bit named x)
    where
      neither : (a b : Bool) → not (a || b) ≡ (not a && not b)
      neither true b = refl
      neither false b = refl

  -- what lines 7 to 11 let pass
  pub in-test : first_line t.count (record_lines t) ≡ accepted → InTest t
  unfolding record_lines record_lines_by
  in-test h k l =
      (places-in-range t k (block-asks-range t k (none-at t.count (line7 t) k (record-off t.count 7 (line7 t) _ h).0 l))).1

  module _ (named : ℕ) where
    -- one of lines 7 to 11
    pub by-record : (q : Refused) → q ≡ first_line t.count (record_lines t) → q ≢ accepted
        → q ≡ first_line t.count (record_lines t ++ (whole 21 (line21 (bit named) t) ∷ []))
    by-record q e k = e ∙ sym (refused-first t.count (record_lines t) _ (λ h. k (e ∙ h)))

    module _ (ok : first_line t.count (record_lines t) ≡ accepted) where
      pub by-21 : line21 (bit named) t ≡ true → by_line 21 ≡ first_line t.count (record_lines t ++ (whole 21 (line21 (bit named) t) ∷ []))
      by-21 h = whole_here t.count 21 _ [] h ∙ sym (passed_first t.count (record_lines t) _ ok)

      pub by-none : line21 (bit named) t ≡ false → accepted ≡ first_line t.count (record_lines t ++ (whole 21 (line21 (bit named) t) ∷ []))
      by-none h =
          whole-next t.count 21 _ [] accepted h (none_here t.count) ∙ sym (passed_first t.count (record_lines t) _ ok)

-- where every location is named, line 21 holds of no table that line 5 lets pass
module _ (t : Table) (most : ℕ) (extra : Bool) where
  abbrev lines : List Line
  lines = table_lines_by (line7 t) most extra t

  each-named : (x : ℕ) → x < max_locations → bit every_location x ≡ true
  unfolding first_from
  each-named x l = every-at max_locations (bit every_location) x refl l

  pub all_named : first_line t.count (lines ++ (whole 21 (line21 (bit every_location) t) ∷ [])) ≡ first_line t.count lines
  unfolding line21
  all_named = go (first_line t.count lines) refl
    where
      go : (r : Refused) → first_line t.count lines ≡ r
          → first_line t.count (lines ++ (whole 21 (line21 (bit every_location) t) ∷ [])) ≡ first_line t.count lines
      go accepted e =
          let few = (table-passed-by (line7 t) most extra t e).counts.locations in
          let off = some-none t.locations (λ x. not (touched t x) && not (bit every_location x))
          (λ x l. ap (λ (b : Bool). not (touched t x) && not b) (each-named x (omega (arith, l, few))) ∙ and-false (not (touched t x))) in
          passed_first t.count lines (whole 21 (line21 (bit every_location) t) ∷ []) e
          ∙ sym (whole-next t.count 21 (line21 (bit every_location) t) [] accepted off (none_here t.count)) ∙ sym e
      go (by_line n) e = refused-first t.count lines (whole 21 (line21 (bit every_location) t) ∷ []) (λ h. line-refuses n (sym e ∙ h))
      go (by_record n k) e = refused-first t.count lines (whole 21 (line21 (bit every_location) t) ∷ []) (λ h. record-refuses n k (sym e ∙ h))
      go (by_place n p) e = refused-first t.count lines (whole 21 (line21 (bit every_location) t) ∷ []) (λ h. place-refuses n p (sym e ∙ h))
