-- A line is its fields, one after the other; and the loop that reads them.
use Prim.Native.Nat.{ℕ, zero, suc, ◌+◌, ◌≤◌, ◌<◌}
use mathlib.Core.Path.{◌≡◌, refl, sym, ap, ◌∙◌}
use mathlib.Core.Bool.{Bool, true, false, false≢true}
use mathlib.Core.List.{List, [], ◌∷◌, ◌++◌, append_assoc, append-nil}
use native.Mathlib.Numerals.{add-one}
use native.Mathlib.Omega.{arith}
use lib.ListN.{length, get_or, take, drop, set, length-set, replicate}
use lib.Seq.{take-suc-set, take_all}
use lib.Dec.{eqb, leb}
use borrow.Author.Tests.{eqb-true, eqb-false, leb-true}
use Rattle.lists.proofs.BoolLaws.{and_l, and_r}
use Rattle.lists.proofs.ListLaws.{all_get_d}
use Rattle.text_format.specs.Bytes.{newline, space}
use Rattle.text_format.specs.Document.{field_bounds, within}
use Rattle.text_format.specs.Reading.{Read, got, breach, and_then, word, number, line}
use Rattle.text_format.proofs.LineLaws.{bounds-fair, line-sound}
use Rattle.condition_reader.proofs.NumberLaws.{here, none}
use Rattle.std.specs.Prelude.{Ok, Err}
use Rattle.condition_reader.specs.declared.Breach.{Breach}
use Rattle.condition_reader.specs.declared.Number.{Number}
use Rattle.condition_reader.specs.Steps.{refusal_in, place_in}
use Rattle.text_lines.specs.Says.{separator, field, field_at, FieldSays}
use Rattle.text_lines.proofs.ReadLaws.{then-got, then-then, then_same}

-- a field, once its number and the byte behind it are known
module _ (i : ℕ) (s r : List ℕ) where
  abbrev most : ℕ
  most = get_or field_bounds i 0

  abbrev behind : ℕ
  behind = separator (eqb (i + 1) (length field_bounds))

  pub field-number : (n : ℕ) → number most s ≡ breach n r → field_at i s ≡ breach n r
  unfolding field_at field
  field-number n e = rw e

  module _ (v : ℕ) (e : number most s ≡ got v r) (t : List ℕ) where
    pub field-behind : (n : ℕ) → word (behind ∷ []) r ≡ breach n t → field_at i s ≡ breach n t
    unfolding field_at field
    field-behind n f = rw (e, f)

    pub field-got : word (behind ∷ []) r ≡ got [] t → field_at i s ≡ got v t
    unfolding field_at field
    field-got f = rw (e, f)

-- each field holds a digit
pub bound-fair : (i : ℕ) → i < length field_bounds → 9 ≤ get_or field_bounds i 0
bound-fair i h = leb-true 9 (get_or field_bounds i 0) (all_get_d (leb 9) field_bounds i refl h)

-- each number is within its bound
pub within-at : (ms vs : List ℕ) (k : ℕ) → within ms vs ≡ true → k < length ms → get_or vs k 0 ≤ get_or ms k 0
unfolding within
within-at [] vs k h l = absurd (omega arith)
within-at (m ∷ ms) [] k h l = absurd (false≢true h)
within-at (m ∷ ms) (v ∷ vs) zero h l = leb-true v m (and_l (leb v m) (within ms vs) h)
within-at (m ∷ ms) (v ∷ vs) (suc k) h l = within-at ms vs k (and_r (leb v m) (within ms vs) h) (omega arith)

abbrev none_left : List ℕ → Bool
none_left [] = true
none_left (m ∷ ms) = false

none-left-at : (l : List ℕ) (j : ℕ) → j ≤ length l → none_left (drop j l) ≡ eqb j (length l)
none-left-at l j h = go (eqb j (length l)) refl
  where
    go : (b : Bool) → eqb j (length l) ≡ b → none_left (drop j l) ≡ b
    go true e = ap none_left (none l j (omega (arith, eqb-true j (length l) e)))
    go false e = ap none_left (here l j (omega (arith, h, eqb-false j (length l) e)))

-- the fields that are left
unfoldable pub fields : (bounds : List ℕ) → List ℕ → Read (List ℕ)
fields [] s = got [] s
fields (m ∷ ms) s = and_then (field m (separator (none_left ms)) s) (λ v t. and_then (fields ms t) (λ vs u. got (v ∷ vs) u))

line-fields : (ms : List ℕ) (m : ℕ) (s : List ℕ) → line (m ∷ ms) s ≡ fields (m ∷ ms) s
unfolding line fields field
line-fields [] m s =
    sym (then-then (number m s) _ _ ∙ then_same (number m s) _ _ (λ v r. then-then (word (newline ∷ []) r) _ _))
line-fields (n ∷ ms) m s =
    sym
    (then-then (number m s) _ _
    ∙ then_same (number m s) _ _ (λ v r. then-then (word (space ∷ []) r) _ _
    ∙ then_same (word (space ∷ []) r) _ _
    (λ _ t. ap (λ (x : Read (List ℕ)). and_then x (λ vs u. got (v ∷ vs) u)) (sym (line-fields ms n t)))))

abbrev behind_field : ℕ → ℕ → List ℕ → Read (List ℕ)
behind_field i v t = and_then (fields (drop (i + 1) field_bounds) t) (λ vs u. got (v ∷ vs) u)

fields_at : (i : ℕ) (s : List ℕ) → i < length field_bounds → fields (drop i field_bounds) s ≡ and_then (field_at i s) (behind_field i)
unfolding fields field_at
fields_at i s h =
    ap (λ (ms : List ℕ). fields ms s) (here field_bounds i h)
    ∙ ap (λ (b : Bool). and_then (field (get_or field_bounds i 0) (separator b) s) (behind_field i))
    (none-left-at field_bounds (i + 1) (omega arith))

-- the first i numbers of the line that begins at `from` are in l, and reading goes on at `at`
pub record Fields (s : List ℕ) (from at i : ℕ) (l : List ℕ) : Type 0 where
  pub few : i ≤ length field_bounds
  pub long : length l ≡ length field_bounds
  pub inside : at ≤ length s
  pub passed : from + i ≤ at
  pub reads : line field_bounds (drop from s) ≡ and_then (fields (drop i field_bounds) (drop at s)) (λ vs u. got (take i l ++ vs) u)

pub fields-start : (s : List ℕ) (from : ℕ) → from ≤ length s → Fields s from from 0 (replicate 11 0)
fields-start s from h = record {
  few = omega arith;
  long = refl;
  inside = h;
  passed = omega arith;
  reads = line-fields _ 255 (drop from s) ∙ sym (then-got (fields field_bounds (drop from s)));
}

module _ (s : List ℕ) (from at i : ℕ) (l : List ℕ) (p : Fields s from at i l) where
  module _ (h : i < length field_bounds) where
    kept : (v : ℕ) (vs : List ℕ) → take i l ++ (v ∷ vs) ≡ take (i + 1) (set l i v) ++ vs
    kept v vs = sym (rw (add-one i, take-suc-set l i v (omega (arith, h, p.long))) (append_assoc (take i l) (v ∷ []) vs))

    at_field : line field_bounds (drop from s)
        ≡ and_then (and_then (field_at i (drop at s)) (behind_field i)) (λ vs u. got (take i l ++ vs) u)
    at_field =
        p.reads ∙ ap (λ (x : Read (List ℕ)). and_then x (λ vs u. got (take i l ++ vs) u)) (fields_at i (drop at s) h)

    pub fields-bad : (b : Breach) → FieldSays s at i (Err b) → line field_bounds (drop from s) ≡ breach (refusal_in b) (drop (place_in b) s)
    fields-bad b e =
        at_field ∙ ap (λ (x : Read ℕ). and_then (and_then x (behind_field i)) (λ vs u. got (take i l ++ vs) u)) e.0

    pub fields-more : (n : Number) → FieldSays s at i (Ok n) → Fields s from n.next (i + 1) (set l i n.value)
    fields-more n e = record {
      few = omega arith;
      long = length-set l i n.value ∙ p.long;
      inside = e.1;
      passed = omega (arith, p.passed, e.2);
      reads =
          at_field
          ∙ ap (λ (x : Read ℕ). and_then (and_then x (behind_field i)) (λ vs u. got (take i l ++ vs) u)) e.0
          ∙ then-then (fields (drop (i + 1) field_bounds) (drop n.next s)) _ _
          ∙ then_same (fields (drop (i + 1) field_bounds) (drop n.next s)) _ _ (λ vs u. ap (λ (m : List ℕ). got m u) (kept n.value vs));
    }

  pub fields-done : length field_bounds ≤ i → line field_bounds (drop from s) ≡ got l (drop at s)
  unfolding fields
  fields-done h =
      p.reads
      ∙ ap (λ (ms : List ℕ). and_then (fields ms (drop at s)) (λ vs u. got (take i l ++ vs) u)) (none field_bounds i h)
      ∙ ap (λ (m : List ℕ). got m (drop at s)) (append-nil (take i l) ∙ take_all i l (omega (arith, p.long, h)))

  -- the numbers of a whole line are within their bounds
  pub fields_within : length field_bounds ≤ i → within field_bounds l ≡ true
  fields_within h = (line-sound _ 255 (drop from s) l (drop at s) bounds-fair (fields-done h)).1
