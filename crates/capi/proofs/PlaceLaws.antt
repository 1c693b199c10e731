-- The place of a text's refusal lies within the text, and so has room in a word.
use Prim.Native.Nat.{ℕ, ◌≤◌, ◌<◌, ◌^◌}
use mathlib.Core.Path.{◌≡◌, refl, sym, ◌∙◌}
use mathlib.Core.Bool.{Bool, true, false, false≢true}
use mathlib.Core.List.{List, [], ◌∷◌, ◌++◌}
use native.Mathlib.Omega.{arith}
use lib.ListN.{length}
use lib.Dec.{ltb}
use borrow.Author.Tests.{ltb-false}
use Rattle.lists.specs.Lists.{all}
use Rattle.lists.specs.Below.{lowest, some}
use Rattle.lists.specs.Reply.{Reply, refused}
use Rattle.refusals.specs.Lines.{Refused, accepted, by_line, by_record, by_place, Line, whole, record_of, place-of, refused_if, first_line, reply_unless}
use Rattle.refusals.specs.TableLines.{record_lines_by, table_lines_by}
use Rattle.text_format.specs.Document.{Document, max_text}
use Rattle.text_format.specs.Reading.{Read, got, breach, document}
use Rattle.prefixes.specs.Answer.{Answer}
use Rattle.model.specs.Prefixes.{clean, search_by}
use Rattle.model.specs.Following.{meets}
use Rattle.text.specs.declared.TextRefusal.{TextRefusal}
use Rattle.text.specs.declared.TextRefusal.TheVariants as text
use Rattle.text.specs.Texts.{breach_place, lines_as, table_of_text, text_lines, text_refusal, condition_of}
use Rattle.text.specs.TextRefusals.{text_refusal_of}
use Rattle.search.specs.Replies.{start_lines}
use Rattle.bench.specs.Search.{of_text, lines_to, refusal_to, reply_to, text_reply}
use Rattle.answer_word.specs.Given.{PlaceFits}

-- a line that names no place
abbrev placeless : Line → Bool
placeless (whole k b) = true
placeless (record_of k f) = true
placeless (place-of k p b) = false

module _ (k p : ℕ) where
  -- a line that names no place, and those behind it
  not-here : (b : Bool) (r rest : Refused) → (r ≡ by_place k p → ⊥) → (rest ≡ by_place k p → ⊥) → refused_if b r rest ≡ by_place k p → ⊥
  not-here true r rest f g e = f e
  not-here false r rest f g e = g e

  -- such lines refuse by no place
  by-no-place : (n : ℕ) (ls : List Line) → all placeless ls ≡ true → first_line n ls ≡ by_place k p → ⊥
  unfolding first_line
  by-no-place n [] h e = let z : ◌≡◌ {A = ℕ} 0 1 = cc in omega arith
  by-no-place n (whole j b ∷ ls) h e =
      not-here b (by_line j) (first_line n ls) (λ f. let z : ◌≡◌ {A = ℕ} 0 1 = cc in omega arith) (λ f. by-no-place n ls h f) e
  by-no-place n (record_of j f ∷ ls) h e =
      not-here (some n f) (by_record j (lowest n f)) (first_line n ls) (λ g. let z : ◌≡◌ {A = ℕ} 0 1 = cc in omega arith)
      (λ g. by-no-place n ls h g) e
  by-no-place n (place-of j q b ∷ ls) h e = absurd (false≢true h)

-- the place of a breach is at most the length
breach-within : (s : List ℕ) (x : Read Document) → breach_place s x ≤ length s
breach-within s (got d r) = omega arith
breach-within s (breach n r) = omega arith

module _ (c m q n p : ℕ) (ls : List Line) (h : all placeless ls ≡ true) where
  -- where two lines name one place, no other is named
  one_place : (b b19 b20 : Bool) → (b ≡ false → q ≤ m) →
      first_line c (whole 1 b ∷ place-of 19 q b19 ∷ place-of 20 q b20 ∷ ls) ≡ by_place n p → p ≤ m
  unfolding first_line
  one_place true b19 b20 l e = absurd (let z : ◌≡◌ {A = ℕ} 0 1 = cc in omega arith)
  one_place false true b20 l e = let z : q ≡ p = cc in omega (arith, z, l refl)
  one_place false false true l e = let z : q ≡ p = cc in omega (arith, z, l refl)
  one_place false false false l e = absurd (by-no-place n p c ls h e)

module _ (s : List ℕ) (more : List Line) (h : all placeless more ≡ true) (n p : ℕ) where
  -- of a text, with further lines that name no place
  place-within : first_line (table_of_text s).count (text_lines s ++ more) ≡ by_place n p → p ≤ max_text
  unfolding text_lines lines_as table_lines_by record_lines_by
  place-within =
      one_place _ max_text (breach_place s (document s)) n p _ h (ltb max_text (length s)) _ _
      (λ off. omega (arith, ltb-false max_text (length s) off, breach-within s (document s)))

-- of reading
pub place-fits : (s : List ℕ) (r : TextRefusal) → text_refusal_of r ≡ text_refusal s → PlaceFits r
unfolding text_refusal text_lines lines_as table_lines_by record_lines_by
place-fits s (text.At n place) e = omega (arith, place-within s [] refl n place (sym e))
place-fits s (text.Table r) e = tt

-- of a search
pub reply-place : (s start out : List ℕ) (b n p : ℕ) → refused (by_place n p) ≡ text_reply s start out b → p < 2 ^ 32
unfolding reply_to refusal_to lines_to start_lines
reply-place s start out b n p e = go (refusal_to (of_text s) start out b) refl (sym e)
  where
    a : Answer
    a = search_by (table_of_text s) (clean (table_of_text s)) (meets (table_of_text s) (condition_of s)) start b

    go : (r : Refused) → refusal_to (of_text s) start out b ≡ r → reply_unless r a ≡ refused (by_place n p) → p < 2 ^ 32
    go accepted f e = absurd (let z : ◌≡◌ {A = ℕ} 0 1 = cc in omega arith)
    go (by_line k) f e = absurd (let z : ◌≡◌ {A = ℕ} 0 1 = cc in omega arith)
    go (by_record k i) f e = absurd (let z : ◌≡◌ {A = ℕ} 0 1 = cc in omega arith)
    go (by_place k q) f e =
        let z : q ≡ p = cc in omega (arith, z, place-within s (start_lines (table_of_text s) _ start out b) refl k q f)
