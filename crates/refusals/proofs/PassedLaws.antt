-- The first line that holds of two lists of lines, one after the other.
use Prim.Native.Nat.{ℕ}
use mathlib.Core.Path.{◌≡◌, refl, sym, ap, ◌∙◌}
use mathlib.Core.Bool.{true, false}
use mathlib.Core.List.{List, [], ◌∷◌, ◌++◌}
use mathlib.Core.Logic.{◌≢◌}
use Rattle.lists.specs.Below.{lowest, some}
use Rattle.lists.specs.Reply.{refused}
use Rattle.refusals.specs.Lines.{Refused, accepted, by_line, by_record, by_place}
use Rattle.refusals.specs.Lines.{Line, whole, record_of, place-of, refused_if, first_line, unless, reply_unless}
use Rattle.refusals.proofs.LineLaws.{line-refuses, record-refuses, place-refuses}

-- a refusal, or else the next
abbrev or_next : Refused → Refused → Refused
or_next accepted next = next
or_next (by_line k) next = by_line k
or_next (by_record k i) next = by_record k i
or_next (by_place k p) next = by_place k p

-- the first of both lists is that of the first, or else that of the second
first-of-both : (n : ℕ) (ls ms : List Line) → first_line n (ls ++ ms) ≡ or_next (first_line n ls) (first_line n ms)
unfolding first_line
first-of-both n [] ms = refl
first-of-both n (whole k b ∷ ls) ms =
    elim b as (λ c. refused_if c (by_line k) (first_line n (ls ++ ms)) ≡ or_next (refused_if c (by_line k) (first_line n ls)) (first_line n ms))
    [ true ↦ refl | false ↦ first-of-both n ls ms ]
first-of-both n (record_of k f ∷ ls) ms =
    let r : Refused = by_record k (lowest n f) in
    elim (some n f) as (λ c. refused_if c r (first_line n (ls ++ ms)) ≡ or_next (refused_if c r (first_line n ls)) (first_line n ms))
    [ true ↦ refl | false ↦ first-of-both n ls ms ]
first-of-both n (place-of k p b ∷ ls) ms =
    let r : Refused = by_place k p in
    elim b as (λ c. refused_if c r (first_line n (ls ++ ms)) ≡ or_next (refused_if c r (first_line n ls)) (first_line n ms))
    [ true ↦ refl | false ↦ first-of-both n ls ms ]

-- where the two lists together refuse nothing, neither does
pub passed-both : (n : ℕ) (ls ms : List Line) → first_line n (ls ++ ms) ≡ accepted →
    (first_line n ls ≡ accepted) × (first_line n ms ≡ accepted)
passed-both n ls ms h = go (first_line n ls) (sym (first-of-both n ls ms) ∙ h)
  where
    go : (r : Refused) → or_next r (first_line n ms) ≡ accepted → (r ≡ accepted) × (first_line n ms ≡ accepted)
    go accepted e = (refl, e)
    go (by_line k) e = absurd (line-refuses k e)
    go (by_record k i) e = absurd (record-refuses k i e)
    go (by_place k p) e = absurd (place-refuses k p e)

-- a refusal by the first list stands
pub refused-first : (n : ℕ) (ls ms : List Line) → first_line n ls ≢ accepted → first_line n (ls ++ ms) ≡ first_line n ls
refused-first n ls ms h = first-of-both n ls ms ∙ go (first_line n ls) h
  where
    go : (r : Refused) → r ≢ accepted → or_next r (first_line n ms) ≡ r
    go accepted h = absurd (h refl)
    go (by_line k) h = refl
    go (by_record k i) h = refl
    go (by_place k p) h = refl

-- where the first list refuses nothing, the second decides
pub passed_first : (n : ℕ) (ls ms : List Line) → first_line n ls ≡ accepted → first_line n (ls ++ ms) ≡ first_line n ms
passed_first n ls ms h = first-of-both n ls ms ∙ ap (λ (r : Refused). or_next r (first_line n ms)) h

-- An entry: its reply is refused by the first of its lines, those of reading and its own.
module _ {A : Type 0} (n : ℕ) (ls ms : List Line) (a : A) where
  -- reading refuses
  pub entry-declined : (q : Refused) → q ≡ first_line n ls → q ≢ accepted → refused q ≡ reply_unless (first_line n (ls ++ ms)) a
  entry-declined q e k =
      same q k ∙ ap (λ (r : Refused). reply_unless r a) (e ∙ sym (refused-first n ls ms (λ h. k (e ∙ h))))
    where
      same : (r : Refused) → r ≢ accepted → refused r ≡ reply_unless r a
      same accepted k = absurd (k refl)
      same (by_line i) k = refl
      same (by_record i j) k = refl
      same (by_place i p) k = refl

  -- it doesn't: the entry's own lines decide
  pub entry-own : first_line n ls ≡ accepted → reply_unless (first_line n ms) a ≡ reply_unless (first_line n (ls ++ ms)) a
  entry-own ok = ap (λ (r : Refused). reply_unless r a) (sym (passed_first n ls ms ok))

-- what a refusal leaves
pub unless-refused : {A : Type 0} (r : Refused) (a b : A) → r ≢ accepted → unless r a b ≡ b
unless-refused accepted a b k = absurd (k refl)
unless-refused (by_line i) a b k = refl
unless-refused (by_record i j) a b k = refl
unless-refused (by_place i p) a b k = refl
