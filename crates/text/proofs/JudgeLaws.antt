-- The answer for a legal text, by the first of lines 5 to 11, 23 and 21.
use Prim.Native.Nat.{ℕ, ◌≤◌, ◌<◌}
use mathlib.Core.Path.{◌≡◌, refl, sym, ap, subst, ◌∙◌}
use mathlib.Core.Bool.{Bool, true, false, ◌||◌}
use mathlib.Core.Logic.{◌≢◌}
use mathlib.Core.List.{List, []}
use native.Mathlib.Omega.{arith}
use lib.Dec.{eqb, ltb}
use borrow.Author.Tests.{lt-ltb}
use Rattle.lists.specs.Lists.{any}
use Rattle.lists.proofs.SomeLaws.{none-at}
use Rattle.masks.specs.Bit.{bit}
use Rattle.edition.specs.Limits.{two, most_events, max_harts, max_locations}
use Rattle.table.specs.declared.Table.{Table}
use Rattle.table.specs.Events.{capacity}
use Rattle.refusals.specs.Lines.{Refused, accepted, by_line, Line, first_line, unless}
use Rattle.refusals.specs.TableLines.{outside, states_missing, unknown_model, header_wrong, line5, line21, text_line7, table_lines_by}
use Rattle.refusals.specs.declared.Refusal.TheVariants as code
use Rattle.refusals.proofs.InRange.{text-asks-range, places-in-range}
use Rattle.refusals.proofs.LineLaws.{place-refuses, refuses, none_here, whole_here, whole-next, whole-off}
use Rattle.refusals.proofs.PassedLaws.{passed-both, refused-first, passed_first, unless-refused}
use Rattle.refusals.proofs.TablePassed.{TablePassed, table-passed-by}
use Rattle.table_lines.specs.Used.{InTest}
use Rattle.block.specs.Reading.{no_table}
use Rattle.std.specs.Prelude.{Result, Ok, Err}
use Rattle.placing.specs.GoodTable.{GoodTable}
use Rattle.placing.proofs.GoodTableLaws.{good-table}
use Rattle.text.specs.declared.TextRefusal.{TextRefusal}
use Rattle.text.specs.declared.TextRefusal.TheVariants as text
use Rattle.text.specs.declared.TextReading.{TextReading}
use Rattle.text.specs.TextRefusals.{text_refusal_of}
use Rattle.text.specs.Judged.{word_unknown, word_names, Names, word_lines, lines_behind, refusal_behind, Judged}
use Rattle.text.proofs.NamedLaws.{line21-same}

-- a count that is too large is 5
or-second : (a b : Bool) → b ≡ true → (a || b) ≡ true
or-second true b h = refl
or-second false b h = h

or-first : (a b : Bool) → a ≡ true → (a || b) ≡ true
or-first a b h = ap (λ (x : Bool). x || b) h

module _ (t : Table) where
  over : (n most : ℕ) → most < n → outside n most ≡ true
  over n most h = or-second (eqb n 0) (ltb most n) (lt-ltb most n h)

  abbrev harts : Bool
  harts = outside t.harts max_harts

  abbrev locations : Bool
  locations = outside t.locations max_locations

  abbrev events : Bool
  events = outside t.count (most_events two)

  counts-over : (harts || locations || events) ≡ true → line5 (most_events two) t ≡ true
  unfolding line5 header_wrong
  counts-over h =
      or-first (harts || locations || events || finals) (unknown_model t.model) (or-first (harts || locations || events) finals h)
    where
      finals : Bool
      finals = states_missing t.stated t.locations

  pub events-over : most_events two < t.count → line5 (most_events two) t ≡ true
  events-over h = counts-over (or-second (harts || locations) events (over t.count (most_events two) h))

  pub locations-over : max_locations < t.locations → line5 (most_events two) t ≡ true
  locations-over h = counts-over (or-first (harts || locations) events (or-second harts locations (over t.locations max_locations h)))

  pub harts-over : max_harts < t.harts → line5 (most_events two) t ≡ true
  harts-over h = counts-over (or-first (harts || locations) events (or-first harts locations (over t.harts max_harts h)))

-- a table that none of lines 5 to 11 refuses
module _ (t : Table) (ok : first_line t.count (table_lines_by (text_line7 t) (most_events two) false t) ≡ accepted) where
  passed : TablePassed (text_line7 t) (most_events two) false t
  passed = table-passed-by (text_line7 t) (most_events two) false t ok

  pub few-events : t.count ≤ capacity
  few-events = omega (arith, passed.counts.events)

  pub few-locations : t.locations ≤ max_locations
  few-locations = passed.counts.locations

  pub in-test : InTest t
  in-test k l = (places-in-range t k (text-asks-range t k (none-at t.count (text_line7 t) k passed.fields l))).1

  -- line 21 by the mask of the locations that words name
  pub same-21 : (ws : List ℕ) (mask : ℕ) → Names ws mask → line21 (bit mask) t ≡ line21 (λ x. any (word_names x) ws) t
  same-21 ws mask h = line21-same t _ _ (λ x l. h x (omega (arith, l, few-locations)))

  good : GoodTable t
  good = good-table (text_line7 t) (most_events two) false t (text-asks-range t) (omega arith) passed

-- every refusal of a text is one
pub text-refuses : (e : TextRefusal) → text_refusal_of e ≢ accepted
text-refuses (text.At n p) = place-refuses n p
text-refuses (text.Table r) = refuses r

module _ (t : Table) (ws : List ℕ) where
  abbrev lines : List Line
  lines = table_lines_by (text_line7 t) (most_events two) false t

  by-5 : line5 (most_events two) t ≡ true → by_line 5 ≡ refusal_behind t ws
  unfolding refusal_behind lines_behind table_lines_by
  by-5 h = whole_here t.count 5 (line5 (most_events two) t) _ h

  -- one of lines 5 to 11
  pub by-table : (q : Refused) → q ≡ first_line t.count lines → q ≢ accepted → q ≡ refusal_behind t ws
  unfolding refusal_behind lines_behind
  by-table q e k = e ∙ sym (refused-first t.count lines _ (λ h. k (e ∙ h)))

  -- none of them
  module _ (ok : first_line t.count lines ≡ accepted) where
    by-words : (q : Refused) → q ≡ first_line t.count (word_lines t ws) → q ≡ refusal_behind t ws
    unfolding refusal_behind lines_behind
    by-words q h = h ∙ sym (passed_first t.count lines _ ok)

    pub by-23 : any (word_unknown t) ws ≡ true → by_line 23 ≡ refusal_behind t ws
    by-23 h = by-words _ (whole_here t.count 23 (any (word_unknown t) ws) _ h)

    module _ (known : any (word_unknown t) ws ≡ false) where
      pub by-21 : line21 (λ x. any (word_names x) ws) t ≡ true → by_line 21 ≡ refusal_behind t ws
      by-21 h = by-words _ (whole-next t.count 23 (any (word_unknown t) ws) _ _ known (whole_here t.count 21 _ [] h))

      pub by-none : line21 (λ x. any (word_names x) ws) t ≡ false → accepted ≡ refusal_behind t ws
      by-none h =
          by-words _
          (whole-next t.count 23 (any (word_unknown t) ws) _ _ known
          (whole-next t.count 21 _ [] accepted h (none_here t.count)))

  -- what a text has that isn't refused
  module _ (ok : refusal_behind t ws ≡ accepted) where
    both : (first_line t.count lines ≡ accepted) × (first_line t.count (word_lines t ws) ≡ accepted)
    unfolding refusal_behind lines_behind
    both = passed-both t.count lines (word_lines t ws) ok

    pub good-behind : GoodTable t
    good-behind = good t both.0

    pub known_behind : any (word_unknown t) ws ≡ false
    known_behind = (whole-off t.count 23 (any (word_unknown t) ws) _ both.1).0

  module _ (len : ℕ) where
    pub judged-refused : (e : TextRefusal) → text_refusal_of e ≡ refusal_behind t ws → Judged t ws len (Err e)
    judged-refused e h = record {
      refusal = h;
      table = sym (unless-refused (refusal_behind t ws) t no_table (λ z. text-refuses e (h ∙ z)));
      words = tt;
    }

    pub judged-5 : line5 (most_events two) t ≡ true → Judged t ws len (Err (text.Table (code.Line 5)))
    judged-5 h = judged-refused (text.Table (code.Line 5)) (by-5 h)

    pub judged-none : accepted ≡ refusal_behind t ws → Judged t ws len (Ok (record { table = t; len = len }))
    judged-none h = record {
      refusal = h;
      table = ap (λ (q : Refused). unless q t no_table) h;
      words = refl;
    }

-- of two tables that line 5 refuses the answer is the same
pub judged-as : (t u : Table) (ws : List ℕ) (len : ℕ) (r : Result TextReading TextRefusal) → line5 (most_events two) t ≡ true
    → line5 (most_events two) u ≡ true → Judged t ws len r → Judged u ws len r
judged-as t u ws len r h k j = record {
  refusal = j.refusal ∙ sym (by-5 t ws h) ∙ by-5 u ws k;
  table =
      j.table ∙ ap (λ (q : Refused). unless q t no_table) (sym (by-5 t ws h))
      ∙ ap (λ (q : Refused). unless q u no_table) (by-5 u ws k);
  words = j.words;
}

-- the answer for a table is that for the same one
pub judged-same : (t u : Table) (ws : List ℕ) (len : ℕ) (r : Result TextReading TextRefusal) → t ≡ u → Judged t ws len r → Judged u ws len r
judged-same t u ws len r e j = subst (λ (x : Table). Judged x ws len r) e j
