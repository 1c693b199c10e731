-- What a text is refused by, once its parts are read; and what it has if it isn't.
use Prim.Native.Nat.{ℕ, suc, max, ◌≤◌, ◌<◌}
use mathlib.Core.Path.{◌≡◌, refl, sym, ap, ap₂, subst, ◌∙◌}
use mathlib.Core.Bool.{Bool, true, false}
use mathlib.Core.Logic.{◌⊎◌, inl, inr, ⊎_elim}
use mathlib.Core.List.{List, [], ◌∷◌, ◌++◌, map}
use native.Mathlib.Omega.{arith}
use lib.ListN.{length, get_or, take, drop, length-drop}
use lib.Dec.{ltb}
use borrow.Author.Tests.{lt-ltb, le-ltb, ltb-true, ltb-false}
use Rattle.lists.specs.Lists.{any}
use Rattle.lists.specs.Filled.{up_to}
use Rattle.edition.specs.Limits.{two, most_events, max_locations}
use Rattle.table.specs.declared.Event.{Event}
use Rattle.table.specs.declared.Table.{Table}
use Rattle.table.specs.Events.{capacity}
use Rattle.table.proofs.SameFields.{table_same}
use Rattle.refusals.specs.Lines.{Refused, accepted, by_line, by_place, whole, first_line, unless}
use Rattle.refusals.specs.TableLines.{line5, line21, text_line7, table_lines_by}
use Rattle.refusals.proofs.LineLaws.{whole_here, whole-next, place_here, place-next}
use Rattle.refusals.proofs.PassedLaws.{unless-refused}
use Rattle.block.specs.Reading.{no_table}
use Rattle.text_format.specs.Bytes.{newline}
use Rattle.text_format.specs.Condition.{Condition, max_levels, fits}
use Rattle.text_format.specs.Document.{Document, max_text}
use Rattle.text_format.specs.Reading.{Read, got, breach, place_of, and_then, word, condition, event_lines, values, ended, document_in, document}
use Rattle.text_format.specs.Theorems.{Fault}
use Rattle.text_format.proofs.FirstLaws.{breach-decides}
use Rattle.text_format.proofs.ReadingLaws.{document-sound, form-fits}
use Rattle.text_lines.specs.Lines.{event_of, location_field}
use Rattle.text_lines.proofs.ReadLaws.{then-then, then_same}
use Rattle.condition_reader.specs.Words.{code}
use Rattle.model.specs.Following.{names_unknown, names_location}
use Rattle.placing.specs.GoodTable.{GoodTable}
use Rattle.std.specs.Prelude.{Result, Ok, Err, IfOk}
use Rattle.text.specs.declared.TextRefusal.{TextRefusal}
use Rattle.text.specs.declared.TextReading.{TextReading}
use Rattle.text.specs.Texts.{document_of, covering, column, table_of, lines_as, text_lines, text_refusal, text_table, condition_of}
use Rattle.text.specs.TextRefusals.{text_refusal_of, text_refused_by, text_table_of}
use Rattle.text.specs.Judged.{last, closing, outcome_in, table_from, word_unknown, word_names, lines_behind, refusal_behind, Judged}
use Rattle.text.specs.Accepted.{IfAccepted}
use Rattle.text.proofs.CoverLaws.{all-kept, harts-of, locations-of}
use Rattle.text.proofs.UnknownLaws.{words-unknown}
use Rattle.text.proofs.NamedLaws.{words-named, line21-same}
use Rattle.text.proofs.JudgeLaws.{events-over, text-refuses, judged-as, good-behind, known_behind}

abbrev documented : List (List ℕ) → List ℕ → Condition → Document
documented es vs c = record { events = es; initial = vs; outcome = c }

-- behind the initial values: the condition, which ends the text
behind-values : (es : List (List ℕ)) (vs s : List ℕ) →
    and_then (condition max_levels s) (λ c t. and_then (word (newline ∷ []) t) (λ _ u. ended (documented es vs c) u))
    ≡ and_then (outcome_in s) (λ c u. got (documented es vs c) u)
unfolding outcome_in closing
behind-values es vs s =
    sym
    (then-then (condition max_levels s) closing _
    ∙ then_same (condition max_levels s) _ _ (λ c t. then-then (word (newline ∷ []) t) _ _
    ∙ then_same (word (newline ∷ []) t) _ _ (λ _ u. end c u)))
  where
    end : (c : Condition) (u : List ℕ) → and_then (last c u) (λ d v. got (documented es vs d) v) ≡ ended (documented es vs c) u
    end c [] = refl
    end c (b ∷ u) = refl

module _ (s : List ℕ) where
  abbrev lines : Read (List (List ℕ))
  lines = event_lines (suc (length s)) s

  pub lines-breach : (n : ℕ) (r : List ℕ) → lines ≡ breach n r → document s ≡ breach n r
  unfolding document_in
  lines-breach n r e = rw e

  module _ (es : List (List ℕ)) (t : List ℕ) (e : lines ≡ got es t) where
    pub values-breach : (n : ℕ) (r : List ℕ) → values (suc (length t)) t ≡ breach n r → document s ≡ breach n r
    unfolding document_in
    values-breach n r f = rw (e, f)

    module _ (vs u : List ℕ) (f : values (suc (length t)) t ≡ got vs u) where
      at-outcome : document s ≡ and_then (outcome_in u) (λ c v. got (documented es vs c) v)
      unfolding document_in
      at-outcome = rw (e, f) (behind-values es vs u)

      pub outcome-breach : (n : ℕ) (r : List ℕ) → outcome_in u ≡ breach n r → document s ≡ breach n r
      outcome-breach n r g = at-outcome ∙ ap (λ (x : Read Condition). and_then x (λ c v. got (documented es vs c) v)) g

      pub whole-read : (c : Condition) → outcome_in u ≡ got c [] → document s ≡ got (documented es vs c) []
      whole-read c g = at-outcome ∙ ap (λ (x : Read Condition). and_then x (λ c v. got (documented es vs c) v)) g

-- the refusal of a text that reads as x
unfoldable refusal_as : List ℕ → Read Document → Refused
refusal_as s x = first_line (table_of (document_of x)).count (lines_as s x)

reads_as : (s : List ℕ) → text_refusal s ≡ refusal_as s (document s)
unfolding text_refusal text_lines refusal_as
reads_as s = refl

-- a text of more than 2,048 bytes
pub long-text : (s : List ℕ) → max_text < length s → by_line 1 ≡ text_refusal s
unfolding text_refusal text_lines lines_as
long-text s h = whole_here _ 1 (ltb max_text (length s)) _ (lt-ltb max_text (length s) h)

-- a breach is 19 or 20
breach-number : (s : List ℕ) (n : ℕ) (r : List ℕ) → document s ≡ breach n r → (n ≡ 19) ⊎ (n ≡ 20)
breach-number s n r e = let f = (breach-decides s n r).0 e in go r f.front f.fault
  where
    go : (r p : List ℕ) → Fault max_levels p n r → (n ≡ 19) ⊎ (n ≡ 20)
    go [] p x = inl x.0
    go (b ∷ r) p x = ⊎_elim (λ h. inl h) (λ h. inr h.0) x.2

module _ (s : List ℕ) (short : length s ≤ max_text) where
  not-long : ltb max_text (length s) ≡ false
  not-long = le-ltb max_text (length s) short

  by-19 : (r : List ℕ) → by_place 19 (place_of s r) ≡ refusal_as s (breach 19 r)
  unfolding refusal_as lines_as
  by-19 r = whole-next _ 1 (ltb max_text (length s)) _ _ not-long (place_here _ 19 (place_of s r) true _ refl)

  by-20 : (r : List ℕ) → by_place 20 (place_of s r) ≡ refusal_as s (breach 20 r)
  unfolding refusal_as lines_as
  by-20 r =
      whole-next _ 1 (ltb max_text (length s)) _ _ not-long
      (place-next _ 19 (place_of s r) false _ _ refl (place_here _ 20 (place_of s r) true _ refl))

  -- the first breach, with its place
  pub by-breach : (n p : ℕ) → document s ≡ breach n (drop p s) → p ≤ length s → by_place n p ≡ text_refusal s
  by-breach n p e h =
      let place : p ≡ place_of s (drop p s) = omega (arith, h, length-drop p s) in
      ap (by_place n) place
      ∙ ⊎_elim (λ (k : n ≡ 19). subst By (sym k) (by-19 (drop p s))) (λ (k : n ≡ 20). subst By (sym k) (by-20 (drop p s)))
      (breach-number s n (drop p s) e)
      ∙ ap (refusal_as s) (sym e) ∙ sym (reads_as s)
    where
      By : ℕ → Type 0
      By m = by_place m (place_of s (drop p s)) ≡ refusal_as s (breach m (drop p s))

  -- a legal text: lines 5 to 11, 23 and 21 decide
  module _ (d : Document) (e : document s ≡ got d []) where
    fitting : fits d.outcome ≡ true
    fitting = form-fits max_levels d (document-sound max_levels s d [] e).0

    -- lines 5 to 11, and 23 and 21, which hold or not
    abbrev decided_by : Bool → Bool → Refused
    decided_by b c =
        let t = table_of d in
        first_line t.count (table_lines_by (text_line7 t) (most_events two) false t ++ (whole 23 b ∷ whole 21 c ∷ []))

    legal-lines : text_refusal s ≡ decided_by (names_unknown (table_of d) d.outcome) (line21 (names_location d.outcome) (table_of d))
    unfolding refusal_as lines_as
    legal-lines =
        reads_as s ∙ ap (refusal_as s) e
        ∙ sym
        (whole-next _ 1 (ltb max_text (length s)) _ _ not-long
        (place-next _ 19 0 false _ _ refl (place-next _ 20 0 false _ _ refl refl)))

    module _ (ws : List ℕ) (q : ws ≡ code d.outcome) where
      same-unknown : any (word_unknown (table_of d)) ws ≡ names_unknown (table_of d) d.outcome
      same-unknown = ap (any (word_unknown (table_of d))) q ∙ words-unknown (table_of d) d.outcome fitting

      same-unused : line21 (λ x. any (word_names x) ws) (table_of d) ≡ line21 (names_location d.outcome) (table_of d)
      same-unused = line21-same (table_of d) _ _ (λ x l. ap (any (word_names x)) q ∙ words-named x d.outcome fitting)

      behind : text_refusal s ≡ refusal_behind (table_of d) ws
      unfolding refusal_behind lines_behind
      behind = legal-lines ∙ ap₂ decided_by (sym same-unknown) (sym same-unused)

abbrev pub Answers : List ℕ → List ℕ → Result TextReading TextRefusal → Type 0
Answers s words r =
    (text_refused_by r ≡ text_refusal s) × (text_table_of r ≡ text_table s) × IfOk r (λ a. IfAccepted s a.table words a.len)

-- a refusal
pub answers-refused : (s words : List ℕ) (e : TextRefusal) → text_refusal_of e ≡ text_refusal s → Answers s words (Err e)
unfolding text_table
answers-refused s words e h =
    (h, sym (unless-refused (text_refusal s) _ no_table (λ z. text-refuses e (h ∙ z))), tt)

-- a legal text, whose parts were read: its events and values are kept in so many slots, and its condition in words
module _ (s : List ℕ) (short : length s ≤ max_text) (es : List (List ℕ)) (vs : List ℕ) (c : Condition)
    (e : document s ≡ got (documented es vs c) []) where
  abbrev d : Document
  d = documented es vs c

  module _ (events : List Event) (count : ℕ) (initial : List ℕ) (given : ℕ)
      (events-kept : events ≡ up_to capacity (λ k. event_of (get_or es k []))) (counted : count ≡ length es)
      (values-kept : initial ≡ up_to max_locations (λ x. get_or vs x 0)) (all-given : given ≡ length vs) where
    abbrev t : Table
    t = table_from events count initial given

    -- the events kept are all of them, if they are not too many
    all-events : count ≤ most_events two → take count events ≡ map event_of es
    all-events h =
        ap (take count) events-kept ∙ ap (λ (k : ℕ). take k (up_to capacity (λ k. event_of (get_or es k [])))) counted
        ∙ all-kept event_of [] capacity es (omega (arith, h, counted))

    table_is : count ≤ most_events two → t ≡ table_of d
    unfolding table_from table_of
    table_is h =
        table_same t (table_of d)
        (ap (λ (l : List Event). covering (map (λ e. e.hart) l)) (all-events h) ∙ ap covering (harts-of es))
        (ap (λ (l : List Event). max given (covering (map (λ e. e.location.0) l))) (all-events h)
        ∙ ap (λ (l : List ℕ). max given (covering l)) (locations-of es)
        ∙ ap (λ (n : ℕ). max n (covering (column location_field es))) all-given)
        counted refl refl values-kept events-kept refl

    count-over : most_events two < count → (line5 (most_events two) t ≡ true) × (line5 (most_events two) (table_of d) ≡ true)
    unfolding table_from table_of
    count-over h = (events-over t h, events-over (table_of d) (omega (arith, h, counted)))

    module _ (words : List ℕ) (len : ℕ) (inside : len ≤ length words) (coded : take len words ≡ code c) where
      abbrev ws : List ℕ
      ws = take len words

      judged : (r : Result TextReading TextRefusal) → Judged t ws len r → Judged (table_of d) ws len r
      judged r i = go (ltb (most_events two) count) refl
        where
          go : (b : Bool) → ltb (most_events two) count ≡ b → Judged (table_of d) ws len r
          go true h = let w = count-over (ltb-true (most_events two) count h) in judged-as t (table_of d) ws len r w.0 w.1 i
          go false h = subst (λ (u : Table). Judged u ws len r) (table_is (ltb-false (most_events two) count h)) i

      refusal_is : text_refusal s ≡ refusal_behind (table_of d) ws
      refusal_is = behind s short d e ws coded

      condition-is : condition_of s ≡ c
      unfolding condition_of
      condition-is = ap (λ (x : Read Document). (document_of x).outcome) e

      if-accepted : (r : Result TextReading TextRefusal) → Judged (table_of d) ws len r → IfOk r (λ a. IfAccepted s a.table words a.len)
      if-accepted (Err e) j = tt
      if-accepted (Ok a) j = λ h.
          let ok : refusal_behind (table_of d) ws ≡ accepted = sym refusal_is ∙ h in
          let same : a.table ≡ table_of d = j.table ∙ ap (λ (x : Refused). unless x (table_of d) no_table) ok in
          record {
            coded = ap (λ (n : ℕ). take n words) j.words ∙ coded ∙ ap code (sym condition-is);
            inside = omega (arith, inside, j.words);
            fitting = ap fits condition-is ∙ fitting s short d e;
            known =
                ap (λ (u : Table). names_unknown u (condition_of s)) same ∙ ap (names_unknown (table_of d)) condition-is
                ∙ sym (same-unknown s short d e ws coded) ∙ known_behind (table_of d) ws ok;
            good = subst GoodTable (sym same) (good-behind (table_of d) ws ok);
          }

      pub answers-judged : (r : Result TextReading TextRefusal) → Judged t ws len r → Answers s words r
      unfolding text_table
      answers-judged r i =
          let j = judged r i in (
            j.refusal ∙ sym refusal_is,
            j.table ∙ ap (λ (x : Refused). unless x (table_of d) no_table) (sym refusal_is)
                ∙ ap (λ (x : Read Document). unless (text_refusal s) (table_of (document_of x)) no_table) (sym e),
            if-accepted r j,
          )
