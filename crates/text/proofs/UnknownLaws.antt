-- The words of a condition name what the condition names.
use Prim.Native.Nat.{ℕ, ◌+◌, ◌%◌, ◌≤◌, ◌<◌}
use mathlib.Core.Path.{◌≡◌, refl, sym, ap, ◌∙◌}
use mathlib.Core.Bool.{Bool, true, false, cond, not, ◌&&◌, ◌||◌}
use mathlib.Core.List.{List, [], ◌∷◌, ◌++◌}
use native.Mathlib.Omega.{arith}
use lib.ListN.{length, get_or, take, drop}
use lib.Seq.{get_or-take, length-take-le}
use lib.Dec.{eqb, ltb, leb}
use borrow.Author.Tests.{eq-eqb, ne_eqb, leb-true, leb-false, ltb-true, ltb-false, le-leb, lt-leb}
use Rattle.lists.specs.Lists.{any}
use Rattle.lists.proofs.BoolLaws.{and_l, and_r}
use Rattle.table.specs.declared.Event.{Event}
use Rattle.table.specs.declared.Table.{Table}
use Rattle.table.specs.Events.{capacity, no_event, event, kind, reads, reading_kind}
use Rattle.text_format.specs.Condition.{Condition, returns, ends, negated, both, either, max_number, max_value, fits}
use Rattle.condition_reader.specs.Words.{returns_node, ends_node, not_node, and_node, or_node, node_word, skip_word, code}
use Rattle.condition_reader.proofs.NumberLaws.{here, none}
use Rattle.model.specs.Following.{names_unknown}
use Rattle.text.specs.Judged.{kind_in, number_in, unknown_by, word_unknown}

-- a word of `r`
pub unknown-event : (count locations : ℕ) (e : Event) (w : ℕ) (b : Bool) → kind_in w ≡ returns_node → b ≡ reading_kind e.kind
    → (leb count (number_in w) || not b) ≡ unknown_by count locations e w
unfolding unknown_by
unknown-event count locations e w b h k = rw (eq-eqb (kind_in w) returns_node h, k) refl

-- any other
pub unknown-other : (count locations : ℕ) (e : Event) (w : ℕ) → (kind_in w ≡ returns_node → ⊥)
    → (eqb (kind_in w) ends_node && leb locations (number_in w)) ≡ unknown_by count locations e w
unfolding unknown_by
unknown-other count locations e w h = rw (ne_eqb (kind_in w) returns_node h) refl

-- the slot that the number of an event leaves, divided by their number, is the event's, if the table has it
pub slot_same : (t : Table) (w : ℕ) → t.count ≤ capacity
    → unknown_by t.count t.locations (get_or t.events (number_in w % capacity) no_event) w ≡ word_unknown t w
unfolding unknown_by word_unknown event
slot_same t w h =
    ap (λ (b : Bool). cond (eqb (kind_in w) returns_node) b (eqb (kind_in w) ends_node && leb t.locations (number_in w)))
    (go (leb t.count (number_in w)) refl)
  where
    go : (b : Bool) → leb t.count (number_in w) ≡ b →
        (b || not (reading_kind (get_or t.events (number_in w % capacity) no_event).kind))
        ≡ (b || not (reading_kind (get_or t.events (number_in w) no_event).kind))
    go true e = refl
    go false e =
        let k : number_in w % capacity ≡ number_in w = omega (arith, leb-false t.count (number_in w) e, h) in
        ap (λ (j : ℕ). not (reading_kind (get_or t.events j no_event).kind)) k

-- a loop over the words
module _ (p : ℕ → Bool) (l : List ℕ) (n i : ℕ) (long : n ≤ length l) where
  module _ (h : i < n) where
    pub at-word : any p (drop i (take n l)) ≡ (p (get_or l i 0) || any p (drop (i + 1) (take n l)))
    at-word =
        ap (any p) (here (take n l) i (omega (arith, h, length-take-le n l long)))
        ∙ ap (λ (x : ℕ). p x || any p (drop (i + 1) (take n l))) (get_or-take n l i 0 h)

    pub any-hit : p (get_or l i 0) ≡ true → any p (drop i (take n l)) ≡ true
    any-hit e = at-word ∙ ap (λ (b : Bool). b || any p (drop (i + 1) (take n l))) e

    pub any-skip : p (get_or l i 0) ≡ false → any p (drop i (take n l)) ≡ any p (drop (i + 1) (take n l))
    any-skip e = at-word ∙ ap (λ (b : Bool). b || any p (drop (i + 1) (take n l))) e

  pub any-end : n ≤ i → any p (drop i (take n l)) ≡ false
  any-end h = ap (any p) (none (take n l) i (omega (arith, h, length-take-le n l long)))

any_append : (p : ℕ → Bool) (l m : List ℕ) → any p (l ++ m) ≡ (any p l || any p m)
any_append p [] m = refl
any_append p (x ∷ l) m = ap (λ (b : Bool). p x || b) (any_append p l m) ∙ assoc (p x) (any p l) (any p m)
  where
    assoc : (a b c : Bool) → (a || (b || c)) ≡ (a || b || c)
    assoc true b c = refl
    assoc false b c = refl

pub one : (b : Bool) → (b || false) ≡ b
one true = refl
one false = refl

-- what a condition names: a test of words that no connective passes, and of conditions, alike on atoms
pub record Alike (p : ℕ → Bool) (f : Condition → Bool) : Type 0 where
  pub joint : (w : ℕ) → 1 < kind_in w → p w ≡ false
  pub at-event : (e v : ℕ) → e ≤ max_number → p (node_word returns_node e v) ≡ f (returns e v)
  pub at-location : (x v : ℕ) → x ≤ max_number → p (node_word ends_node x v) ≡ f (ends x v)
  pub of-negated : (c : Condition) → f (negated c) ≡ f c
  pub of-both : (l r : Condition) → f (both l r) ≡ (f l || f r)
  pub of_either : (l r : Condition) → f (either l r) ≡ (f l || f r)

module _ (p : ℕ → Bool) (f : Condition → Bool) (a : Alike p f) where
  joined : (l r : Condition) (w : ℕ) → 1 < kind_in w → any p (code l ++ (w ∷ code r)) ≡ (any p (code l) || any p (code r))
  joined l r w h =
      any_append p (code l) (w ∷ code r) ∙ ap (λ (b : Bool). any p (code l) || (b || any p (code r))) (a.joint w h)

  -- the words of a condition pass as it does
  pub words-alike : (c : Condition) → fits c ≡ true → any p (code c) ≡ f c
  unfolding code
  words-alike (returns e v) h = one _ ∙ a.at-event e v (leb-true e max_number (and_l (leb e max_number) (leb v max_value) h))
  words-alike (ends x v) h = one _ ∙ a.at-location x v (leb-true x max_number (and_l (leb x max_number) (leb v max_value) h))
  words-alike (negated c) h =
      any_append p (code c) (not_node ∷ [])
      ∙ ap (λ (b : Bool). any p (code c) || (b || false)) (a.joint not_node (omega arith))
      ∙ one (any p (code c)) ∙ words-alike c h ∙ sym (a.of-negated c)
  words-alike (both l r) h =
      joined l r (skip_word and_node (length (code r))) (omega arith)
      ∙ rw (words-alike l (and_l (fits l) (fits r) h), words-alike r (and_r (fits l) (fits r) h)) (sym (a.of-both l r))
  words-alike (either l r) h =
      joined l r (skip_word or_node (length (code r))) (omega arith)
      ∙ rw (words-alike l (and_l (fits l) (fits r) h), words-alike r (and_r (fits l) (fits r) h)) (sym (a.of_either l r))

module _ (t : Table) where
  -- a connective names nothing
  joint-known : (w : ℕ) → 1 < kind_in w → word_unknown t w ≡ false
  unfolding word_unknown
  joint-known w h =
      sym (unknown-other t.count t.locations (event t (number_in w)) w (λ e. absurd (omega (arith, h, e))))
      ∙ ap (λ (b : Bool). b && leb t.locations (number_in w)) (ne_eqb (kind_in w) ends_node (λ e. absurd (omega (arith, h, e))))

  returns-known : (e v : ℕ) → e ≤ max_number → word_unknown t (node_word returns_node e v) ≡ not (ltb e t.count && reads t e)
  unfolding word_unknown reads kind
  returns-known e v h =
      let w = node_word returns_node e v in
      let n : number_in w ≡ e = omega (arith, h) in
      sym (unknown-event t.count t.locations (event t (number_in w)) w _ (omega (arith, h)) refl)
      ∙ ap (λ (k : ℕ). leb t.count k || not (reading_kind (event t k).kind)) n ∙ sym (go (ltb e t.count) refl)
    where
      reading : Bool
      reading = reading_kind (event t e).kind

      go : (b : Bool) → ltb e t.count ≡ b → not (b && reading) ≡ (leb t.count e || not reading)
      go true q = ap (λ (b : Bool). b || not reading) (sym (lt-leb t.count e (ltb-true e t.count q)))
      go false q = ap (λ (b : Bool). b || not reading) (sym (le-leb t.count e (ltb-false e t.count q)))

  ends-known : (x v : ℕ) → x ≤ max_number → word_unknown t (node_word ends_node x v) ≡ leb t.locations x
  unfolding word_unknown
  ends-known x v h =
      let w = node_word ends_node x v in
      let n : number_in w ≡ x = omega (arith, h) in
      let k : kind_in w ≡ ends_node = omega (arith, h) in
      sym (unknown-other t.count t.locations (event t (number_in w)) w (λ e. absurd (omega (arith, k, e))))
      ∙ ap (λ (b : Bool). b && leb t.locations (number_in w)) (eq-eqb (kind_in w) ends_node k) ∙ ap (leb t.locations) n

  -- 23 of the words is 23 of the condition
  pub words-unknown : (c : Condition) → fits c ≡ true → any (word_unknown t) (code c) ≡ names_unknown t c
  unfolding names_unknown
  words-unknown c h = words-alike (word_unknown t) (names_unknown t) alike c h
    where
      alike : Alike (word_unknown t) (names_unknown t)
      alike = record {
        joint = joint-known;
        at-event = returns-known;
        at-location = ends-known;
        of-negated = λ c. refl;
        of-both = λ l r. refl;
        of_either = λ l r. refl;
      }
