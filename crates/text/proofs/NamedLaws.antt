-- The locations that the words of a condition name are those that the condition names.
use Prim.Native.Nat.{ℕ, ◌+◌, ◌%◌, ◌^◌, ◌≤◌, ◌<◌}
use mathlib.Core.Path.{◌≡◌, refl, sym, ap, ap₂, ◌∙◌}
use mathlib.Core.Bool.{Bool, true, false, cond, not, ◌&&◌, ◌||◌}
use mathlib.Core.List.{List}
use native.Mathlib.Omega.{arith}
use lib.Bits.{bit_or}
use lib.ListN.{length, get_or, take, drop}
use lib.Dec.{eqb, ltb}
use borrow.Author.Tests.{eq-eqb, ne_eqb, ltb-true, ltb-false}
use Rattle.lists.specs.Lists.{any}
use Rattle.lists.proofs.SomeLaws.{some_same}
use Rattle.masks.specs.Bit.{bit}
use Rattle.masks.proofs.BitLaws.{bit-or, bit-zero}
use Rattle.masks.proofs.GatherLaws.{bit-if}
use Rattle.table.specs.declared.Table.{Table}
use Rattle.table.specs.Events.{capacity}
use Rattle.refusals.specs.TableLines.{line21, touched}
use Rattle.text_format.specs.Condition.{Condition, max_number, fits}
use Rattle.condition_reader.specs.Words.{returns_node, ends_node, node_word, code}
use Rattle.model.specs.Following.{names_location}
use Rattle.text.specs.Judged.{kind_in, number_in, word_names, Names}
use Rattle.text.proofs.UnknownLaws.{Alike, words-alike, at-word, any-end, one}

module _ (x : ℕ) where
  other-names : (w : ℕ) → (kind_in w ≡ ends_node → ⊥) → word_names x w ≡ false
  unfolding word_names
  other-names w h = ap (λ (b : Bool). b && eqb (number_in w) x) (ne_eqb (kind_in w) ends_node h)

  ends-names : (y v : ℕ) → y ≤ max_number → word_names x (node_word ends_node y v) ≡ eqb y x
  unfolding word_names
  ends-names y v h =
      let w = node_word ends_node y v in
      let n : number_in w ≡ y = omega (arith, h) in
      let k : kind_in w ≡ ends_node = omega (arith, h) in
      ap₂ (λ (b : Bool) (m : ℕ). b && eqb m x) (eq-eqb (kind_in w) ends_node k) n

  pub words-named : (c : Condition) → fits c ≡ true → any (word_names x) (code c) ≡ names_location c x
  unfolding names_location
  words-named c h = words-alike (word_names x) (λ d. names_location d x) alike c h
    where
      alike : Alike (word_names x) (λ d. names_location d x)
      alike = record {
        joint = λ w l. other-names w (λ e. absurd (omega (arith, l, e)));
        at-event = λ e v l. other-names (node_word returns_node e v) (λ k. absurd (omega (arith, l, k)));
        at-location = ends-names;
        of-negated = λ c. refl;
        of-both = λ l r. refl;
        of_either = λ l r. refl;
      }

-- line 21 by names that agree on the locations of the test
pub line21-same : (t : Table) (f g : ℕ → Bool) → ((x : ℕ) → x < t.locations → f x ≡ g x) → line21 f t ≡ line21 g t
unfolding line21
line21-same t f g h = some_same t.locations _ _ (λ x l. ap (λ (b : Bool). not (touched t x) && not b) (h x l))

-- the mask, word by word: what it lacks is named by the words from i on
abbrev pub Gathers : List ℕ → ℕ → ℕ → Type 0
Gathers ws i mask = (x : ℕ) → x < capacity → (bit mask x || any (word_names x) (drop i ws)) ≡ any (word_names x) ws

pub gathers-start : (ws : List ℕ) → Gathers ws 0 0
gathers-start ws x l = ap (λ (b : Bool). b || any (word_names x) ws) (bit-zero x)

module _ (l : List ℕ) (n i : ℕ) (long : n ≤ length l) (mask : ℕ) (g : Gathers (take n l) i mask) where
  abbrev number : ℕ
  number = number_in (get_or l i 0)

  -- one word more, whose bit is v
  module _ (h : i < n) (v : ℕ) (same : (x : ℕ) → x < capacity → bit v x ≡ word_names x (get_or l i 0)) where
    gathers-more : Gathers (take n l) (i + 1) (bit_or mask v)
    gathers-more x small =
        ap (λ (b : Bool). b || rest x) (bit-or mask v x ∙ ap (λ (b : Bool). bit mask x || b) (same x small))
        ∙ assoc (bit mask x) (word_names x (get_or l i 0)) (rest x)
        ∙ ap (λ (b : Bool). bit mask x || b) (sym (at-word (word_names x) l n i long h)) ∙ g x small
      where
        rest : ℕ → Bool
        rest x = any (word_names x) (drop (i + 1) (take n l))

        assoc : (a b c : Bool) → (a || b || c) ≡ (a || (b || c))
        assoc true b c = refl
        assoc false b c = refl

  pub gathers-word : i < n → (v : ℕ)
      → v ≡ cond (eqb (kind_in (get_or l i 0)) ends_node && ltb number capacity) (2 ^ (number % capacity)) 0
      → Gathers (take n l) (i + 1) (bit_or mask v)
  unfolding word_names
  gathers-word h v e =
      gathers-more h v
      (λ x small. ap (λ (m : ℕ). bit m x) e
      ∙ bit-if (eqb (kind_in (get_or l i 0)) ends_node && ltb number capacity) (number % capacity) x
      ∙ same (eqb (kind_in (get_or l i 0)) ends_node) x small (ltb number capacity) refl)
    where
      same : (b : Bool) (x : ℕ) → x < capacity → (c : Bool) → ltb number capacity ≡ c
          → (b && c && eqb (number % capacity) x) ≡ (b && eqb number x)
      same false x small c z = refl
      same true x small true z =
          let room = ltb-true number capacity z in
          let whole : number % capacity ≡ number = omega (arith, room) in
          ap (λ (k : ℕ). eqb k x) whole
      same true x small false z = sym (ne_eqb number x (λ e. absurd (omega (arith, small, e, ltb-false number capacity z))))

  pub gathers-end : n ≤ i → Names (take n l) mask
  gathers-end h x small =
      sym (one (bit mask x)) ∙ ap (λ (b : Bool). bit mask x || b) (sym (any-end (word_names x) l n i long h)) ∙ g x small
