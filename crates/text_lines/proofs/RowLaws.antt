-- The loops over the rows of a text: event lines, and initial values. Of the rows only the first m are kept.
use Prim.Native.Nat.{ℕ, zero, suc, ◌+◌, ◌≤◌, ◌<◌}
use mathlib.Core.Path.{◌≡◌, refl, sym, ap, ◌∙◌}
use mathlib.Core.Bool.{Bool, true, false, cond}
use mathlib.Core.List.{List, [], ◌∷◌, ◌++◌, append_assoc, append-nil}
use native.Mathlib.Omega.{arith}
use lib.ListN.{length, get_or, drop, set, replicate, length-append, length-set, length-drop, length-replicate, get_or-replicate}
use lib.Seq.{get_or_at, get_or-set_same, get_or-set_other, drop-drop}
use lib.Dec.{eqb}
use borrow.Author.Tests.{eqb-true, eqb-false}
use Rattle.lists.specs.Filled.{up_to}
use Rattle.lists.proofs.FilledLaws.{length-up_to, get_or-up_to, up_to-same}
use Rattle.edition.specs.Limits.{max_locations}
use Rattle.table.specs.declared.Event.{Event}
use Rattle.table.specs.Events.{capacity, no_event}
use Rattle.text_format.specs.Bytes.{newline, space}
use Rattle.text_format.specs.Condition.{max_value}
use Rattle.text_format.specs.Document.{field_bounds}
use Rattle.text_format.specs.Reading.{Read, got, breach, and_then, word, number, line}
use Rattle.text_format.proofs.LineLaws.{first_byte}
use Rattle.text_format.proofs.RowLaws.{lines_in, blank, onward, lined, lines_step, values_in, added, closed, behind_value, values-step, behind}
use Rattle.std.specs.Prelude.{Ok, Err}
use Rattle.condition_reader.specs.Steps.{refusal_in, place_in, NumberSays, FoundSays}
use Rattle.condition_reader.specs.declared.Breach.{Breach}
use Rattle.condition_reader.specs.declared.Number.{Number}
use Rattle.text_lines.specs.Lines.{event_of}
use Rattle.text_lines.specs.Says.{LineSays, ValuesSay}
use Rattle.text_lines.specs.declared.EventLine.{EventLine}
use Rattle.text_lines.proofs.ReadLaws.{then-got, then-then, then_same}

-- behind the last row nothing changes
get_or-more : {B : Type 0} (rows : List B) (x b : B) (k : ℕ) → (k ≡ length rows → ⊥) → get_or rows k b ≡ get_or (rows ++ (x ∷ [])) k b
get_or-more [] x b zero h = absurd (h refl)
get_or-more [] x b (suc k) h = refl
get_or-more (y ∷ rows) x b zero h = refl
get_or-more (y ∷ rows) x b (suc k) h = get_or-more rows x b k (λ e. h (ap suc e))

-- the first m rows, each as f says; blanks where there are fewer
module _ {A B : Type 0} (f : B → A) (b : B) (m : ℕ) where
  abbrev pub firsts : List B → List A
  firsts rows = up_to m (λ k. f (get_or rows k b))

  pub firsts-none : (v : A) → v ≡ f b → replicate m v ≡ firsts []
  firsts-none v e = up_to-same m (λ k. f b) v (replicate m v) (length-replicate m v) (λ k i. get_or-replicate m k v v i ∙ e)

  module _ (rows : List B) (x : B) (l : List A) (e : l ≡ firsts rows) (n : ℕ) (c : n ≡ length rows) where
    others : (k : ℕ) → k < m → (k ≡ n → ⊥) → get_or l k (f b) ≡ f (get_or (rows ++ (x ∷ [])) k b)
    others k i h =
        ap (λ (y : List A). get_or y k (f b)) e ∙ get_or-up_to m (λ j. f (get_or rows j b)) k (f b) i
        ∙ ap f (get_or-more rows x b k (λ z. h (z ∙ sym c)))

    -- one more row is kept
    pub firsts_more : (v : A) → n < m → v ≡ f x → set l n v ≡ firsts (rows ++ (x ∷ []))
    firsts_more v h q =
        up_to-same m (λ k. f (get_or (rows ++ (x ∷ [])) k b)) (f b) (set l n v) (length-set l n v ∙ long)
        (λ k i. go k i (eqb k n) refl)
      where
        long : length l ≡ m
        long = ap length e ∙ length-up_to m (λ j. f (get_or rows j b))

        go : (k : ℕ) → k < m → (t : Bool) → eqb k n ≡ t → get_or (set l n v) k (f b) ≡ f (get_or (rows ++ (x ∷ [])) k b)
        go k i true z =
            let s = eqb-true k n z in
            ap (λ (j : ℕ). get_or (set l n v) j (f b)) s ∙ get_or-set_same l n v (f b) (omega (arith, long, h)) ∙ q
            ∙ sym (ap f (get_or_at rows x [] b k (sym (s ∙ c))))
        go k i false z = get_or-set_other l n k v (f b) (eqb-false k n z) ∙ others k i (eqb-false k n z)

    -- there is no room for one more
    pub firsts-full : m ≤ n → l ≡ firsts (rows ++ (x ∷ []))
    firsts-full h =
        up_to-same m (λ k. f (get_or (rows ++ (x ∷ [])) k b)) (f b) l (ap length e ∙ length-up_to m (λ j. f (get_or rows j b)))
        (λ k i. others k i (λ z. absurd (omega (arith, i, h, z))))

-- so many rows, and one more
more_rows : {B : Type 0} (rows : List B) (x : B) (n : ℕ) → n ≡ length rows → n + 1 ≡ length (rows ++ (x ∷ []))
more_rows rows x n e = omega (arith, e, length-append rows (x ∷ []))

-- the rows so far, then those read next
abbrev onto : {B : Type 0} → List B → List B → List ℕ → Read (List B)
onto rows more t = got (rows ++ more) t

-- a byte that isn't 0 is in the text
pub byte_inside : (s : List ℕ) (k b : ℕ) → eqb (get_or (drop k s) 0 0) (suc b) ≡ true → k < length s
byte_inside s k b h = omega (arith, ap length (first_byte (drop k s) b h), length-drop k s)

behind-byte : (s : List ℕ) (k : ℕ) → drop 1 (drop k s) ≡ drop (k + 1) s
behind-byte s k = drop-drop 1 k s

-- `count` lines were read, whose first events are these, and reading goes on at `at`
pub record Lines (s : List ℕ) (at count : ℕ) (events : List Event) : Type 0 where
  pub lines : List (List ℕ)
  pub reads : lines_in s ≡ and_then (lines_in (drop at s)) (onto lines)
  pub counted : count ≡ length lines
  pub kept : events ≡ up_to capacity (λ k. event_of (get_or lines k []))
  pub inside : at ≤ length s
  pub few : count ≤ at

pub lines_start : (s : List ℕ) (v : Event) → v ≡ no_event → Lines s 0 0 (replicate capacity v)
unfolding event_of
lines_start s v e = record {
  lines = [];
  reads = sym (then-got (lines_in s));
  counted = refl;
  kept = firsts-none event_of [] capacity v e;
  inside = omega arith;
  few = omega arith;
}

module _ (s : List ℕ) (at count : ℕ) (events : List Event) (p : Lines s at count events) where
  module _ (h : eqb (get_or (drop at s) 0 0) newline ≡ false) where
    at-line : lines_in s ≡ and_then (and_then (line field_bounds (drop at s)) onward) (onto p.lines)
    at-line =
        p.reads
        ∙ ap (λ (x : Read (List (List ℕ))). and_then x (onto p.lines))
        (lines_step (drop at s) ∙ ap (λ (b : Bool). cond b (blank (drop at s)) (lined (drop at s))) h)

    pub lines-bad : (b : Breach) → LineSays s at (Err b) → lines_in s ≡ breach (refusal_in b) (drop (place_in b) s)
    lines-bad b e =
        at-line ∙ ap (λ (x : Read (List ℕ)). and_then (and_then x onward) (onto p.lines)) e.0

    pub lines_more : (r : EventLine) (e : LineSays s at (Ok r)) (after : List Event)
        → after ≡ firsts event_of [] capacity (p.lines ++ (e.0 ∷ [])) → Lines s r.next (count + 1) after
    lines_more r e after k = record {
      lines = p.lines ++ (e.0 ∷ []);
      reads =
          at-line
          ∙ ap (λ (x : Read (List ℕ)). and_then (and_then x onward) (onto p.lines)) e.1
          ∙ then-then (lines_in (drop r.next s)) _ _
          ∙ then_same (lines_in (drop r.next s)) _ _
          (λ ls t. ap (λ (m : List (List ℕ)). got m t) (sym (append_assoc p.lines (e.0 ∷ []) ls)));
      counted = more_rows p.lines e.0 count p.counted;
      kept = k;
      inside = e.3;
      few = omega (arith, e.4, p.few);
    }

  module _ (h : eqb (get_or (drop at s) 0 0) newline ≡ true) where
    pub lines-done : lines_in s ≡ got p.lines (drop (at + 1) s)
    lines-done =
        p.reads
        ∙ ap (λ (x : Read (List (List ℕ))). and_then x (onto p.lines))
        (lines_step (drop at s) ∙ ap (λ (b : Bool). cond b (blank (drop at s)) (lined (drop at s))) h
        ∙ behind 9 (drop at s) (λ _ t. got [] t) h)
        ∙ ap (λ (m : List (List ℕ)). got m (drop 1 (drop at s))) (append-nil p.lines)
        ∙ ap (λ (r : List ℕ). got p.lines r) (behind-byte s at)

    pub lines-inside : at + 1 ≤ length s
    lines-inside = omega (arith, byte_inside s at 9 h)

abbrev pub itself : ℕ → ℕ
itself v = v

-- `count` values were read, the first of which are these, and reading goes on at `at`
pub record Values (s : List ℕ) (from at count : ℕ) (initial : List ℕ) : Type 0 where
  pub vs : List ℕ
  pub reads : values_in (drop from s) ≡ and_then (values_in (drop at s)) (onto vs)
  pub counted : count ≡ length vs
  pub kept : initial ≡ up_to max_locations (λ x. get_or vs x 0)
  pub inside : at ≤ length s
  pub few : count ≤ at

pub values-start : (s : List ℕ) (from : ℕ) → from ≤ length s → Values s from from 0 (replicate max_locations 0)
values-start s from h = record {
  vs = [];
  reads = sym (then-got (values_in (drop from s)));
  counted = refl;
  kept = firsts-none itself 0 max_locations 0 refl;
  inside = h;
  few = omega arith;
}

module _ (s : List ℕ) (from at count : ℕ) (initial : List ℕ) (p : Values s from at count initial) where
  at_value : values_in (drop from s) ≡ and_then (and_then (number max_value (drop at s)) behind_value) (onto p.vs)
  at_value = p.reads ∙ ap (λ (x : Read (List ℕ)). and_then x (onto p.vs)) (values-step (drop at s))

  pub values-bad : (b : Breach) → NumberSays s at max_value (Err b) → values_in (drop from s) ≡ breach (refusal_in b) (drop (place_in b) s)
  values-bad b e = at_value ∙ ap (λ (x : Read ℕ). and_then (and_then x behind_value) (onto p.vs)) e.0

  module _ (n : Number) (e : NumberSays s at max_value (Ok n)) where
    past_value : values_in (drop from s) ≡ and_then (behind_value n.value (drop n.next s)) (onto p.vs)
    past_value = at_value ∙ ap (λ (x : Read ℕ). and_then (and_then x behind_value) (onto p.vs)) e.0

    module _ (h : eqb (get_or (drop n.next s) 0 0) space ≡ false) where
      at-end : values_in (drop from s)
          ≡ and_then (and_then (word (newline ∷ []) (drop n.next s)) (λ _ t. got (n.value ∷ []) t)) (onto p.vs)
      at-end =
          past_value
          ∙ ap (λ (b : Bool). and_then (cond b (added n.value (drop n.next s)) (closed n.value (drop n.next s))) (onto p.vs)) h

      pub values-bare : (b : Breach) → FoundSays s n.next (newline ∷ []) (Err b) → values_in (drop from s) ≡ breach (refusal_in b) (drop (place_in b) s)
      values-bare b q = at-end ∙ ap (λ (x : Read (List ℕ)). and_then (and_then x (λ _ t. got (n.value ∷ []) t)) (onto p.vs)) q.0

    module _ (after : List ℕ) (k : after ≡ firsts itself 0 max_locations (p.vs ++ (n.value ∷ []))) where
      pub values-more : eqb (get_or (drop n.next s) 0 0) space ≡ true → Values s from (n.next + 1) (count + 1) after
      values-more h = record {
        vs = p.vs ++ (n.value ∷ []);
        reads =
            past_value
            ∙ ap (λ (x : Read (List ℕ)). and_then x (onto p.vs))
            (ap (λ (b : Bool). cond b (added n.value (drop n.next s)) (closed n.value (drop n.next s))) h
            ∙ behind 31 (drop n.next s) (λ _ t. and_then (values_in t) (λ ws u. got (n.value ∷ ws) u)) h
            ∙ ap (λ (r : List ℕ). and_then (values_in r) (λ ws u. got (n.value ∷ ws) u)) (behind-byte s n.next))
            ∙ then-then (values_in (drop (n.next + 1) s)) _ _
            ∙ then_same (values_in (drop (n.next + 1) s)) _ _
            (λ ws t. ap (λ (m : List ℕ). got m t) (sym (append_assoc p.vs (n.value ∷ []) ws)));
        counted = more_rows p.vs n.value count p.counted;
        kept = k;
        inside = omega (arith, byte_inside s n.next 31 h);
        few = omega (arith, e.2, p.few);
      }

      module _ (h : eqb (get_or (drop n.next s) 0 0) space ≡ false) where
        pub values-end : (end : ℕ) → FoundSays s n.next (newline ∷ []) (Ok end) →
            ValuesSay s from (Ok (record { initial = after; count = count + 1; next = end }))
        values-end end q = (
          p.vs ++ (n.value ∷ []),
          at-end h ∙ ap (λ (x : Read (List ℕ)). and_then (and_then x (λ _ t. got (n.value ∷ []) t)) (onto p.vs)) q.0,
          more_rows p.vs n.value count p.counted,
          k,
          q.1,
        )
