-- Lines of numbers: where their readers stop.
use Prim.Native.Nat.{ℕ, suc, ◌≤◌, zero, ◌<◌}
use mathlib.Core.Path.{◌≡◌, refl, sym, ap, ◌∙◌}
use mathlib.Core.Bool.{true, Bool, false, cond}
use mathlib.Core.List.{List, [], ◌∷◌, ◌++◌}
use native.Mathlib.Omega.{arith}
use lib.ListN.{length, get_or, drop, length-append}
use lib.Dec.{eqb}
use borrow.Author.Tests.{eqb-true}
use Rattle.text_format.specs.Bytes.{newline, space}
use Rattle.text_format.specs.Condition.{max_value, decimal}
use Rattle.text_format.specs.Document.{field_bounds, line_of}
use Rattle.text_format.specs.Reading.{Read, and_then, word, number, line, event_lines, values, got, breach}
use Rattle.text_format.proofs.BackLaws.{no_digit}
use Rattle.text_format.proofs.LevelLaws.{pick-reads, word_first}
use Rattle.text_format.proofs.LineLaws.{bounds-fair, line-sound, first_byte, line_first, line-some}
use Rattle.text_format.proofs.PartLaws.{Any, NoDigit, Part, next-then, part_then, part-done, as-reads, part-number, part-word}
use Rattle.text_format.proofs.SoundLaws.{through, number-sound, word_sound}
use Rattle.text_format.proofs.StopLaws.{Reads, Next, then-reads, done-reads}

pub part-line : (ms : List ℕ) (m : ℕ) → Part Any Any (line (m ∷ ms)) (line (m ∷ ms))
unfolding line
part-line [] m = part_then (part-number m) (λ v. part_then (part-word newline [] refl) (λ _. part-done Any (v ∷ [])))
part-line (n ∷ ms) m = part_then (part-number m) (λ v. part_then (part-word space [] refl)
    (λ _. part_then (part-line ms n) (λ vs. part-done Any (v ∷ vs))))

abbrev pub lines_in : List ℕ → Read (List (List ℕ))
lines_in s = event_lines (suc (length s)) s

pub line-shorter : (s l r : List ℕ) → line field_bounds s ≡ got l r → length r < length s
line-shorter s l r h = let e = (line-sound _ 255 s l r bounds-fair h).0 in
    omega (arith, ap length e, length-append (line_of l) r, line-some l)

-- enough fuel is enough
lines_same : (n m : ℕ) (s : List ℕ) → length s < n → length s < m → event_lines n s ≡ event_lines m s
unfolding event_lines
lines_same zero m s h k = absurd (omega arith)
lines_same (suc n) zero s h k = absurd (omega arith)
lines_same (suc n) (suc m) s h k = ap (λ (t : Read (List (List ℕ))). cond (eqb (get_or s 0 0) newline) (got [] (drop 1 s)) t)
    (go (line field_bounds s) refl (λ r p q. lines_same n m r p q))
  where
    go : (x : Read (List ℕ)) → line field_bounds s ≡ x → ((r : List ℕ) → length r < n → length r < m
        → event_lines n r ≡ event_lines m r)
        → and_then x (λ l r. and_then (event_lines n r) (λ ls t. got (l ∷ ls) t)) ≡ and_then x
        (λ l r. and_then (event_lines m r) (λ ls t. got (l ∷ ls) t))
    go (got l r) e ih = let z = line-shorter s l r e in ap (λ (t : Read (List (List ℕ))). and_then t (λ ls t. got (l ∷ ls) t))
        (ih r (omega arith) (omega arith))
    go (breach i r) e ih = refl

-- behind a first byte that is known
pub behind : {B : Type 0} (b : ℕ) (r : List ℕ) (f : List ℕ → List ℕ → Read B) → eqb (get_or r 0 0) (suc b) ≡ true
    → and_then (word (suc b ∷ []) r) f ≡ f [] (drop 1 r)
unfolding word
behind b [] f h = let z : 0 ≡ suc b = eqb-true 0 (suc b) h in absurd (omega arith)
behind b (c ∷ r) f h = rw h

abbrev pub blank : List ℕ → Read (List (List ℕ))
blank s = and_then (word (newline ∷ []) s) (λ _ t. got [] t)

abbrev pub onward : List ℕ → List ℕ → Read (List (List ℕ))
onward l r = and_then (lines_in r) (λ ls t. got (l ∷ ls) t)

abbrev pub lined : List ℕ → Read (List (List ℕ))
lined s = and_then (line field_bounds s) onward

pub lines_step : (s : List ℕ) → lines_in s ≡ cond (eqb (get_or s 0 0) newline) (blank s) (lined s)
unfolding event_lines
lines_step s = go (eqb (get_or s 0 0) newline) refl
  where
    step : (x : Read (List ℕ)) → line field_bounds s ≡ x → and_then x
        (λ l r. and_then (event_lines (length s) r) (λ ls t. got (l ∷ ls) t)) ≡ and_then x onward
    step (got l r) e = let z = line-shorter s l r e in ap (λ (t : Read (List (List ℕ))). and_then t (λ ls t. got (l ∷ ls) t))
        (lines_same (length s) (suc (length r)) r z (omega arith))
    step (breach i r) e = refl

    go : (t : Bool) → eqb (get_or s 0 0) newline ≡ t
        → cond t (got [] (drop 1 s)) (and_then (line field_bounds s) (λ l r. and_then (event_lines (length s) r)
        (λ ls t. got (l ∷ ls) t))) ≡ cond t (blank s) (lined s)
    go true e = sym (behind 9 s (λ _ t. got [] t) e)
    go false e = step (line field_bounds s) refl

lines_next : Next Any Any lines_in
unfolding event_lines
lines_next = record { sample = record { tail = newline ∷ []; value = []; reads = λ s h. refl }; leads = λ u b s h e. tt }

done_next : {A : Type 0} (a : A) → Next Any Any (got a)
done_next a = (part-done Any a).next

onward-next : (l : List ℕ) → Next Any Any (onward l)
onward-next l = next-then Any Any Any lines_in (λ ls t. got (l ∷ ls) t) lines_next (λ ls. done_next (l ∷ ls))

lines-reads : (n : ℕ) (s : List ℕ) → length s < n → Reads Any lines_in lines_in s
lines-reads zero s h = absurd (omega arith)
lines-reads (suc n) s h =
    as-reads Any lines_in lines_in (λ s. cond (eqb (get_or s 0 0) newline) (blank s) (lined s))
    (λ s. cond (eqb (get_or s 0 0) newline) (blank s) (lined s)) s
    (lines_step s) (λ u _. lines_step u) (λ u _. lines_step u) (λ u a r e. lines_step u ∙ e) (λ u a r e. lines_step u ∙ e)
    (pick-reads Any newline blank blank lined lined blank-first blank-first lined-first lined-first s (λ _. part-blank.reads s)
    (λ _. then-reads Any Any (line field_bounds) (line field_bounds) onward onward s ((part-line _ 255).reads s)
    (λ l t e. let z = line-shorter s l t e in then-reads Any Any lines_in lines_in (λ ls t. got (l ∷ ls) t)
    (λ ls t. got (l ∷ ls) t) t (lines-reads n t (omega arith))
    (λ ls u _. done-reads Any (l ∷ ls) u) (λ ls. done_next (l ∷ ls)) (λ ls. done_next (l ∷ ls)))
    onward-next onward-next))
  where
    part-blank : Part NoDigit Any blank blank
    part-blank = part_then (part-word newline [] refl) (λ _. part-done Any [])

    blank-first : (u : List ℕ) (a : List (List ℕ)) (r : List ℕ) → blank u ≡ got a r → eqb (get_or u 0 0) newline ≡ true
    blank-first u a r e = let w = word_first newline [] (λ _ t. got [] t) u a r e in
        ap (λ (l : List ℕ). eqb (get_or l 0 0) newline) w.1

    lined-first : (u : List ℕ) (a : List (List ℕ)) (r : List ℕ) → lined u ≡ got a r → eqb (get_or u 0 0) newline ≡ false
    lined-first u a r e = let w = through (line field_bounds u) onward a r e in line_first _ 255 u w.0 w.1 w.2

pub part-lines : Part Any Any lines_in lines_in
part-lines = record { next = lines_next; next⁺ = lines_next; reads = λ s. lines-reads (suc (length s)) s (omega arith) }

-- initial values
abbrev pub values_in : List ℕ → Read (List ℕ)
values_in s = values (suc (length s)) s

abbrev pub added : ℕ → List ℕ → Read (List ℕ)
added v r = and_then (word (space ∷ []) r) (λ _ t. and_then (values_in t) (λ vs t. got (v ∷ vs) t))

abbrev pub closed : ℕ → List ℕ → Read (List ℕ)
closed v r = and_then (word (newline ∷ []) r) (λ _ t. got (v ∷ []) t)

abbrev pub behind_value : ℕ → List ℕ → Read (List ℕ)
behind_value v r = cond (eqb (get_or r 0 0) space) (added v r) (closed v r)

number-shorter : (s : List ℕ) (v : ℕ) (r : List ℕ) → number max_value s ≡ got v r → length r ≤ length s
number-shorter s v r h = let e = (number-sound max_value (omega arith) s v r (omega arith) h).0 in
    omega (arith, ap length e, length-append (decimal v) r)

space-shorter : (r : List ℕ) → eqb (get_or r 0 0) space ≡ true → length (drop 1 r) < length r
space-shorter r h = omega (arith, ap length (first_byte r 31 h))

abbrev goes_on : ℕ → ℕ → List ℕ → Read (List ℕ)
goes_on n v r = cond (eqb (get_or r 0 0) space) (and_then (values n (drop 1 r)) (λ vs t. got (v ∷ vs) t)) (closed v r)

values_same : (n m : ℕ) (s : List ℕ) → length s < n → length s < m → values n s ≡ values m s
unfolding values
values_same zero m s h k = absurd (omega arith)
values_same (suc n) zero s h k = absurd (omega arith)
values_same (suc n) (suc m) s h k = go (number max_value s) refl (λ r p q. values_same n m r p q)
  where
    at : (v : ℕ) (r : List ℕ) → length r ≤ length s → ((r : List ℕ) → length r < n → length r < m → values n r ≡ values m r)
        → (t : Bool) → eqb (get_or r 0 0) space ≡ t
        → cond t (and_then (values n (drop 1 r)) (λ vs t. got (v ∷ vs) t)) (closed v r)
        ≡ cond t (and_then (values m (drop 1 r)) (λ vs t. got (v ∷ vs) t)) (closed v r)
    at v r l ih true e = let z = space-shorter r e in ap (λ (t : Read (List ℕ)). and_then t (λ vs t. got (v ∷ vs) t))
        (ih (drop 1 r) (omega arith) (omega arith))
    at v r l ih false e = refl

    go : (x : Read ℕ) → number max_value s ≡ x → ((r : List ℕ) → length r < n → length r < m → values n r ≡ values m r)
        → and_then x (goes_on n) ≡ and_then x (goes_on m)
    go (got v r) e ih = at v r (number-shorter s v r e) ih (eqb (get_or r 0 0) space) refl
    go (breach i r) e ih = refl

pub values-step : (s : List ℕ) → values_in s ≡ and_then (number max_value s) behind_value
unfolding values
values-step s = go (number max_value s) refl
  where
    at : (v : ℕ) (r : List ℕ) → length r ≤ length s → (t : Bool) → eqb (get_or r 0 0) space ≡ t
        → cond t (and_then (values (length s) (drop 1 r)) (λ vs t. got (v ∷ vs) t)) (closed v r) ≡ cond t (added v r) (closed v r)
    at v r l true e = let z = space-shorter r e in
        ap (λ (t : Read (List ℕ)). and_then t (λ vs t. got (v ∷ vs) t))
        (values_same (length s) (suc (length (drop 1 r))) (drop 1 r) (omega arith) (omega arith))
        ∙ sym (behind 31 r (λ _ t. and_then (values_in t) (λ vs t. got (v ∷ vs) t)) e)
    at v r l false e = refl

    go : (x : Read ℕ) → number max_value s ≡ x → and_then x (goes_on (length s)) ≡ and_then x behind_value
    go (got v r) e = at v r (number-shorter s v r e) (eqb (get_or r 0 0) space) refl
    go (breach i r) e = refl

added-first : (v : ℕ) (u a r : List ℕ) → added v u ≡ got a r → eqb (get_or u 0 0) space ≡ true
added-first v u a r e = let w = word_first space [] _ u a r e in ap (λ (l : List ℕ). eqb (get_or l 0 0) space) w.1

closed-first : (v : ℕ) (u a r : List ℕ) → closed v u ≡ got a r → eqb (get_or u 0 0) space ≡ false
closed-first v u a r e = let w = word_first newline [] _ u a r e in ap (λ (l : List ℕ). eqb (get_or l 0 0) space) w.1

behind-next : (v : ℕ) → Next NoDigit Any (behind_value v)
unfolding word
behind-next v = record {
  sample = record { tail = newline ∷ []; value = v ∷ []; reads = λ s h. refl };
  leads = λ u b s h e. go u b s (eqb (get_or u 0 0) space) e;
}
  where
    go : (u b s : List ℕ) (t : Bool) → cond t (added v u) (closed v u) ≡ got b s → no_digit u ≡ true
    go u b s true e = ap no_digit (word_first space [] _ u b s e).1
    go u b s false e = ap no_digit (word_first newline [] _ u b s e).1

values-next : Next Any Any values_in
values-next = let x = next-then Any NoDigit Any (number max_value) behind_value (part-number max_value).next behind-next in record {
  sample = record {
    tail = x.sample.tail;
    value = x.sample.value;
    reads = λ s h. values-step (x.sample.tail ++ s)
        ∙ x.sample.reads s h;
  };
  leads = λ u b s h e. tt;
}

then_next : (v : ℕ) → Next Any Any (λ t. and_then (values_in t) (λ vs t. got (v ∷ vs) t))
then_next v = next-then Any Any Any values_in (λ vs t. got (v ∷ vs) t) values-next (λ vs. done_next (v ∷ vs))

values-reads : (n : ℕ) (s : List ℕ) → length s < n → Reads Any values_in values_in s
values-reads zero s h = absurd (omega arith)
values-reads (suc n) s h =
    as-reads Any values_in values_in (λ s. and_then (number max_value s) behind_value) (λ s. and_then (number max_value s) behind_value) s
    (values-step s) (λ u _. values-step u) (λ u _. values-step u) (λ u a r e. values-step u ∙ e) (λ u a r e. values-step u ∙ e)
    (then-reads NoDigit Any (number max_value) (number max_value) behind_value behind_value s ((part-number max_value).reads s)
    (λ v r e. pick-reads Any space (added v) (added v) (closed v) (closed v) (added-first v) (added-first v) (closed-first v)
    (closed-first v) r
    (λ i. then-reads Any Any (word (space ∷ [])) (word (space ∷ [])) (λ _ t. and_then (values_in t) (λ vs t. got (v ∷ vs) t))
    (λ _ t. and_then (values_in t) (λ vs t. got (v ∷ vs) t)) r
    ((part-word space [] refl).reads r)
    (λ a t g. let z = number-shorter s v r e in let y : length r ≡ suc (length t) = ap length (word_sound (space ∷ []) r a t g) in
    then-reads Any Any values_in values_in (λ vs t. got (v ∷ vs) t) (λ vs t. got (v ∷ vs) t) t (values-reads n t (omega arith))
    (λ vs u _. done-reads Any (v ∷ vs) u) (λ vs. done_next (v ∷ vs)) (λ vs. done_next (v ∷ vs)))
    (λ _. then_next v) (λ _. then_next v))
    (λ i. (part-closed v).reads r))
    behind-next behind-next)
  where
    part-closed : (v : ℕ) → Part NoDigit Any (closed v) (closed v)
    part-closed v = part_then (part-word newline [] refl) (λ _. part-done Any (v ∷ []))

pub part-values : Part Any Any values_in values_in
part-values = record { next = values-next; next⁺ = values-next; reads = λ s. values-reads (suc (length s)) s (omega arith) }
