-- The first line that holds, told line by line; and what a table that no line refuses has.
use Prim.Native.Nat.{ℕ, ◌≤◌, ◌<◌}
use mathlib.Core.Path.{◌≡◌, refl, sym, ap, ◌∙◌}
use mathlib.Core.Bool.{Bool, true, false}
use mathlib.Core.List.{List, [], ◌∷◌}
use mathlib.Core.Logic.{◌≢◌}
use native.Mathlib.Omega.{arith}
use Rattle.refusals.specs.declared.Refusal.{Refusal}
use Rattle.refusals.specs.declared.Refusal.TheVariants as code
use Rattle.refusals.specs.Refusals.{refusal_of}
use Rattle.lists.specs.Below.{lowest, some}
use Rattle.lists.proofs.SomeLaws.{some_below, none_below}
use Rattle.refusals.specs.Lines.{Refused, accepted, by_line, by_record, by_place}
use Rattle.refusals.specs.Lines.{Line, whole, record_of, place-of, refused_if, first_line}

-- a refusal is not "accepted"
pub line-refuses : (k : ℕ) → by_line k ≢ accepted
line-refuses k e = let z : ◌≡◌ {A = ℕ} 0 1 = cc in omega arith

pub record-refuses : (k i : ℕ) → by_record k i ≢ accepted
record-refuses k i e = let z : ◌≡◌ {A = ℕ} 0 1 = cc in omega arith

pub place-refuses : (k p : ℕ) → by_place k p ≢ accepted
place-refuses k p e = let z : ◌≡◌ {A = ℕ} 0 1 = cc in omega arith

-- every refusal of the code is one
pub refuses : (r : Refusal) → refusal_of r ≢ accepted
refuses (code.Line n) = line-refuses n
refuses (code.Record n k) = record-refuses n k.0

-- no line is left
pub none_here : (n : ℕ) → accepted ≡ first_line n []
unfolding first_line
none_here n = refl

-- a line of the whole holds
pub whole_here : (n k : ℕ) (b : Bool) (ls : List Line) → b ≡ true → by_line k ≡ first_line n (whole k b ∷ ls)
unfolding first_line
whole_here n k b ls h = sym (ap (λ (x : Bool). refused_if x (by_line k) (first_line n ls)) h)

-- it doesn't: the next line decides
pub whole-next : (n k : ℕ) (b : Bool) (ls : List Line) (r : Refused) → b ≡ false → r ≡ first_line n ls → r ≡ first_line n (whole k b ∷ ls)
unfolding first_line
whole-next n k b ls r h e = e ∙ sym (ap (λ (x : Bool). refused_if x (by_line k) (first_line n ls)) h)

-- a line of the records holds: i is the lowest record
pub record-here : (n k : ℕ) (f : ℕ → Bool) (ls : List Line) (i : ℕ) → i ≡ lowest n f → i < n → by_record k i ≡ first_line n (record_of k f ∷ ls)
unfolding first_line
record-here n k f ls i e l =
    ap (by_record k) e ∙ sym (ap (λ (x : Bool). refused_if x (by_record k (lowest n f)) (first_line n ls)) (some_below n i f e l))

-- it doesn't: the next line decides
pub record-next : (n k : ℕ) (f : ℕ → Bool) (ls : List Line) (i : ℕ) (r : Refused) → i ≡ lowest n f → n ≤ i → r ≡ first_line n ls
    → r ≡ first_line n (record_of k f ∷ ls)
unfolding first_line
record-next n k f ls i r e l h =
    h ∙ sym (ap (λ (x : Bool). refused_if x (by_record k (lowest n f)) (first_line n ls)) (none_below n i f e l))

-- a line of a text holds, at its place
pub place_here : (n k p : ℕ) (b : Bool) (ls : List Line) → b ≡ true → by_place k p ≡ first_line n (place-of k p b ∷ ls)
unfolding first_line
place_here n k p b ls h = sym (ap (λ (x : Bool). refused_if x (by_place k p) (first_line n ls)) h)

-- it doesn't: the next line decides
pub place-next : (n k p : ℕ) (b : Bool) (ls : List Line) (r : Refused) → b ≡ false → r ≡ first_line n ls
    → r ≡ first_line n (place-of k p b ∷ ls)
unfolding first_line
place-next n k p b ls r h e = e ∙ sym (ap (λ (x : Bool). refused_if x (by_place k p) (first_line n ls)) h)

-- no line refuses: the first doesn't hold, and no later one refuses
pub whole-off : (n k : ℕ) (b : Bool) (ls : List Line) → first_line n (whole k b ∷ ls) ≡ accepted → (b ≡ false) × (first_line n ls ≡ accepted)
unfolding first_line
whole-off n k true ls h = absurd (line-refuses k h)
whole-off n k false ls h = (refl, h)

-- a line of the records holds of none, and no later one refuses
pub record-off : (n k : ℕ) (f : ℕ → Bool) (ls : List Line) → first_line n (record_of k f ∷ ls) ≡ accepted → (some n f ≡ false) × (first_line n ls ≡ accepted)
unfolding first_line
record-off n k f ls h = go (some n f) h
  where
    go : (b : Bool) → refused_if b (by_record k (lowest n f)) (first_line n ls) ≡ accepted → (b ≡ false) × (first_line n ls ≡ accepted)
    go true e = absurd (record-refuses k (lowest n f) e)
    go false e = (refl, e)

-- a line of a text doesn't hold, and no later one refuses
pub place-off : (n k p : ℕ) (b : Bool) (ls : List Line) → first_line n (place-of k p b ∷ ls) ≡ accepted
    → (b ≡ false) × (first_line n ls ≡ accepted)
unfolding first_line
place-off n k p true ls h = absurd (place-refuses k p h)
place-off n k p false ls h = (refl, h)
