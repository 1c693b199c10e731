-- What is chosen is enough to try.
use Prim.Native.Nat.{ℕ, ◌^◌, ◌<◌}
use native.Mathlib.Omega.{arith}
use mathlib.Core.Path.{◌≡◌, refl, sym, ap, ◌∙◌}
use mathlib.Core.Bool.{Bool, true, false, not, ◌&&◌}
use mathlib.Core.List.{List, [], ◌∷◌}
use lib.Bits.{bit_and}
use lib.Count.{count_trailing_zeros}
use lib.Dec.{eqb, ltb}
use borrow.Author.Tests.{eqb-true}
use Rattle.lists.specs.Below.{some}
use Rattle.lists.proofs.BoolLaws.{and_l, and_r, and_both, not-either}
use Rattle.masks.specs.Bit.{bit}
use Rattle.masks.proofs.BitLaws.{bit-and, bit-pow}
use Rattle.masks.proofs.PowerLaws.{bits-same, trailing-lowest}
use Rattle.masks.proofs.SetLaws.{bit-without}
use Rattle.table.specs.declared.Table.{Table}
use Rattle.table.specs.Events.{writes}
use Rattle.model.specs.Witness.{is_memory_event}
use Rattle.order_facts.specs.Facts.{mask_by, opens}
use Rattle.order_facts.proofs.RowLaws.{bits_of}
use Rattle.fact_rows.specs.FactRows.{mask}
use Rattle.states.specs.declared.State.{State}
use Rattle.states.specs.States.{without, accepts, runs}
use Rattle.states.specs.Choices.{watched, quiet_reader, persists}
use Rattle.states.specs.Completions.{Enough}
use Rattle.states.proofs.MoveLaws.{eager}
use Rattle.states.proofs.PersistLaws.{persisting}
use Rattle.state_test.specs.Board.{Board, Chosen, kind_row, writers_word}

-- a mask within another is within it again
pub and_again : (a b : ℕ) → bit_and (bit_and a b) b ≡ bit_and a b
and_again a b = bits-same _ _ (λ k. bit-and (bit_and a b) b k ∙ ap (λ (x : Bool). x && bit b k) (bit-and a b k)
    ∙ twice (bit a k) (bit b k) ∙ sym (bit-and a b k))
  where
    twice : (x y : Bool) → (x && y && y) ≡ (x && y)
    twice true true = refl
    twice true false = refl
    twice false y = refl

-- the first event of a run is accepted: all that are accepted are enough
accepted-enough : (t : Table) (s : State) → Enough t s (accepts t s)
unfolding runs
accepted-enough t s [] r d = absurd (not-either _ r d)
accepted-enough t s (e ∷ l) r d =
    record { next = e; rest = l; listed = and_l _ _ r; may = and_l _ _ r; run = and_r (accepts t s e) _ r }

-- so are those accepted of a set that is enough, and more
enough-of : (t : Table) (s : State) (f g : ℕ → Bool) → ((k : ℕ) → f k ≡ true → accepts t s k ≡ true → g k ≡ true) →
    Enough t s f → Enough t s g
enough-of t s f g h n l r d =
    let o = n l r d in
    record { next = o.next; rest = o.rest; listed = h o.next o.listed o.may; may = o.may; run = o.run }

module _ {t : Table} {facts ties : List (List ℕ)} (b : Board t facts ties) (s : State) (can : ℕ)
    (a : (e : ℕ) → bit can e ≡ accepts t s e) where
  pub chosen-all : Chosen t s can can
  chosen-all = record {
    may = λ e h. h;
    enough = enough-of t s (accepts t s) (bit can) (λ k h m. a k ∙ m) (accepted-enough t s);
  }

  pub chosen-set : (set : ℕ) (r : Bool) → r ≡ persists t (bit s.placed) (bit set) → r ≡ true → Chosen t s can (bit_and can set)
  chosen-set set r q h = record {
    may = λ e i. and_l _ (bit set e) (sym (bit-and can set e) ∙ i);
    enough =
        enough-of t s (bit set) (bit (bit_and can set))
        (λ k i m. bit-and can set k ∙ and_both (bit can k) (bit set k) (a k ∙ m) i)
        (persisting t b.known.table s (bit set) (sym q ∙ h));
  }

  abbrev opened : ℕ → Bool
  opened e = some t.count (λ v. watched t (bit s.placed) v && opens t v e)

  -- a reader that opens no window that is met later
  module _ (w o q e r : ℕ) (u : w ≡ without can (mask ties kind_row writers_word)) (v : o ≡ mask_by t opened) (p : q ≡ without w o)
      (z : q ≡ 0 → ⊥) (l : q < 2 ^ 32) (h : e ≡ count_trailing_zeros 32 q) (i : r ≡ 2 ^ e) where
    lowest : (bit w e && not (bit o e)) ≡ true
    lowest =
        sym (ap (λ (x : ℕ). bit x e) p ∙ bit-without w o e) ∙ ap (bit q) h ∙ (trailing-lowest 32 q (omega (arith, z)) l).1

    reader : (bit can e && not (bit (mask ties kind_row writers_word) e)) ≡ true
    reader =
        sym (ap (λ (x : ℕ). bit x e) u ∙ bit-without can (mask ties kind_row writers_word) e) ∙ and_l _ (not (bit o e)) lowest

    may : accepts t s e ≡ true
    may = sym (a e) ∙ and_l _ (not (bit (mask ties kind_row writers_word) e)) reader

    counted : ltb e t.count ≡ true
    unfolding accepts is_memory_event
    counted = let m = may in search (and_l, and_r)

    quiet : quiet_reader t (bit s.placed) e ≡ true
    unfolding quiet_reader
    quiet =
        and_both (not (writes t e)) (not (opened e))
        (ap not (sym (ap (λ (x : ℕ). bit x e) b.writers ∙ bits_of t (writes t) e ∙ ap (λ (x : Bool). x && writes t e) counted))
        ∙ and_r (bit can e) _ reader)
        (ap not (sym (ap (λ (x : ℕ). bit x e) v ∙ bits_of t opened e ∙ ap (λ (x : Bool). x && opened e) counted))
        ∙ and_r (bit w e) _ lowest)

    pub chosen-quiet : Chosen t s can r
    chosen-quiet = record {
      may = λ k j. ap (bit can) (sym (eqb-true e k (sym (one k) ∙ j))) ∙ a e ∙ may;
      enough = enough-of t s (eqb e) (bit r) (λ k j m. one k ∙ j) (eager t b.known.table s e may quiet);
    }
      where
        one : (k : ℕ) → bit r k ≡ eqb e k
        one k = ap (λ (x : ℕ). bit x k) i ∙ bit-pow e k
