-- Laws for the pass from the end of an order that tells the final values.
use Prim.Native.Nat.{ℕ, suc, ◌-◌, ◌+◌, ◌≤◌, ◌<◌}
use native.Mathlib.Omega.{arith}
use native.Mathlib.Numerals.{add-one}
use mathlib.Core.Path.{◌≡◌, sym, ap, ap₂, ◌∙◌}
use mathlib.Core.Bool.{Bool, true, false, not, ◌&&◌, ◌||◌, and-true, or-false}
use mathlib.Core.List.{List, ◌∷◌, ◌++◌}
use lib.ListN.{length, get_or, take, drop, take-append-drop, drop_of_length-le}
use lib.Seq.{drop-cons, drop-drop, length-take-le}
use lib.Bits.{bit_and, bit_xor}
use lib.Dec.{eqb}
use borrow.Author.Tests.{ne_eqb}
use Rattle.lists.specs.Below.{below, some}
use Rattle.lists.specs.Lists.{keep}
use Rattle.lists.proofs.BoolLaws.{not-either, is_false}
use Rattle.lists.proofs.SomeLaws.{some_at, some-none, some_same, some_more}
use Rattle.masks.specs.Bit.{bit}
use Rattle.masks.specs.MaskOf.{mask_of}
use Rattle.masks.proofs.BitLaws.{bit-zero}
use Rattle.masks.proofs.SetLaws.{bit-without}
use Rattle.masks.proofs.SubsetLaws.{none-set}
use Rattle.masks.proofs.MaskOfLaws.{mask-below-lt}
use Rattle.masks.proofs.BelowLaws.{mask_at}
use Rattle.table.specs.declared.Table.{Table}
use Rattle.model.specs.Axioms.{final_values}
use Rattle.placing.proofs.KeptLaws.{clean-kept}
use Rattle.order_facts.specs.Facts.{peers, wrong, unmet}
use Rattle.order_facts.proofs.FinalLaws.{spoils, spoils-more, spoils-fewer, final-entries}
use Rattle.fact_rows.specs.FactRows.{mask, Facts, peer_row, set_row, wrong_word, unmet_word}
use Rattle.order_test.specs.Testing.{Judges, Fitting}
use Rattle.order_test.proofs.TellLaws.{mask_is, mask-bit}
use Rattle.order_test.proofs.PassLaws.{Always, entry-is, entry-event}

-- some stated location that nothing writes isn't met
pub unmet-mask : (facts : List (List ℕ)) (t : Table) → Facts t facts →
    some t.locations (unmet t) ≡ not (eqb (mask facts set_row unmet_word) 0)
unmet-mask facts t f =
    some_same t.locations (unmet t) (bit locations) (λ x l. sym (mask_at (unmet t) t.locations x l))
    ∙ none-set t.locations locations (mask-below-lt (unmet t) t.locations t.locations (omega arith))
    ∙ ap (λ (m : ℕ). not (eqb m 0)) (sym f.unmet)
  where
    locations : ℕ
    locations = mask_of (keep (unmet t) (below t.locations))

module _ (facts : List (List ℕ)) (order : List ℕ) (len : ℕ) where
  abbrev gmo : List ℕ
  gmo = take len order

  -- entry i spoils its location's final value
  abbrev spoils_at : Table → ℕ → Bool
  spoils_at t i = spoils t (drop (suc i) gmo) (get_or gmo i 0)

  -- left has the wrong writers to whose locations no entry from i on writes, but for themselves; the first i entries decide
  abbrev pub Undecided : ℕ → ℕ → Type 0
  Undecided i left =
      (i ≤ len)
      × Always facts order len (λ t. (w : ℕ) → w < t.count → bit left w ≡ spoils t (drop i gmo) w)
      × Always facts order len (λ t. final_values t gmo ≡ not (some i (spoils_at t)))

  pub end-unmet : (mask facts set_row unmet_word ≡ 0 → ⊥) → Judges facts gmo final_values false
  end-unmet n t f o c =
      sym (final-entries (clean-kept f.table o c)
      ∙ ap (λ (b : Bool). not b && not (some (length gmo) (spoils_at t))) (unmet-mask facts t f ∙ ap not (ne_eqb _ 0 n)))

  module _ (fit : Fitting order len) where
    long : length gmo ≡ len
    long = length-take-le len order (omega (arith, fit.long, fit.within))

    pub end-start : mask facts set_row unmet_word ≡ 0 → Undecided len (mask facts set_row wrong_word)
    unfolding spoils
    end-start z = (
      omega arith,
      λ t f o c w l.
          ap (λ (m : ℕ). bit m w) f.wrong ∙ mask-bit t (wrong t) w l ∙ sym (and-true (wrong t w))
          ∙ ap (λ (s : List ℕ). spoils t s w) (sym (drop_of_length-le gmo {i = len} (omega (arith, long)))),
      λ t f o c.
          final-entries (clean-kept f.table o c)
          ∙ ap₂ (λ (b : Bool) (n : ℕ). not b && not (some n (spoils_at t)))
          (unmet-mask facts t f ∙ ap (λ (m : ℕ). not (eqb m 0)) z) long,
    )

    -- A turn: entry i is the next towards the front.
    module _ (n i left : ℕ) (q : n ≡ suc i) (u : Undecided n left) where
      inside : i < len
      inside = omega (arith, u.0)

      told : Always facts order len (λ t. bit left (get_or order i 0) ≡ spoils_at t i)
      told t f o c =
          u.1 t f o c _ (entry-event facts order len fit i inside t o)
          ∙ ap₂ (λ (k w : ℕ). spoils t (drop k gmo) w) q (sym (entry-is facts order len fit i inside))

      pub end-hit : bit left (get_or order i 0) ≡ true → Judges facts gmo final_values false
      end-hit h t f o c = sym (u.2 t f o c ∙ ap not (some_at n (spoils_at t) i (omega arith) (sym (told t f o c) ∙ h)))

      pub end_more : bit left (get_or order i 0) ≡ false → (next : ℕ) →
          next ≡ bit_xor left (bit_and left (mask facts peer_row (get_or order i 0))) → Undecided i next
      end_more h next p = (
        omega (arith, u.0),
        λ t f o c w l.
            let e = get_or order i 0 in
            ap (λ (m : ℕ). bit m w) p ∙ bit-without left _ w
            ∙ ap₂ (λ (a b : Bool). a && not b) (u.1 t f o c w l ∙ ap (λ (k : ℕ). spoils t (drop k gmo) w) q)
            (ap (λ (m : ℕ). bit m w) (mask_is f peer_row (peers t) f.peers e (entry-event facts order len fit i inside t o))
            ∙ mask-bit t (peers t e) w l)
            ∙ spoils-more t e (drop (suc i) gmo) w
            ∙ ap (λ (s : List ℕ). spoils t s w)
            (ap (λ (v : ℕ). v ∷ drop (suc i) gmo) (sym (entry-is facts order len fit i inside))
            ∙ sym (drop-cons gmo i 0 (omega (arith, long, inside)))),
        λ t f o c.
            u.2 t f o c
            ∙ ap not (ap (λ (k : ℕ). some k (spoils_at t)) (q ∙ sym (add-one i)) ∙ some_more i (spoils_at t)
            ∙ ap (λ (b : Bool). some i (spoils_at t) || b) (sym (told t f o c) ∙ h) ∙ or-false (some i (spoils_at t))),
      )

    -- No wrong writer is left, or no entry.
    pub end_none : (i left : ℕ) → Undecided i left → (0 < i → left ≡ 0) → Judges facts gmo final_values true
    end_none i left u empty t f o c = sym (u.2 t f o c ∙ ap not (some-none i (spoils_at t) each))
      where
        -- behind entry j are those from i on
        further : (j : ℕ) → j < i → drop (suc j) gmo ≡ take (i - suc j) (drop (suc j) gmo) ++ drop i gmo
        further j l =
            let e : suc j + (i - suc j) ≡ i = omega arith in
            sym (take-append-drop (i - suc j) (drop (suc j) gmo))
            ∙ ap (λ (s : List ℕ). take (i - suc j) (drop (suc j) gmo) ++ s)
            (drop-drop (i - suc j) (suc j) gmo ∙ ap (λ (k : ℕ). drop k gmo) e)

        each : (j : ℕ) → j < i → spoils_at t j ≡ false
        each j l = is_false _ (λ h.
            let inside : j < len = omega (arith, u.0) in
            let w = get_or order j 0 in
            not-either (spoils t (drop i gmo) w)
            (spoils-fewer t (take (i - suc j) (drop (suc j) gmo)) _ w
            (ap₂ (spoils t) (sym (further j l)) (sym (entry-is facts order len fit j inside)) ∙ h))
            (sym (u.1 t f o c w (entry-event facts order len fit j inside t o)) ∙ ap (λ (m : ℕ). bit m w) (empty (omega arith))
            ∙ bit-zero w))
