-- Laws for the loop that takes the fences of a set away, the lowest first, and gathers those that a mask chooses.
use Prim.Native.Nat.{ℕ, ◌^◌, ◌<◌}
use native.Mathlib.Omega.{arith}
use mathlib.Core.Path.{◌≡◌, refl, sym, ap, ap₂, ◌∙◌}
use mathlib.Core.Bool.{Bool, true, false, cond, ◌&&◌, ◌||◌, or-false}
use mathlib.Core.List.{List, ◌∷◌}
use lib.ListN.{length}
use lib.Bits.{bit_or, bit_xor}
use lib.Count.{ones, count_trailing_zeros, ones-le}
use lib.Pow.{pow_pos}
use lib.Dec.{eqb, ltb}
use Rattle.lists.specs.Below.{below, up_from}
use Rattle.lists.specs.Lists.{all, has, kept}
use Rattle.lists.proofs.BoolLaws.{bool-ext, and_r, and_both, eqb_comm}
use Rattle.lists.proofs.ListLaws.{all-has, all_keep}
use Rattle.lists.proofs.MemberLaws.{all_from}
use Rattle.prefixes.proofs.ListedLaws.{rising-keep}
use Rattle.masks.specs.Bit.{bit}
use Rattle.masks.proofs.BitLaws.{bit-or, bit-zero}
use Rattle.masks.proofs.PowerLaws.{trailing-lowest, xor-pow}
use Rattle.masks.proofs.GatherLaws.{bit-if}
use Rattle.table.specs.Events.{capacity}
use Rattle.advising.specs.Chosen.{events_in, chosen}
use Rattle.advising.proofs.EventLaws.{events-are, events-count, events-lowest}
use Rattle.advising.proofs.MaskLaws.{chosen-all, chosen-rising}

-- one entry more is in the list if it is chosen
has-kept-first : (c : Bool) (e k : ℕ) (l : List ℕ) → has k (kept c e l) ≡ ((c && eqb e k) || has k l)
has-kept-first true e k l = ap (λ (b : Bool). b || has k l) (eqb_comm k e)
has-kept-first false e k l = refl

or_assoc : (a b d : Bool) → ((a || b) || d) ≡ (a || (b || d))
or_assoc true b d = refl
or_assoc false b d = refl

-- of no fence none is chosen
none_left : (m k : ℕ) → has k (chosen (events_in 0) m) ≡ false
unfolding chosen up_from
none_left m k = refl

module _ (fences m : ℕ) where
  -- the fences in left aren't looked at yet, set has those chosen of the others
  abbrev pub Choosing : ℕ → ℕ → Type 0
  Choosing left set =
      (left < 2 ^ capacity) × ((k : ℕ) → (bit set k || has k (chosen (events_in left) m)) ≡ has k (chosen (events_in fences) m))

  pub choose-start : fences < 2 ^ capacity → Choosing fences 0
  choose-start h = (h, λ k. ap (λ (b : Bool). b || has k (chosen (events_in fences) m)) (bit-zero k))

  module _ (left set e : ℕ) (s : Choosing left set) (h : 0 < left) (q : e ≡ count_trailing_zeros capacity left) where
    lowest : (e < capacity) × (bit left e ≡ true)
    lowest = let l = trailing-lowest capacity left h s.0 in (omega arith, ap (bit left) q ∙ l.1)

    pub choose-lowest : e < capacity
    choose-lowest = lowest.0

    module _ (b : ℕ) (p : b ≡ 2 ^ e) where
      pub choose-less : bit_xor left b < left
      choose-less = omega (arith, ap (bit_xor left) p, xor-pow left e lowest.1, pow_pos e)

      small : bit_xor left b < 2 ^ capacity
      small = omega (arith, choose-less, s.0)

      first : events_in left ≡ e ∷ events_in (bit_xor left b)
      first = events-lowest left s.0 e h q ∙ ap (λ (z : ℕ). e ∷ events_in (bit_xor left z)) (sym p)

      -- as many are left as its bit stands behind
      pub choose-room : ones (bit_xor left b) < capacity
      choose-room =
          omega (arith, events-count left s.0, ap length first, events-count (bit_xor left b) small, ones-le capacity left s.0)

      pub choose-more : (v : ℕ) → v ≡ cond (bit m (ones (bit_xor left b))) b 0 → Choosing (bit_xor left b) (bit_or set v)
      unfolding chosen
      choose-more v o = (
        small,
        λ k. ap (λ (x : Bool). x || has k others) (bit-or set v k ∙ ap (λ (x : Bool). bit set k || x) (added k))
            ∙ or_assoc (bit set k) (c && eqb e k) (has k others)
            ∙ ap (λ (x : Bool). bit set k || x) (sym (has-kept-first c e k others) ∙ ap (λ (l : List ℕ). has k (chosen l m)) (sym first)) ∙ s.1 k,
      )
        where
          others : List ℕ
          others = chosen (events_in (bit_xor left b)) m

          c : Bool
          c = bit m (length (events_in (bit_xor left b)))

          added : (k : ℕ) → bit v k ≡ (c && eqb e k)
          added k =
              ap (λ (z : ℕ). bit z k) (o ∙ ap₂ (λ (n z : ℕ). cond (bit m n) z 0) (events-count (bit_xor left b) small) p) ∙ bit-if c e k

  pub choose-end : (left set : ℕ) → Choosing left set → left ≡ 0 → events_in set ≡ chosen (events_in fences) m
  choose-end left set s e = events-are set all-chosen (chosen-rising (events_in fences) m (rising-keep (bit fences) capacity)) (λ k. inside k)
    where
      all-chosen : List ℕ
      all-chosen = chosen (events_in fences) m

      has-set : (k : ℕ) → bit set k ≡ has k all-chosen
      has-set k =
          sym (or-false (bit set k)) ∙ ap (λ (b : Bool). bit set k || b) (sym (ap (λ (z : ℕ). has k (chosen (events_in z) m)) e ∙ none_left m k)) ∙ s.1 k

      below-room : all (λ k. ltb k capacity) all-chosen ≡ true
      below-room = chosen-all (λ k. ltb k capacity) (events_in fences) m
          (all_keep (λ k. ltb k capacity) (bit fences) (below capacity) (all_from capacity 0 capacity (omega arith)))

      inside : (k : ℕ) → (ltb k capacity && bit set k) ≡ has k all-chosen
      inside k = bool-ext (ltb k capacity && bit set k) (has k all-chosen)
          (λ i. sym (has-set k) ∙ and_r (ltb k capacity) (bit set k) i)
          (λ i. and_both (ltb k capacity) (bit set k) (all-has (λ j. ltb j capacity) all-chosen k below-room i) (has-set k ∙ i))
