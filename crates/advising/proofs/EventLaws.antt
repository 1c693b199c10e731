-- The events of a mask, as an ascending list.
use Prim.Native.Nat.{ℕ, ◌^◌, ◌≤◌, ◌<◌}
use native.Mathlib.Omega.{arith}
use mathlib.Core.Path.{◌≡◌, refl, sym, ap, ap₂, ◌∙◌, subst}
use mathlib.Core.Bool.{Bool, true, false, ◌&&◌, ◌||◌, xor, true≢false}
use mathlib.Core.List.{List, [], ◌∷◌}
use lib.ListN.{length}
use lib.Bits.{bit_xor}
use lib.Count.{ones, count_trailing_zeros}
use lib.Dec.{eqb, ltb}
use borrow.Author.Tests.{eqb-true, eqb-false, eq-eqb, ltb-true, ltb-false, lt-ltb}
use Rattle.lists.specs.Below.{below}
use Rattle.lists.specs.Lists.{all, has, keep}
use Rattle.lists.proofs.BoolLaws.{and_r, is_false, xor_self, xor-false, eqb_comm}
use Rattle.lists.proofs.ListLaws.{all-has}
use Rattle.lists.proofs.MemberLaws.{has_all, kept-has}
use Rattle.lists.proofs.DistinctLaws.{kept-distinct}
use Rattle.prefixes.specs.Statements.{Rising}
use Rattle.prefixes.proofs.ListedLaws.{rising-keep}
use Rattle.masks.specs.Bit.{bit}
use Rattle.masks.specs.MaskOf.{mask_of}
use Rattle.masks.proofs.BitLaws.{bit-xor, bit-pow, bit_past}
use Rattle.masks.proofs.PowerLaws.{bits-same, trailing-lowest}
use Rattle.masks.proofs.MaskOfLaws.{mask-has, mask_below, mask-below-lt, mask-ones}
use Rattle.table.specs.Events.{capacity}
use Rattle.advising.specs.Chosen.{events_in}

-- x isn't in a list of greater numbers
not-above : (x : ℕ) (l : List ℕ) → all (ltb x) l ≡ true → has x l ≡ false
not-above x l a = is_false (has x l) (λ m. omega (arith, ltb-true x x (all-has (ltb x) l x a m)))

-- its first entry isn't in a list that begins higher
begins-above : (x y : ℕ) (l m : List ℕ) → all (ltb y) m ≡ true → has x (x ∷ l) ≡ has x (y ∷ m) → x < y → ⊥
begins-above x y l m a e h =
    true≢false (sym (ap (λ (b : Bool). b || has x l) (eq-eqb x x refl)) ∙ e ∙ not-above x (y ∷ m) (rw (lt-ltb x y h) above))
  where
    above : all (ltb x) m ≡ true
    above = has_all (ltb x) m (λ z i. lt-ltb x z (omega (arith, h, ltb-true y z (all-has (ltb y) m z a i))))

-- two ascending lists with the same entries
rising-same : (l m : List ℕ) → Rising l → Rising m → ((k : ℕ) → has k l ≡ has k m) → l ≡ m
rising-same [] [] r q h = refl
rising-same [] (y ∷ m) r q h = absurd (true≢false (sym (h y ∙ ap (λ (b : Bool). b || has y m) (eq-eqb y y refl))))
rising-same (x ∷ l) [] r q h = absurd (true≢false (sym (ap (λ (b : Bool). b || has x l) (eq-eqb x x refl)) ∙ h x))
rising-same (x ∷ l) (y ∷ m) r q h = ap₂ (λ (z : ℕ) (n : List ℕ). z ∷ n) first (rising-same l m r.1 q.1 others)
  where
    first : x ≡ y
    first = go (ltb x y) (ltb y x) refl refl
      where
        go : (b d : Bool) → ltb x y ≡ b → ltb y x ≡ d → x ≡ y
        go true d e f = absurd (begins-above x y l m q.0 (h x) (ltb-true x y e))
        go false true e f = absurd (begins-above y x m l r.0 (sym (h y)) (ltb-true y x f))
        go false false e f = omega (arith, ltb-false x y e, ltb-false y x f)

    others : (k : ℕ) → has k l ≡ has k m
    others k = go (eqb k x) refl
      where
        go : (b : Bool) → eqb k x ≡ b → has k l ≡ has k m
        go true e =
            let i = eqb-true k x e in
            ap (λ (z : ℕ). has z l) i ∙ not-above x l r.0 ∙ sym (ap (λ (z : ℕ). has z m) (i ∙ first) ∙ not-above y m q.0)
        go false e =
            ap (λ (b : Bool). b || has k l) (sym e) ∙ h k ∙ ap (λ (b : Bool). b || has k m) (ap (eqb k) (sym first) ∙ e)

-- an ascending list that has the bits of m is the list of its events
pub events-are : (m : ℕ) (l : List ℕ) → Rising l → ((k : ℕ) → (ltb k capacity && bit m k) ≡ has k l) → events_in m ≡ l
events-are m l r h = rising-same (events_in m) l (rising-keep (bit m) capacity) r (λ k. kept-has (bit m) capacity k ∙ h k)

module _ (m : ℕ) (small : m < 2 ^ capacity) where
  -- every bit of a mask of events is one of an event
  within : (k : ℕ) → (ltb k capacity && bit m k) ≡ bit m k
  within k = go (ltb k capacity) refl
    where
      go : (b : Bool) → ltb k capacity ≡ b → (b && bit m k) ≡ bit m k
      go true e = refl
      go false e = sym (bit_past capacity m k small (ltb-false k capacity e))

  pub events-mask : mask_of (events_in m) ≡ m
  events-mask = bits-same (mask_of (events_in m)) m (λ k. mask_below (bit m) capacity k ∙ within k)

  -- they are as many as it has ones
  pub events-count : ones m ≡ length (events_in m)
  events-count = ap ones (sym events-mask) ∙ mask-ones (events_in m) (kept-distinct (bit m) capacity)

  -- the lowest is the first
  pub events-lowest : (e : ℕ) → 0 < m → e ≡ count_trailing_zeros capacity m → events_in m ≡ e ∷ events_in (bit_xor m (2 ^ e))
  events-lowest e h q = events-are m (e ∷ events_in rest) (above, rising-keep (bit rest) capacity) same
    where
      rest : ℕ
      rest = bit_xor m (2 ^ e)

      low : (e < capacity) × (bit m e ≡ true) × ((j : ℕ) → j < e → bit m j ≡ false)
      low = subst (λ (z : ℕ). (z < capacity) × (bit m z ≡ true) × ((j : ℕ) → j < z → bit m j ≡ false)) (sym q) (trailing-lowest capacity m h small)

      left : (k : ℕ) → bit rest k ≡ xor (bit m k) (eqb e k)
      left k = bit-xor m (2 ^ e) k ∙ ap (xor (bit m k)) (bit-pow e k)

      above : all (ltb e) (events_in rest) ≡ true
      above = has_all (ltb e) (events_in rest) (λ k i. lt-ltb e k (greater k (and_r (ltb k capacity) (bit rest k) (sym (kept-has (bit rest) capacity k) ∙ i))))
        where
          greater : (k : ℕ) → bit rest k ≡ true → e < k
          greater k i = go (ltb e k) (eqb e k) refl refl
            where
              go : (b d : Bool) → ltb e k ≡ b → eqb e k ≡ d → e < k
              go true d f g = ltb-true e k f
              go false true f g =
                  absurd (true≢false (sym i ∙ left k ∙ ap₂ xor (ap (bit m) (sym (eqb-true e k g)) ∙ low.1) g ∙ xor_self true))
              go false false f g =
                  absurd (true≢false (sym i ∙ left k ∙ ap₂ xor (low.2 k (omega (arith, ltb-false e k f, eqb-false e k g))) g ∙ xor_self false))

      same : (k : ℕ) → (ltb k capacity && bit m k) ≡ has k (e ∷ events_in rest)
      same k = go (eqb k e) refl
        where
          go : (b : Bool) → eqb k e ≡ b → (ltb k capacity && bit m k) ≡ (b || has k (events_in rest))
          go true i =
              ap (λ (z : ℕ). ltb z capacity && bit m z) (eqb-true k e i)
              ∙ ap₂ (λ (c d : Bool). c && d) (lt-ltb e capacity low.0) low.1
          go false i =
              ap (λ (c : Bool). ltb k capacity && c) (sym (left k ∙ ap (xor (bit m k)) (eqb_comm e k ∙ i) ∙ xor-false (bit m k)))
              ∙ sym (kept-has (bit rest) capacity k)

-- of a mask of numbers that pass: these
pub events-of : (f : ℕ → Bool) (n : ℕ) → n ≤ capacity → events_in (mask_of (keep f (below n))) ≡ keep f (below n)
events-of f n h = events-are mask (keep f (below n)) (rising-keep f n)
    (λ k. within mask (mask-below-lt f n capacity h) k ∙ mask-has (keep f (below n)) k)
  where
    mask : ℕ
    mask = mask_of (keep f (below n))
