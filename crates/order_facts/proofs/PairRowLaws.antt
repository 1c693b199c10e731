-- The LR that is paired with an SC: the highest of the LRs and SCs that are earlier on its hart, if that is an LR.
use Prim.Native.Nat.{ℕ, ◌≤◌, ◌<◌}
use native.Mathlib.Omega.{arith}
use mathlib.Core.Path.{◌≡◌, refl, sym, ap, ◌∙◌}
use mathlib.Core.Bool.{Bool, true, false, not, ◌&&◌, ◌||◌}
use mathlib.Core.Logic.{◌⊎◌, inl, inr, ⊎_elim}
use lib.Bits.{bit_and}
use lib.Dec.{eqb, ltb}
use borrow.Author.Tests.{lt-ltb, ltb-true, ltb-false, not-true}
use Rattle.lists.proofs.BoolLaws.{and_l, and_r, and_both, not-either, is_false}
use Rattle.lists.proofs.SomeLaws.{some-none, none-at}
use Rattle.masks.specs.Bit.{bit}
use Rattle.masks.specs.Parts.{under, highest}
use Rattle.masks.proofs.BitLaws.{bit-zero}
use Rattle.masks.proofs.MaskOfLaws.{mask-below-lt}
use Rattle.masks.proofs.HighestLaws.{highest-set}
use Rattle.table.specs.declared.Table.{Table}
use Rattle.table.specs.Events.{capacity, kind, po, between, reserves, paired, lr, sc}
use Rattle.table.proofs.ProgramOrderLaws.{po-less, po-hart, is-po}
use Rattle.placing.proofs.GoodTableLaws.{paired-parts}
use Rattle.order_facts.specs.Facts.{mask_by}
use Rattle.order_facts.proofs.RowLaws.{bits_of, mask-both, hart_of, earlier-set}

-- an LR or SC
abbrev pub reserving : Table → ℕ → Bool
reserving t k = eqb (kind t k) lr || eqb (kind t k) sc

module _ (t : Table) (room : t.count ≤ capacity) (v : ℕ) where
  abbrev n : ℕ
  n = t.count

  -- earlier on v's hart
  abbrev pub reserver : ℕ → Bool
  reserver k = reserving t k && po t k v

  pub reservers-set : mask_by t reserver ≡ bit_and (mask_by t (reserving t)) (under v (hart_of t v))
  reservers-set = mask-both t (reserving t) (λ k. po t k v) ∙ ap (bit_and (mask_by t (reserving t))) (earlier-set t v)

  paired-reserver : (k : ℕ) → paired t k v ≡ true → reserver k ≡ true
  paired-reserver k p = let q = paired-parts t k v p in rw q.1 q.0

  reserver-bit : (k : ℕ) → k < n → reserver k ≡ true → bit (mask_by t reserver) k ≡ true
  reserver-bit k l h = bits_of t reserver k ∙ rw (lt-ltb k n l) h

  -- no SC: no LR is paired with it
  pub unpaired-other : eqb (kind t v) sc ≡ false → (l : ℕ) → l < n → paired t l v ≡ false
  unpaired-other h l i = is_false _ (λ p. not-either _ (paired-parts t l v p).2 h)

  -- nothing reserves before it
  pub unpaired-none : mask_by t reserver ≡ 0 → (l : ℕ) → l < n → paired t l v ≡ false
  unpaired-none z l i = is_false _ (λ p.
      not-either _ (reserver-bit l i (paired-reserver l p)) (ap (λ (m : ℕ). bit m l) z ∙ bit-zero l))

  -- The nearest that does.
  module _ (some-earlier : mask_by t reserver ≡ 0 → ⊥) (l : ℕ) (q : l ≡ highest (mask_by t reserver)) where
    top : (bit (mask_by t reserver) l ≡ true) × ((k : ℕ) → l < k → bit (mask_by t reserver) k ≡ false)
    unfolding mask_by
    top =
        let h = highest-set (mask_by t reserver) (omega (arith, some-earlier)) (mask-below-lt reserver n 32 room) in
        (ap (bit (mask_by t reserver)) q ∙ h.1, λ k i. h.2 k (omega arith))

    top-is : (ltb l n && reserver l) ≡ true
    top-is = sym (bits_of t reserver l) ∙ top.0

    pub nearest-event : l < n
    nearest-event = ltb-true l n (and_l (ltb l n) _ top-is)

    earlier : po t l v ≡ true
    earlier = and_r (reserving t l) _ (and_r (ltb l n) _ top-is)

    -- it is an LR, and v an SC: they are paired
    pub nearest-paired : eqb (kind t v) sc ≡ true → eqb (kind t l) lr ≡ true → paired t l v ≡ true
    unfolding paired reserves between
    nearest-paired s k =
        rw (earlier, s, k) (ap not (some-none n (reserves t l v) (λ m i. is_false _ (λ h.
        let p : po t l m ≡ true = search (and_l, and_r) in
        let d : po t m v ≡ true = search (and_l, and_r) in
        not-either _ (reserver-bit m i (and_both (reserving t m) _ (and_r (po t l m && po t m v) _ h) d)) (top.1 m (po-less t l m p))))))

    -- it is none: nothing is paired with v
    pub nearest-unpaired : eqb (kind t l) lr ≡ false → (k : ℕ) → k < n → paired t k v ≡ false
    unfolding paired reserves between
    nearest-unpaired o k i = is_false _ (λ p.
        let a = paired-parts t k v p in
        ⊎_elim (λ (e : k ≡ l). not-either _ (ap (λ (x : ℕ). eqb (kind t x) lr) (sym e) ∙ a.1) o)
        (⊎_elim (λ c. not-either _ (is-between k a c)
        (none-at n (reserves t k v) l (not-true _ (and_r (po t k v && eqb (kind t k) lr && eqb (kind t v) sc) _ p)) nearest-event))
        (λ c. not-either _ (reserver-bit k i (paired-reserver k p)) (top.1 k c)))
        (cases k))
      where
        cases : (k : ℕ) → (k ≡ l) ⊎ ((k < l) ⊎ (l < k))
        cases k = go (ltb k l) (ltb l k) refl refl
          where
            go : (b c : Bool) → ltb k l ≡ b → ltb l k ≡ c → (k ≡ l) ⊎ ((k < l) ⊎ (l < k))
            go true c h j = inr (inl (ltb-true k l h))
            go false true h j = inr (inr (ltb-true l k j))
            go false false h j = inl (omega (arith, ltb-false k l h, ltb-false l k j))

        is-between : (k : ℕ) → (po t k v ≡ true) × (eqb (kind t k) lr ≡ true) × (eqb (kind t v) sc ≡ true) → k < l →
            reserves t k v l ≡ true
        is-between k a c =
            rw (is-po t k l c (po-hart t k v a.0 ∙ sym (po-hart t l v earlier)), earlier)
            (and_l (reserving t l) _ (and_r (ltb l n) _ top-is))
