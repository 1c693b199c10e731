-- The rows of windows and their ground by sets of events.
use Prim.Native.Nat.{ℕ, suc, ◌^◌, ◌≤◌, ◌<◌}
use native.Mathlib.Omega.{arith}
use mathlib.Core.Path.{◌≡◌, refl, sym, ap, ap₂, ◌∙◌}
use mathlib.Core.Bool.{Bool, true, false, cond, not, ◌&&◌, ◌||◌, or-false, and-true, and-false}
use lib.Bits.{bit_and}
use lib.Count.{count_trailing_zeros}
use lib.Dec.{eqb, ltb}
use borrow.Author.Tests.{lt-ltb, ltb-true, ltb-false, eqb-true, eq-eqb}
use Rattle.lists.specs.Below.{some}
use Rattle.lists.proofs.BoolLaws.{and_l, and_r, bool-ext, not-either, is_false, is_true, eqb_comm}
use Rattle.lists.proofs.SomeLaws.{some_at, some-found, some-none}
use Rattle.masks.specs.Bit.{bit}
use Rattle.masks.specs.Parts.{from, under}
use Rattle.masks.proofs.BitLaws.{bit-zero}
use Rattle.masks.proofs.PowerLaws.{bits-same, trailing-lowest}
use Rattle.masks.proofs.MaskOfLaws.{mask-below-lt}
use Rattle.masks.proofs.GatherLaws.{mask-none}
use Rattle.masks.proofs.PartLaws.{below_or, bit-under}
use Rattle.table.specs.declared.Table.{Table}
use Rattle.table.specs.Events.{capacity, lr, reading_kind, kind, hart, location, reads, writes, same_location, po, between, paired}
use Rattle.table.proofs.ProgramOrderLaws.{po-less, po-hart, is-po}
use Rattle.placing.specs.Guards.{rereads}
use Rattle.placing.proofs.GoodTableLaws.{paired-once, paired-parts}
use Rattle.order_facts.specs.Facts.{mask_by, own_writer, opens, grounds}
use Rattle.order_facts.proofs.WriteLaws.{pair-writes}
use Rattle.order_facts.proofs.RowLaws.{bits_of, mask-same, mask-both, mask_one}
use Rattle.order_facts.proofs.RowLaws.{hart_of, place_of, later-set, own_row}

-- the tests of a window in the order of the sets
sorted : (p r s o : Bool) → (p && true && r && s && not o || false) ≡ (r && s && p && not o)
sorted true true true true = refl
sorted true true true false = refl
sorted true true false o = refl
sorted true false s o = refl
sorted false true true o = refl
sorted false true false o = refl
sorted false false s o = refl

module _ (t : Table) (room : t.count ≤ capacity) (v : ℕ) where
  abbrev n : ℕ
  n = t.count

  -- a mask of events that isn't empty has an event
  mask-room : (f : ℕ → Bool) → mask_by t f < 2 ^ 32
  unfolding mask_by
  mask-room f = mask-below-lt f n 32 room

  none_in : (f : ℕ → Bool) → mask_by t f ≡ 0 → (k : ℕ) → k < n → f k ≡ false
  none_in f z k l = is_false _ (λ h.
      not-either _ (bits_of t f k ∙ rw (lt-ltb k n l, h)) (ap (λ (m : ℕ). bit m k) z ∙ bit-zero k))

  -- b is a later reader of v's location, m a later writer
  abbrev pub rereader : ℕ → Bool
  rereader b = reads t b && same_location t b v && po t v b

  abbrev pub overwriter : ℕ → Bool
  overwriter m = writes t m && same_location t m v && po t v m

  pub rereaders-set : mask_by t rereader ≡ bit_and (bit_and (mask_by t (reads t)) (place_of t v)) (from (suc v) (hart_of t v))
  rereaders-set =
      mask-both t (λ b. reads t b && same_location t b v) (po t v)
      ∙ ap₂ bit_and (mask-both t (reads t) (λ b. same_location t b v)) (later-set t v)

  pub overwriters-set : mask_by t overwriter ≡ bit_and (bit_and (mask_by t (writes t)) (place_of t v)) (from (suc v) (hart_of t v))
  overwriters-set =
      mask-both t (λ b. writes t b && same_location t b v) (po t v)
      ∙ ap₂ bit_and (mask-both t (writes t) (λ b. same_location t b v)) (later-set t v)

  not-paired : writes t v ≡ false → (l : ℕ) → paired t l v ≡ false
  not-paired w l = is_false _ (λ p. not-either _ (pair-writes t l v p) w)

  -- Of a reader that doesn't write.
  module _ (w : writes t v ≡ false) (r : reads t v ≡ true) where
    abbrev over : ℕ → Bool
    over b = some n (λ m. between t v m b && writes t m && same_location t m v)

    opens-is : (b : ℕ) → opens t v b ≡ (rereader b && not (over b))
    unfolding opens rereads same_location
    opens-is b =
        rw (w, r, not-paired w b, eqb_comm (location t v) (location t b))
        (sorted (po t v b) (reads t b) (same_location t b v) (over b))

    -- a writer between is a later writer, and is earlier than b
    over-found : (b : ℕ) → over b ≡ true → (m : ℕ) × (m < n) × (overwriter m ≡ true) × (m < b)
    unfolding between
    over-found b h =
        let f = some-found n (λ m. between t v m b && writes t m && same_location t m v) h in
        let q = f.2 in
        let p : po t v f.0 ≡ true = search (and_l, and_r) in
        let u : writes t f.0 ≡ true = search (and_l, and_r) in
        let a : same_location t f.0 v ≡ true = search (and_l, and_r) in
        let d : po t f.0 b ≡ true = search (and_l, and_r) in
        (f.0, f.1, rw (u, a) p, po-less t f.0 b d)

    -- no later writer: all later readers
    pub window-all : mask_by t overwriter ≡ 0 → mask_by t (opens t v) ≡ mask_by t rereader
    window-all z = mask-same t (opens t v) rereader (λ b l.
        opens-is b ∙ ap (λ (o : Bool). rereader b && not o)
        (is_false _ (λ h. let f = over-found b h in not-either _ f.2 (none_in overwriter z f.0 f.1)))
        ∙ and-true (rereader b))

    -- else those up to the first later writer s
    module _ (some-later : mask_by t overwriter ≡ 0 → ⊥) (s : ℕ) (q : s ≡ count_trailing_zeros 32 (mask_by t overwriter)) where
      first : (bit (mask_by t overwriter) s ≡ true) × ((j : ℕ) → j < s → bit (mask_by t overwriter) j ≡ false)
      first =
          let f = trailing-lowest 32 (mask_by t overwriter) (omega (arith, some-later)) (mask-room overwriter) in
          (ap (bit (mask_by t overwriter)) q ∙ f.1, λ j l. f.2 j (omega arith))

      first-is : (s < n) × (overwriter s ≡ true)
      first-is =
          let h = sym (bits_of t overwriter s) ∙ first.0 in
          (ltb-true s n (and_l (ltb s n) _ h), and_r (ltb s n) _ h)

      over-is : (b : ℕ) → rereader b ≡ true → over b ≡ ltb s b
      unfolding between
      over-is b h = bool-ext (over b) (ltb s b) there back
        where
          there : over b ≡ true → ltb s b ≡ true
          there o = let f = over-found b o in is_true _ (λ c.
              not-either _ (bits_of t overwriter f.0 ∙ rw (lt-ltb f.0 n f.1, f.2))
              (first.1 f.0 (omega (arith, ltb-false s b c, f.3))))

          back : ltb s b ≡ true → over b ≡ true
          back c =
              let u : writes t s ≡ true = and_l _ _ (and_l _ (po t v s) first-is.1) in
              let a : same_location t s v ≡ true = and_r (writes t s) _ (and_l _ (po t v s) first-is.1) in
              let p : po t v s ≡ true = and_r (writes t s && same_location t s v) _ first-is.1 in
              let d : po t v b ≡ true = and_r (reads t b && same_location t b v) _ h in
              some_at n (λ m. between t v m b && writes t m && same_location t m v) s first-is.0
              (rw (p, is-po t s b (ltb-true s b c) (sym (po-hart t v s p) ∙ po-hart t v b d), u) a)

      pub window-first : mask_by t (opens t v) ≡ under (suc s) (mask_by t rereader)
      window-first = bits-same _ _ (λ b.
          bits_of t (opens t v) b ∙ ap (λ (x : Bool). ltb b n && x) (opens-is b ∙ go b (rereader b) refl)
          ∙ swap (ltb b n) (ltb b (suc s)) (rereader b)
          ∙ ap (λ (x : Bool). ltb b (suc s) && x) (sym (bits_of t rereader b)) ∙ sym (bit-under (suc s) (mask_by t rereader) b))
        where
          go : (b : ℕ) (x : Bool) → rereader b ≡ x → (x && not (over b)) ≡ (ltb b (suc s) && x)
          go b true h = ap not (over-is b h) ∙ below_or (suc s) b ∙ sym (and-true (ltb b (suc s)))
          go b false h = sym (and-false (ltb b (suc s)))

          swap : (a b c : Bool) → (a && (b && c)) ≡ (b && (a && c))
          swap true b c = refl
          swap false true c = refl
          swap false false c = refl

  -- neither reads nor writes
  pub window-none : writes t v ≡ false → reads t v ≡ false → mask_by t (opens t v) ≡ 0
  unfolding opens rereads mask_by
  window-none w r = mask-none (opens t v) n (λ b. rw (w, r, not-paired w b, and-false (po t v b)))

  -- of a reader that doesn't write the ground are its own writers
  pub ground-own : writes t v ≡ false → mask_by t (grounds t v) ≡ mask_by t (own_writer t v)
  unfolding grounds
  ground-own w = mask-same t (grounds t v) (own_writer t v) (λ a l.
      rw (w, some-none n (λ l. paired t l v && own_writer t l a) (λ k i. rw (not-paired w k)))
      (or-false (own_writer t v a)))

  -- Of a writer: the LR that is paired with it.
  module _ (w : writes t v ≡ true) where
    opens-paired : (b : ℕ) → opens t v b ≡ paired t b v
    unfolding opens
    opens-paired b = rw w

    -- l is paired with it
    pub window-pair : (l : ℕ) → l < n → paired t l v ≡ true → mask_by t (opens t v) ≡ 2 ^ l
    window-pair l i p =
        mask-same t (opens t v) (λ b. eqb b l) (λ b j. opens-paired b
        ∙ bool-ext (paired t b v) (eqb b l) (λ q. eq-eqb b l (paired-once t b l v j i q p))
        (λ q. ap (λ (x : ℕ). paired t x v) (eqb-true b l q) ∙ p))
        ∙ mask_one t l i

    pub ground-pair : (l : ℕ) → l < n → paired t l v ≡ true → mask_by t (grounds t v) ≡ mask_by t (own_writer t l)
    unfolding grounds
    ground-pair l i p = mask-same t (grounds t v) (own_writer t l) (λ a j. rw w
        (bool-ext _ _
        (λ h. let f = some-found n (λ l. paired t l v && own_writer t l a) h in
        ap (λ (x : ℕ). own_writer t x a) (sym (paired-once t f.0 l v f.1 i (and_l (paired t f.0 v) _ f.2) p))
        ∙ and_r (paired t f.0 v) _ f.2)
        (λ h. some_at n (λ l. paired t l v && own_writer t l a) l i (rw (p, h)))))

    -- its window tells which
    pub paired-by-window : (mask_by t (opens t v) ≡ 0 → ⊥) → (l : ℕ) → l ≡ count_trailing_zeros 32 (mask_by t (opens t v)) →
        (l < n) × (paired t l v ≡ true)
    paired-by-window z l q =
        let f = trailing-lowest 32 (mask_by t (opens t v)) (omega (arith, z)) (mask-room (opens t v)) in
        let h = sym (bits_of t (opens t v) l) ∙ ap (bit (mask_by t (opens t v))) q ∙ f.1 in
        (ltb-true l n (and_l (ltb l n) _ h), sym (opens-paired l) ∙ and_r (ltb l n) _ h)

    -- the own writers of an LR at v's location, by v's sets
    pub ground-set : (l : ℕ) → l < n → paired t l v ≡ true → same_location t l v ≡ true → mask_by t (grounds t v)
        ≡ bit_and (bit_and (mask_by t (writes t)) (place_of t v)) (under l (hart_of t v))
    unfolding reads same_location
    ground-set l i p s =
        let q = paired-parts t l v p in
        ground-pair l i p ∙ own_row t l
        ∙ ap (λ (b : Bool). cond b (bit_and (bit_and (mask_by t (writes t)) (place_of t l)) (under l (hart_of t l))) 0)
        (ap reading_kind (eqb-true (kind t l) lr q.1))
        ∙ ap₂ (λ (x h : ℕ). bit_and (bit_and (mask_by t (writes t)) (mask_by t (λ k. eqb (location t k) x)))
        (under l (mask_by t (λ k. eqb (hart t k) h))))
        (eqb-true (location t l) (location t v) s) (po-hart t l v q.0)

    -- none is
    pub unpaired-by-window : mask_by t (opens t v) ≡ 0 → (l : ℕ) → l < n → paired t l v ≡ false
    unpaired-by-window z l i = sym (opens-paired l) ∙ none_in (opens t v) z l i

    pub window-unpaired : ((l : ℕ) → l < n → paired t l v ≡ false) → mask_by t (opens t v) ≡ 0
    unfolding mask_by
    window-unpaired h =
        mask-same t (opens t v) (λ b. false) (λ b j. opens-paired b ∙ h b j) ∙ mask-none (λ b. false) n (λ b. refl)

    pub ground-unpaired : ((l : ℕ) → l < n → paired t l v ≡ false) → mask_by t (grounds t v) ≡ 0
    unfolding grounds mask_by
    ground-unpaired h =
        mask-same t (grounds t v) (λ b. false)
        (λ a j. rw (w, some-none n (λ l. paired t l v && own_writer t l a) (λ l i. rw (h l i))))
        ∙ mask-none (λ b. false) n (λ b. refl)
