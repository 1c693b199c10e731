-- Laws of the masks that run along a table's events: what one more event passed makes of them.
use Prim.Native.Nat.{ℕ, ◌+◌, ◌^◌, ◌<◌}
use mathlib.Core.Path.{◌≡◌, refl, sym, ap, ap₂, ◌∙◌}
use mathlib.Core.Bool.{Bool, true, false, cond, not, ◌&&◌, ◌||◌, and_comm, and-true, and-false, or-true, or-false}
use native.Mathlib.Omega.{arith}
use lib.Dec.{eqb, ltb}
use lib.ListN.{get_or}
use lib.Bits.{bit_and, bit_or, bit_xor}
use borrow.Author.Tests.{ltb-true, lt-ltb, le-ltb, eqb-true, eqb-false}
use Rattle.lists.specs.Below.{up_from, below, some}
use Rattle.lists.specs.Lists.{keep}
use Rattle.lists.proofs.BoolLaws.{bool-ext}
use Rattle.lists.proofs.SomeLaws.{some-none, some_more}
use Rattle.masks.specs.Bit.{bit}
use Rattle.masks.specs.MaskOf.{mask_of}
use Rattle.masks.proofs.BitLaws.{bit-or}
use Rattle.masks.proofs.MaskOfLaws.{mask_below}
use Rattle.masks.proofs.GatherLaws.{bit-if, gather-more, mask-none}
use Rattle.masks.proofs.SetLaws.{bit-taken, bit-without, marks-own, marks-set, set_is, set_same, set-within, set-or, set_if}
use Rattle.edition.specs.Limits.{max_harts}
use Rattle.table.specs.declared.Event.{Event}
use Rattle.table.specs.declared.Table.{Table}
use Rattle.table.specs.Events.{event, kind, hart, reads, writes, memory, po, lr, fence, fencetso}
use Rattle.table.specs.Annotations.{flags, address_depends, pr, pw, sr, sw}
use Rattle.event_sets.specs.declared.Sets.{Sets}
use Rattle.event_sets.specs.Sets.{set_of, hart_set, sets_of}
use Rattle.event_sets.proofs.SetsLaws.{hart-at}
use Rattle.precedence.specs.declared.Passed.{Passed}
use Rattle.precedence.specs.Passed.{earlier, addressed, precedes, before_reads, before_writes, fenced_reads, fenced_writes}
use Rattle.precedence.specs.Passed.{reserving, reserved, passed_at}

-- a mask that is taken if a test passes, of the same test and mask
pub taken_as : {m x y : ℕ} {b d : Bool} → m ≡ cond b x 0 → b ≡ d → x ≡ y → m ≡ cond d y 0
taken_as e f g = e ∙ ap₂ (λ (p : Bool) (q : ℕ). cond p q 0) f g

-- masks with the same fields are the same
pub passed-same : {m m' a a' r r' w w' l l' : ℕ} → m ≡ m' → a ≡ a' → r ≡ r' → w ≡ w' → l ≡ l' →
    ◌≡◌ {A = Passed} (record { memory = m; addressed = a; before_reads = r; before_writes = w; reserved = l })
    (record { memory = m'; addressed = a'; before_reads = r'; before_writes = w'; reserved = l' })
passed-same e f g h i = cc

module _ (t : Table) where
  abbrev n : ℕ
  n = t.count

  -- before the first event nothing is passed
  pub none_passed : record { memory = 0; addressed = 0; before_reads = 0; before_writes = 0; reserved = 0 } ≡ passed_at t 0
  unfolding passed_at mask_of up_from addressed fenced_reads fenced_writes reserved
  none_passed =
      passed-same refl
      (none (λ m a. earlier t m a && memory t m && address_depends t m a))
      (none (λ f a. earlier t f a && before_reads t f a))
      (none (λ f a. earlier t f a && before_writes t f a))
      (sym (mask-none (reserved t 0) n (λ a. rw (le-ltb a 0 (omega arith)) refl)))
    where
      none : (g : ℕ → ℕ → Bool) → 0 ≡ set_of t (λ a. some 0 (λ m. g m a))
      none g = sym (mask-none (λ a. some 0 (λ m. g m a)) n (λ a. some-none 0 (λ m. g m a) (λ m l. absurd (omega arith))))

  -- the memory events passed that are of k's hart
  pub earlier-is : (s : Sets) (p : Passed) (e : Event) (k : ℕ) → s ≡ sets_of t → p ≡ passed_at t k → e ≡ event t k → e.hart < max_harts →
      bit_and (get_or s.harts e.hart 0) p.memory ≡ set_of t (earlier t k)
  unfolding passed_at earlier po hart
  earlier-is s p e k hs hp he h =
      ap₂ bit_and (hart-at t s hs e.hart h ∙ ap (λ (d : Event). hart_set t d.hart) he) (ap (λ (q : Passed). q.memory) hp)
      ∙ set-within n (λ a. eqb (hart t a) (hart t k)) {g = λ a. ltb a k && memory t a} (record { each = λ a l. mask_below (memory t) k a })
      ∙ set_same n (λ a. eqb (hart t a) (hart t k) && (ltb a k && memory t a)) (earlier t k)
      (λ a l. regroup (eqb (hart t a) (hart t k)) (ltb a k) (memory t a))
    where
      regroup : (h l m : Bool) → (h && (l && m)) ≡ (l && h && m)
      regroup true true m = refl
      regroup true false m = refl
      regroup false true m = refl
      regroup false false m = refl

  -- an LR is a memory event
  lr-memory : (a : ℕ) → eqb (kind t a) lr ≡ true → memory t a ≡ true
  unfolding memory reads
  lr-memory a h = rw (h, or-true (eqb (kind t a) 1 || eqb (kind t a) 3)) refl

  -- none of the events up to k stands behind it
  none-behind : (k : ℕ) → some (k + 1) (λ m. po t k m && reserving t m) ≡ false
  unfolding po
  none-behind k = some-none (k + 1) (λ m. po t k m && reserving t m) (λ m l. rw (le-ltb k m (omega arith)) refl)

  reserved-none : (k : ℕ) → reserved t k k ≡ false
  unfolding reserved
  reserved-none k = rw (le-ltb k k (omega arith)) refl

  reserved-here : (k : ℕ) → reserved t (k + 1) k ≡ eqb (kind t k) lr
  unfolding reserved
  reserved-here k = rw (lt-ltb k (k + 1) (omega arith), none-behind k) (and-true (eqb (kind t k) lr))

  -- an LR before k stays unless k is an LR or SC of its hart
  reserved-other : (k a : ℕ) → eqb k a ≡ false → reserved t (k + 1) a ≡ (reserved t k a && not (reserving t k && earlier t k a))
  unfolding reserved earlier
  reserved-other k a q =
      rw (same, some_more k (λ m. po t a m && reserving t m))
      (stays (ltb a k) (eqb (kind t a) lr) (some k (λ m. po t a m && reserving t m)) (po t a k) (reserving t k) (memory t a) (lr-memory a))
    where
      same : ltb a (k + 1) ≡ ltb a k
      same =
          bool-ext (ltb a (k + 1)) (ltb a k) (λ h. lt-ltb a k (omega (arith, ltb-true a (k + 1) h, eqb-false k a q)))
          (λ h. lt-ltb a (k + 1) (omega (arith, ltb-true a k h)))

      stays : (l r s p v m : Bool) → (r ≡ true → m ≡ true) → (l && r && not (s || p && v)) ≡ (l && r && not s && not (v && (p && m)))
      stays true true true p v m h = refl
      stays true true false true true m h = sym (ap not (h refl))
      stays true true false true false m h = refl
      stays true true false false true m h = refl
      stays true true false false false m h = refl
      stays true false s p v m h = refl
      stays false r s p v m h = refl

  module _ (k : ℕ) where
    -- the predecessor set of a fence
    pub precedes-is : (r w m : ℕ) → r ≡ cond (pr (flags t k)) (set_of t (reads t)) 0 → w ≡ cond (pw (flags t k)) (set_of t (writes t)) 0 →
        m ≡ cond (eqb (kind t k) fence) (bit_or r w) 0 → m ≡ set_of t (precedes t k)
    unfolding precedes
    precedes-is r w m e f g =
        let p = pr (flags t k) in
        let q = pw (flags t k) in
        let sets = ap₂ bit_or (e ∙ set_if n p (reads t)) (f ∙ set_if n q (writes t)) ∙ set-or n (λ a. p && reads t a) (λ a. q && writes t a) in
        g ∙ ap (λ (x : ℕ). cond (eqb (kind t k) fence) x 0) sets ∙ set_if n (eqb (kind t k) fence) (λ a. p && reads t a || q && writes t a)
        ∙ set_same n (λ a. eqb (kind t k) fence && (p && reads t a || q && writes t a)) (precedes t k)
        (λ a l. ap₂ (λ (x y : Bool). eqb (kind t k) fence && (x || y)) (and_comm p (reads t a)) (and_comm q (writes t a)))

    -- what a fence puts before later events: its predecessor set if a flag is set, of a fence.tso those that pass f
    puts-is : (b : Bool) (f : ℕ → Bool) (v x : ℕ) → v ≡ cond b (set_of t (precedes t k)) 0 → x ≡ cond (eqb (kind t k) fencetso) (set_of t f) 0 →
        bit_or v x ≡ set_of t (λ a. precedes t k a && b || eqb (kind t k) fencetso && f a)
    puts-is b f v x e g =
        let o = eqb (kind t k) fencetso in
        ap₂ bit_or (e ∙ set_if n b (precedes t k)) (g ∙ set_if n o f) ∙ set-or n (λ a. b && precedes t k a) (λ a. o && f a)
        ∙ set_same n (λ a. b && precedes t k a || o && f a) (λ a. precedes t k a && b || o && f a)
        (λ a l. ap (λ (d : Bool). d || o && f a) (and_comm b (precedes t k a)))

    pub reads-is : (v x : ℕ) → v ≡ cond (sr (flags t k)) (set_of t (precedes t k)) 0 → x ≡ cond (eqb (kind t k) fencetso) (set_of t (reads t)) 0 →
        bit_or v x ≡ set_of t (before_reads t k)
    unfolding before_reads
    reads-is = puts-is (sr (flags t k)) (reads t)

    pub writes-is : (v x : ℕ) → v ≡ cond (sw (flags t k)) (set_of t (precedes t k)) 0 →
        x ≡ cond (eqb (kind t k) fencetso) (bit_or (set_of t (reads t)) (set_of t (writes t))) 0 → bit_or v x ≡ set_of t (before_writes t k)
    unfolding before_writes
    writes-is v x e g =
        puts-is (sw (flags t k)) (λ a. reads t a || writes t a) v x e
        (g ∙ ap (λ (y : ℕ). cond (eqb (kind t k) fencetso) y 0) (set-or n (reads t) (writes t)))

    -- one more memory event, if it is one
    pub memory-next : k < n → (v : ℕ) → v ≡ cond (memory t k) (2 ^ k) 0 → bit_or (passed_at t k).memory v ≡ (passed_at t (k + 1)).memory
    unfolding passed_at
    memory-next l v e = (gather-more (memory t) n k (mask_of (keep (memory t) (below k))) v (omega arith, refl) l e).1

    -- one event more that may come between: those that g says it of are joined
    join-next : (g : ℕ → ℕ → Bool) (v : ℕ) → v ≡ set_of t (g k) →
        bit_or (set_of t (λ a. some k (λ m. g m a))) v ≡ set_of t (λ a. some (k + 1) (λ m. g m a))
    join-next g v e =
        ap (bit_or (set_of t (λ a. some k (λ m. g m a)))) e ∙ set-or n (λ a. some k (λ m. g m a)) (g k)
        ∙ set_same n (λ a. some k (λ m. g m a) || g k a) (λ a. some (k + 1) (λ m. g m a)) (λ a l. sym (some_more k (λ m. g m a)))

    module _ (own : ℕ) (o : own ≡ set_of t (earlier t k)) where
      pub addressed-next : (v : ℕ) → v ≡ cond (memory t k) (bit_and own (event t k).addr) 0 →
          bit_or (passed_at t k).addressed v ≡ (passed_at t (k + 1)).addressed
      unfolding passed_at addressed address_depends
      addressed-next v e =
          join-next (λ m a. earlier t m a && memory t m && address_depends t m a) v
          (e ∙ ap (λ (x : ℕ). cond (memory t k) x 0)
          (ap (λ (x : ℕ). bit_and x (event t k).addr) o ∙ set-within n (earlier t k) (marks-own (event t k).addr))
          ∙ set_if n (memory t k) (λ a. earlier t k a && address_depends t k a)
          ∙ set_same n (λ a. memory t k && (earlier t k a && address_depends t k a)) (λ a. earlier t k a && memory t k && address_depends t k a)
          (λ a l. regroup (memory t k) (earlier t k a) (address_depends t k a)))
        where
          regroup : (m e b : Bool) → (m && (e && b)) ≡ (e && m && b)
          regroup true true b = refl
          regroup true false b = refl
          regroup false true b = refl
          regroup false false b = refl

      -- those that a fence puts before later events
      fence-next : (g : ℕ → ℕ → Bool) (v : ℕ) → v ≡ set_of t (g k) →
          bit_or (set_of t (λ a. some k (λ f. earlier t f a && g f a))) (bit_and own v) ≡ set_of t (λ a. some (k + 1) (λ f. earlier t f a && g f a))
      fence-next g v e =
          join-next (λ f a. earlier t f a && g f a) (bit_and own v) (ap₂ bit_and o e ∙ set-within n (earlier t k) (marks-set n (g k)))

      pub reads-next : (v : ℕ) → v ≡ set_of t (before_reads t k) →
          bit_or (passed_at t k).before_reads (bit_and own v) ≡ (passed_at t (k + 1)).before_reads
      unfolding passed_at fenced_reads
      reads-next = fence-next (before_reads t)

      pub writes-next : (v : ℕ) → v ≡ set_of t (before_writes t k) →
          bit_or (passed_at t k).before_writes (bit_and own v) ≡ (passed_at t (k + 1)).before_writes
      unfolding passed_at fenced_writes
      writes-next = fence-next (before_writes t)

      -- the LRs of k's hart are left behind if it is an LR or SC, and it is one more if it is an LR
      pub reserved-next : k < n → (x v : ℕ) → x ≡ cond (reserving t k) own 0 → v ≡ cond (eqb (kind t k) lr) (2 ^ k) 0 →
          bit_or (bit_xor (passed_at t k).reserved (bit_and (passed_at t k).reserved x)) v ≡ (passed_at t (k + 1)).reserved
      unfolding passed_at
      reserved-next l x v e f =
          set_is n (bit_or (bit_xor had (bit_and had x)) v) (reserved t (k + 1))
          (λ a. bit-or (bit_xor had (bit_and had x)) v a
          ∙ ap₂ (λ (b d : Bool). b || d)
          (bit-without had x a ∙ ap₂ (λ (b d : Bool). b && not d) (mask_below (reserved t k) n a) (behind a))
          (ap (λ (y : ℕ). bit y a) f ∙ bit-if (eqb (kind t k) lr) k a)
          ∙ go a (eqb k a) refl)
        where
          had : ℕ
          had = set_of t (reserved t k)

          behind : (a : ℕ) → bit x a ≡ (reserving t k && (ltb a n && earlier t k a))
          behind a =
              ap (λ (y : ℕ). bit y a) e ∙ bit-taken (reserving t k) own a
              ∙ ap (λ (b : Bool). reserving t k && b) (ap (λ (y : ℕ). bit y a) o ∙ mask_below (earlier t k) n a)

          without : (n r s e l : Bool) → ((n && r) && not (s && (n && e)) || l && false) ≡ (n && (r && not (s && e)))
          without true r s e l = ap (λ (b : Bool). r && not (s && e) || b) (and-false l) ∙ or-false (r && not (s && e))
          without false r s e l = and-false l

          go : (a : ℕ) (b : Bool) → eqb k a ≡ b →
              ((ltb a n && reserved t k a) && not (reserving t k && (ltb a n && earlier t k a)) || eqb (kind t k) lr && b)
              ≡ (ltb a n && reserved t (k + 1) a)
          go a true q =
              rw (sym (eqb-true k a q), reserved-none k, reserved-here k, and-false (ltb k n), lt-ltb k n l) (and-true (eqb (kind t k) lr))
          go a false q =
              rw (reserved-other k a q) (without (ltb a n) (reserved t k a) (reserving t k) (earlier t k a) (eqb (kind t k) lr))
