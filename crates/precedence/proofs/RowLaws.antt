-- Laws of a row of the masks: what its formula takes of the events before b is what the steady rules put before b.
use Prim.Native.Nat.{ℕ, ◌≤◌, ◌<◌}
use mathlib.Core.Path.{◌≡◌, refl, sym, ap, ap₂, ◌∙◌}
use mathlib.Core.Bool.{Bool, true, false, cond, not, ◌&&◌, ◌||◌, false≢true}
use mathlib.Core.Bool.{and-true, and-false, and_assoc, and_comm, or-true, or-false, or_self_left}
use mathlib.Core.List.{[], ◌∷◌}
use native.Mathlib.Omega.{arith}
use lib.Dec.{eqb, ltb}
use lib.Bits.{bit_and, bit_or}
use borrow.Author.Tests.{ltb-true, lt-ltb, eqb-true, eq-eqb}
use Rattle.lists.specs.Below.{some}
use Rattle.lists.specs.Lists.{any}
use Rattle.lists.proofs.BoolLaws.{bool-ext, and_l, and_r, and_both}
use Rattle.lists.proofs.SomeLaws.{some_at, some-found, some_same, some_or, some-and}
use Rattle.masks.specs.Bit.{bit}
use Rattle.masks.proofs.GatherLaws.{mask-none}
use Rattle.masks.proofs.SetLaws.{marks-own, marks-as, marks-or, marks-if, marks-set, set_same, set-within}
use Rattle.table.specs.declared.Table.{Table}
use Rattle.table.specs.Events.{event, kind, hart, location, reads, writes, memory, same_location, po, between, reserves, paired}
use Rattle.table.specs.Events.{lr, sc, fencetso}
use Rattle.table.specs.Annotations.{flags, acquire, release, rcsc, address_depends, data_depends, control_depends, sr, sw}
use Rattle.model.specs.Rules.{holds, fence_orders, tso_orders, static_rules, may_order, static_ppo}
use Rattle.model.specs.Rules.{rule1, rule4, rule5, rule6, rule7, rule8, rule9, rule10, rule11, rule13}
use Rattle.event_sets.specs.Sets.{set_of, location_set}
use Rattle.precedence.specs.Precedence.{predecessor_mask}
use Rattle.precedence.specs.Passed.{earlier, addressed, precedes, before_reads, before_writes, fenced_reads, fenced_writes}
use Rattle.precedence.specs.Passed.{reserving, reserved, passed_at}

-- what a fence orders, apart for what reads and what writes behind it, of an event that does one or both
apart : (f o x y r w s v : Bool) → (r || w) ≡ true →
    (f && (r && s || w && v) || o && (x || y && w)) ≡ (r && (f && s || o && x) || w && (f && v || o && (x || y)))
apart f o x y false false s v h = absurd (false≢true h)
apart f o x y false true s v h = ap (λ (z : Bool). f && v || o && (x || z)) (and-true y)
apart f o x y true false s v h = rw (or-false s, and-false y, or-false x) (sym (or-false (f && s || o && x)))
apart true o x y true true true v h = refl
apart true true x y true true false true h = sym (or-true x)
apart true false x y true true false true h = refl
apart true true x y true true false false h = ap (λ (z : Bool). x || z) (and-true y) ∙ sym (or_self_left x y)
apart true false x y true true false false h = refl
apart false true x y true true s v h = ap (λ (z : Bool). x || z) (and-true y) ∙ sym (or_self_left x y)
apart false false x y true true s v h = refl

-- the ten rules in their order, the fourth in two parts
listed : (r1 r4 w4 r5 r6 r7 r8 r9 r10 r11 r13 : Bool) → (r1 || r4 || w4 || r5 || r6 || r7 || r8 || r9 || r10 || r11 || r13)
    ≡ any holds (r1 ∷ (r4 || w4) ∷ r5 ∷ r6 ∷ r7 ∷ r8 ∷ r9 ∷ r10 ∷ r11 ∷ r13 ∷ [])
listed true r4 w4 r5 r6 r7 r8 r9 r10 r11 r13 = refl
listed false true w4 r5 r6 r7 r8 r9 r10 r11 r13 = refl
listed false false true r5 r6 r7 r8 r9 r10 r11 r13 = refl
listed false false false true r6 r7 r8 r9 r10 r11 r13 = refl
listed false false false false true r7 r8 r9 r10 r11 r13 = refl
listed false false false false false true r8 r9 r10 r11 r13 = refl
listed false false false false false false true r9 r10 r11 r13 = refl
listed false false false false false false false true r10 r11 r13 = refl
listed false false false false false false false false true r11 r13 = refl
listed false false false false false false false false false true r13 = refl
listed false false false false false false false false false false r13 = sym (or-false r13)

module _ (t : Table) (b : ℕ) where
  -- of what is between a and b only what stands before b and behind a on a's hart is asked
  between-some : (a : ℕ) (f : ℕ → Bool) → b ≤ t.count → po t a b ≡ true →
      some t.count (λ m. between t a m b && f m) ≡ some b (λ m. po t a m && f m)
  unfolding between po
  between-some a f l p =
      bool-ext (some t.count (λ m. between t a m b && f m)) (some b (λ m. po t a m && f m)) down up
    where
      down : some t.count (λ m. between t a m b && f m) ≡ true → some b (λ m. po t a m && f m) ≡ true
      down h =
          let r = some-found t.count (λ m. between t a m b && f m) h in
          let m = r.0 in
          let mid = and_l (between t a m b) (f m) r.2 in
          some_at b (λ k. po t a k && f k) m (ltb-true m b (and_l (ltb m b) (eqb (hart t m) (hart t b)) (and_r (po t a m) (po t m b) mid)))
          (and_both (po t a m) (f m) (and_l (po t a m) (po t m b) mid) (and_r (between t a m b) (f m) r.2))

      up : some b (λ m. po t a m && f m) ≡ true → some t.count (λ m. between t a m b && f m) ≡ true
      up h =
          let r = some-found b (λ m. po t a m && f m) h in
          let m = r.0 in
          let first = and_l (po t a m) (f m) r.2 in
          let one = eqb-true (hart t a) (hart t m) (and_r (ltb a m) (eqb (hart t a) (hart t m)) first) in
          let other = eqb-true (hart t a) (hart t b) (and_r (ltb a b) (eqb (hart t a) (hart t b)) p) in
          let last = and_both (ltb m b) (eqb (hart t m) (hart t b)) (lt-ltb m b r.1) (eq-eqb (hart t m) (hart t b) (sym one ∙ other)) in
          some_at t.count (λ k. between t a k b && f k) m (omega (arith, r.1))
          (and_both (between t a m b) (f m) (and_both (po t a m) (po t m b) first last) (and_r (po t a m) (f m) r.2))

  -- a is earlier on b's hart, and both are memory events
  module _ (l : b < t.count) (mem : memory t b ≡ true) (a : ℕ) (e : earlier t b a ≡ true) where
    first : (po t a b ≡ true) × (memory t a ≡ true)
    unfolding earlier
    first = (and_l (po t a b) (memory t a) e, and_r (po t a b) (memory t a) e)

    near : ltb a b ≡ true
    unfolding po
    near = and_l (ltb a b) (eqb (hart t a) (hart t b)) first.0

    -- what fence f orders
    fence-apart : (f : ℕ) → (fence_orders t a f b || tso_orders t a f b)
        ≡ (reads t b && before_reads t f a || writes t b && before_writes t f a)
    unfolding fence_orders tso_orders before_reads before_writes precedes memory
    fence-apart f =
        apart (precedes t f a) (eqb (kind t f) fencetso) (reads t a) (writes t a) (reads t b) (writes t b) (sr (flags t f)) (sw (flags t f)) mem

    rule4-is : rule4 t a b ≡ (reads t b && fenced_reads t b a || writes t b && fenced_writes t b a)
    unfolding rule4 earlier fenced_reads fenced_writes
    rule4-is =
        between-some a (λ f. fence_orders t a f b || tso_orders t a f b) (omega arith) first.0
        ∙ some_same b (λ f. po t a f && (fence_orders t a f b || tso_orders t a f b))
        (λ f. reads t b && (earlier t f a && before_reads t f a) || writes t b && (earlier t f a && before_writes t f a))
        (λ f i. ap (λ (s : Bool). po t a f && s) (fence-apart f)
        ∙ spread (po t a f) (memory t a) (reads t b) (before_reads t f a) (writes t b) (before_writes t f a) first.1)
        ∙ some_or b (λ f. reads t b && (earlier t f a && before_reads t f a)) (λ f. writes t b && (earlier t f a && before_writes t f a))
        ∙ ap₂ (λ (s u : Bool). s || u) (some-and b (reads t b) (λ f. earlier t f a && before_reads t f a))
        (some-and b (writes t b) (λ f. earlier t f a && before_writes t f a))
      where
        spread : (p m r x w y : Bool) → m ≡ true → (p && (r && x || w && y)) ≡ (r && (p && m && x) || w && (p && m && y))
        spread true m r x w y h = rw h refl
        spread false m r x w y h = rw (and-false r, and-false w) refl

    rule8-is : rule8 t a b ≡ (eqb (kind t b) sc && reserved t b a)
    unfolding rule8 paired reserves reserved reserving
    rule8-is =
        rw (between-some a (λ m. eqb (kind t m) lr || eqb (kind t m) sc) (omega arith) first.0, first.0, near)
        (swap (eqb (kind t a) lr) (eqb (kind t b) sc) (not (some b (λ m. po t a m && (eqb (kind t m) lr || eqb (kind t m) sc)))))
      where
        swap : (x y z : Bool) → (x && y && z) ≡ (y && (x && z))
        swap true true z = refl
        swap true false z = refl
        swap false true z = refl
        swap false false z = refl

    rule13-is : rule13 t a b ≡ (writes t b && addressed t b a)
    unfolding rule13 earlier addressed
    rule13-is =
        ap (λ (s : Bool). writes t b && s)
        (some_same t.count (λ m. between t a m b && memory t m && address_depends t m a)
        (λ m. between t a m b && (memory t m && address_depends t m a))
        (λ m i. and_assoc (between t a m b) (memory t m) (address_depends t m a))
        ∙ between-some a (λ m. memory t m && address_depends t m a) (omega arith) first.0
        ∙ some_same b (λ m. po t a m && (memory t m && address_depends t m a)) (λ m. earlier t m a && memory t m && address_depends t m a)
        (λ m i. with-memory (po t a m) (memory t a) (memory t m) (address_depends t m a) first.1))
      where
        with-memory : (p m n d : Bool) → m ≡ true → (p && (n && d)) ≡ (p && m && n && d)
        with-memory true m n d h = rw h refl
        with-memory false m n d h = refl

  -- what the formula of b's row says of an event
  abbrev taken : ℕ → Bool
  taken a =
      writes t b && eqb (location t a) (location t b)
      || reads t b && fenced_reads t b a
      || writes t b && fenced_writes t b a
      || acquire t a
      || release t b && earlier t b a
      || rcsc t b && rcsc t a
      || eqb (kind t b) sc && reserved t b a
      || bit (event t b).addr a
      || bit (event t b).«data» a
      || writes t b && bit (event t b).ctrl a
      || writes t b && addressed t b a

  -- of an event earlier on b's hart that is what the steady rules say
  taken_is : b < t.count → memory t b ≡ true → (a : ℕ) → earlier t b a ≡ true → taken a ≡ any holds (static_rules t a b)
  unfolding static_rules rule1 same_location rule5 rule6 rule7 rule9 address_depends rule10 data_depends rule11 control_depends
  taken_is l mem a e =
      rw (rule4-is l mem a e, rule8-is l mem a e, rule13-is l mem a e, e, and-true (release t b), and_comm (rcsc t a) (rcsc t b))
      (listed (writes t b && eqb (location t a) (location t b)) (reads t b && fenced_reads t b a)
      (writes t b && fenced_writes t b a) (acquire t a) (release t b) (rcsc t b && rcsc t a)
      (eqb (kind t b) sc && reserved t b a) (bit (event t b).addr a) (bit (event t b).«data» a) (writes t b && bit (event t b).ctrl a)
      (writes t b && addressed t b a))

  -- what is no memory event has no predecessors
  pub row-none : memory t b ≡ false → 0 ≡ predecessor_mask t b
  unfolding predecessor_mask static_ppo may_order
  row-none h = sym (mask-none (λ a. static_ppo t a b) t.count (λ a. rw (h, and-false (po t a b && memory t a)) refl))

  module _ (l : b < t.count) (mem : memory t b ≡ true) where
    static-is : (a : ℕ) → (earlier t b a && taken a) ≡ static_ppo t a b
    unfolding static_ppo may_order earlier
    static-is a = rw (mem, and-true (po t a b && memory t a)) (go (earlier t b a) refl)
      where
        go : (v : Bool) → earlier t b a ≡ v → (v && taken a) ≡ (v && any holds (static_rules t a b))
        go true e = taken_is l mem a e
        go false e = refl

    -- the row of a memory event, of the masks that the rules take in their order
    pub row_is : {own m1 r4 w4 m5 m6 m7 m8 m9 m10 m11 m13 : ℕ} → own ≡ set_of t (earlier t b)
        → m1 ≡ cond (writes t b) (location_set t (location t b)) 0
        → r4 ≡ cond (reads t b) (passed_at t b).before_reads 0
        → w4 ≡ cond (writes t b) (passed_at t b).before_writes 0
        → m5 ≡ set_of t (acquire t)
        → m6 ≡ cond (release t b) own 0
        → m7 ≡ cond (rcsc t b) (set_of t (rcsc t)) 0
        → m8 ≡ cond (eqb (kind t b) sc) (passed_at t b).reserved 0
        → m9 ≡ (event t b).addr
        → m10 ≡ (event t b).«data»
        → m11 ≡ cond (writes t b) (event t b).ctrl 0
        → m13 ≡ cond (writes t b) (passed_at t b).addressed 0
        → bit_and own (bit_or (bit_or (bit_or (bit_or (bit_or (bit_or (bit_or (bit_or (bit_or (bit_or m1 r4) w4) m5) m6) m7) m8) m9) m10) m11) m13)
        ≡ predecessor_mask t b
    unfolding passed_at predecessor_mask
    row_is {own} {m1} {r4} {w4} {m5} {m6} {m7} {m8} {m9} {m10} {m11} {m13} e e1 f4 g4 e5 e6 e7 e8 e9 e10 e11 e13 =
        let n : ℕ = t.count in
        let others : ℕ = bit_or (bit_or (bit_or (bit_or (bit_or (bit_or (bit_or (bit_or (bit_or (bit_or m1 r4) w4) m5) m6) m7) m8) m9) m10) m11) m13 in
        ap (λ (o : ℕ). bit_and o others) e
        ∙ set-within n (earlier t b) {m = others} {g = taken}
        (marks-or (marks-or (marks-or (marks-or (marks-or (marks-or (marks-or (marks-or (marks-or (marks-or
        (marks-as e1 (marks-if (writes t b) (marks-set n (λ a. eqb (location t a) (location t b)))))
        (marks-as f4 (marks-if (reads t b) (marks-set n (fenced_reads t b)))))
        (marks-as g4 (marks-if (writes t b) (marks-set n (fenced_writes t b)))))
        (marks-as e5 (marks-set n (acquire t))))
        (marks-as e6 (marks-if (release t b) (marks-as e (marks-set n (earlier t b))))))
        (marks-as e7 (marks-if (rcsc t b) (marks-set n (rcsc t)))))
        (marks-as e8 (marks-if (eqb (kind t b) sc) (marks-set n (reserved t b)))))
        (marks-as e9 (marks-own (event t b).addr)))
        (marks-as e10 (marks-own (event t b).«data»)))
        (marks-as e11 (marks-if (writes t b) (marks-own (event t b).ctrl))))
        (marks-as e13 (marks-if (writes t b) (marks-set n (addressed t b)))))
        ∙ set_same n (λ a. earlier t b a && taken a) (λ a. static_ppo t a b) (λ a i. static-is a)
