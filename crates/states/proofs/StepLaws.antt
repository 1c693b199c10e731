-- What placing an event changes, what it takes for one to be accepted, and when two steps can be swapped.
use Prim.Native.Nat.{ℕ, ◌<◌, ◌^◌}
use mathlib.Core.Path.{◌≡◌, refl, sym, ap, ap₂, ◌∙◌}
use mathlib.Core.Bool.{Bool, true, false, cond, not, ◌&&◌, ◌||◌, and-true, or-false, true≢false}
use mathlib.Core.Logic.{◌⊎◌, inl, inr, ⊎_elim}
use lib.Bits.{bit_or}
use lib.Dec.{eqb, ltb}
use borrow.Author.Tests.{ltb-true, not-true}
use Rattle.lists.proofs.BoolLaws.{and_l, and_r, and_right, or_l, not-either, is_false, implied}
use Rattle.lists.proofs.SomeLaws.{every-at}
use Rattle.masks.specs.Bit.{bit}
use Rattle.masks.proofs.BitLaws.{bit-or, bit-pow}
use Rattle.masks.proofs.PowerLaws.{bits-same}
use Rattle.masks.proofs.SetLaws.{bit-without}
use Rattle.table.specs.declared.Table.{Table}
use Rattle.table.specs.Events.{event, reads, writes, memory}
use Rattle.model.specs.Witness.{is_memory_event}
use Rattle.placing.specs.Guards.{ready, may_read, may_write, may_place}
use Rattle.order_facts.specs.Facts.{mask_by, here, right, reads_good}
use Rattle.order_facts.proofs.RowLaws.{bits_of}
use Rattle.states.specs.declared.State.{State}
use Rattle.states.specs.States.{ends_well, accepts, without, step, ends}

-- The bit of good, g. Tests: the event is in range (n), reads where one writes (h), and states its value (v).
good-bit : (n h v g : Bool) → (g && not (n && h) || n && (h && v)) ≡ cond (n && h) (h && v) g
good-bit true true v true = refl
good-bit true true v false = refl
good-bit true false v true = refl
good-bit true false v false = refl
good-bit false h v true = refl
good-bit false h v false = refl

-- two events are placed, p being those before
or_swap : (p a b : Bool) → ((p || a) || b) ≡ ((p || b) || a)
or_swap true a b = refl
or_swap false true true = refl
or_swap false true false = refl
or_swap false false true = refl
or_swap false false false = refl

-- what is placed at last isn't good, whether or not it was placed before (q)
and-late : (k w g q b : Bool) → (cond k w (g && not q) && not (q || b)) ≡ (cond k w g && not (q || b))
and-late true w g q b = refl
and-late false w true true b = refl
and-late false w true false b = refl
and-late false w false q b = refl

-- two choices of which at most one is made
cond-swap : (h k u w g : Bool) → (h ≡ false) ⊎ (k ≡ false) → cond k w (cond h u g) ≡ cond h u (cond k w g)
cond-swap true true u w g c = ⊎_elim (λ q. absurd (true≢false q)) (λ q. absurd (true≢false q)) c
cond-swap true false u w g c = refl
cond-swap false k u w g c = refl

module _ (t : Table) where
  pub placed-step : (s : State) (e x : ℕ) → bit (step t s e).placed x ≡ (bit s.placed x || eqb e x)
  unfolding step
  placed-step s e x = bit-or s.placed (2 ^ e) x ∙ ap (λ (b : Bool). bit s.placed x || b) (bit-pow e x)

  -- what is placed stays so; what isn't now wasn't before; nothing but e is new
  pub placed-more : (s : State) (e x : ℕ) → bit s.placed x ≡ true → bit (step t s e).placed x ≡ true
  placed-more s e x h = placed-step s e x ∙ rw h

  pub placed_less : (s : State) (e x : ℕ) → bit (step t s e).placed x ≡ false → bit s.placed x ≡ false
  placed_less s e x h = or_l _ _ (sym (placed-step s e x) ∙ h)

  pub placed-other : (s : State) (e x : ℕ) → eqb e x ≡ false → bit (step t s e).placed x ≡ bit s.placed x
  placed-other s e x d = placed-step s e x ∙ rw d (or-false (bit s.placed x))

  -- a reader of the location that e writes is good if it states what e writes; for others nothing changes
  pub good-step : (s : State) (e x : ℕ) → bit (step t s e).good x
      ≡ (cond (ltb x t.count && here t e x) (right t e x) (bit s.good x) && not (bit s.placed x || eqb e x))
  unfolding step right
  good-step s e x =
      bit-without (bit_or kept new) (step t s e).placed x
      ∙ ap₂ (λ (a b : Bool). a && not b)
      (bit-or kept new x
      ∙ ap₂ (λ (a b : Bool). a || b)
      (bit-without s.good old x ∙ ap (λ (b : Bool). bit s.good x && not b) (bits_of t (here t e) x))
      (bits_of t (right t e) x)
      ∙ good-bit (ltb x t.count) (here t e x) (eqb (event t e).written (event t x).read) (bit s.good x))
      (placed-step s e x)
    where
      old : ℕ
      old = mask_by t (here t e)

      new : ℕ
      new = mask_by t (right t e)

      kept : ℕ
      kept = without s.good old

  -- one that isn't placed and doesn't read where e writes stays as it was
  pub good-kept : (s : State) (e x : ℕ) → here t e x ≡ false → bit (step t s e).placed x ≡ false →
      bit (step t s e).good x ≡ bit s.good x
  good-kept s e x h n =
      good-step s e x ∙ rw (and_right (ltb x t.count) _ h, sym (placed-step s e x) ∙ n) (and-true (bit s.good x))

  -- two steps, of which at most one writes where a reader reads
  pub steps-swap : (s : State) (e a : ℕ) → ((x : ℕ) → (here t e x ≡ false) ⊎ (here t a x ≡ false)) →
      step t (step t s e) a ≡ step t (step t s a) e
  steps-swap s e a c =
      ap₂ (λ (p g : ℕ). the-state p g)
      (bits-same _ _ (λ x. placed-twice e a x ∙ or_swap (bit s.placed x) (eqb e x) (eqb a x) ∙ sym (placed-twice a e x)))
      (bits-same _ _ (λ x. good-twice e a x
      ∙ ap₂ (λ (b d : Bool). b && not d)
      (cond-swap (met e x) (met a x) (right t e x) (right t a x) (bit s.good x)
      (⊎_elim (λ q. inl (and_right (ltb x t.count) _ q)) (λ q. inr (and_right (ltb x t.count) _ q)) (c x)))
      (or_swap (bit s.placed x) (eqb e x) (eqb a x))
      ∙ sym (good-twice a e x)))
    where
      the-state : ℕ → ℕ → State
      the-state p g = record { placed = p; good = g }

      met : ℕ → ℕ → Bool
      met e x = ltb x t.count && here t e x

      placed-twice : (e a x : ℕ) → bit (step t (step t s e) a).placed x ≡ ((bit s.placed x || eqb e x) || eqb a x)
      placed-twice e a x = placed-step (step t s e) a x ∙ ap (λ (b : Bool). b || eqb a x) (placed-step s e x)

      good-twice : (e a x : ℕ) → bit (step t (step t s e) a).good x
          ≡ (cond (met a x) (right t a x) (cond (met e x) (right t e x) (bit s.good x))
          && not ((bit s.placed x || eqb e x) || eqb a x))
      good-twice e a x =
          good-step (step t s e) a x
          ∙ ap₂ (λ (g p : Bool). cond (met a x) (right t a x) g && not (p || eqb a x)) (good-step s e x) (placed-step s e x)
          ∙ and-late (met a x) (right t a x) (cond (met e x) (right t e x) (bit s.good x))
          (bit s.placed x || eqb e x) (eqb a x)

  -- e may be placed, part by part
  pub record May (placed now : ℕ → Bool) (e : ℕ) : Type 0 where
    pub known : is_memory_event t e ≡ true
    pub new : placed e ≡ false
    pub steady : ready t placed e ≡ true
    pub read : (not (reads t e) || may_read t placed e) ≡ true
    pub write : (not (writes t e) || may_write t placed e) ≡ true
    pub value : reads_good t placed now e ≡ true
    pub final : ends_well t placed e ≡ true

  pub accepts-may : (s : State) (e : ℕ) → accepts t s e ≡ true → May (bit s.placed) (bit s.good) e
  unfolding accepts may_place
  accepts-may s e h = record {
    known = search (and_l, and_r);
    new = not-true _ (search (and_l, and_r));
    steady = search (and_l, and_r);
    read = search (and_l, and_r);
    write = search (and_l, and_r);
    value = search (and_l, and_r);
    final = search (and_l, and_r);
  }

  pub may-accepts : (s : State) (e : ℕ) → May (bit s.placed) (bit s.good) e → accepts t s e ≡ true
  unfolding accepts may_place
  may-accepts s e m = rw (m.known, m.new, m.steady, m.read, m.write, m.value) m.final

  pub event-counted : (e : ℕ) → is_memory_event t e ≡ true → e < t.count
  unfolding is_memory_event
  event-counted e m = ltb-true e t.count (and_l _ _ m)

  -- while a memory event isn't placed, there is no end
  pub not-ended : (s : State) (e : ℕ) → is_memory_event t e ≡ true → bit s.placed e ≡ false → ends t s ≡ false
  unfolding ends is_memory_event
  not-ended s e m n = is_false _ (λ h. not-either (bit s.placed e)
      (implied (memory t e) _ (every-at t.count (λ x. not (memory t x) || bit s.placed x) e h (event-counted e m))
      (and_r (ltb e t.count) _ m)) n)
