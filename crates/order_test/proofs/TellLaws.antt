-- What the masks of an event tell of each table that has these facts.
use Prim.Native.Nat.{ℕ, ◌<◌, ◌≤◌}
use native.Mathlib.Omega.{arith}
use mathlib.Core.Path.{◌≡◌, refl, sym, ap, ap₂, subst, ◌∙◌}
use mathlib.Core.Bool.{Bool, true, false, cond, not, ◌&&◌, ◌||◌, and-true}
use mathlib.Core.List.{List}
use lib.ListN.{get_or}
use lib.Bits.{bit_and, bit_xor}
use lib.Dec.{eqb, ltb}
use borrow.Author.Tests.{ltb-true}
use Rattle.lists.specs.Below.{some}
use Rattle.lists.proofs.SomeLaws.{some_at, some-found}
use Rattle.lists.proofs.BoolLaws.{and_l, and-taken, and_left, and_right, bool-ext}
use Rattle.lists.proofs.PaddedLaws.{padded-at}
use Rattle.masks.specs.Bit.{bit}
use Rattle.masks.specs.Parts.{highest}
use Rattle.masks.proofs.MaskOfLaws.{mask_below}
use Rattle.masks.proofs.SetLaws.{bit-without}
use Rattle.masks.proofs.BelowLaws.{mask_at}
use Rattle.table.specs.declared.Table.{Table}
use Rattle.table.specs.Events.{capacity, reads, writes}
use Rattle.placing.specs.Guards.{forwarder, may_read, may_write, may_place, reads_stated}
use Rattle.order_facts.specs.Facts.{mask_by, own_writer, needed, opens, grounds, is_open, guards, right, good, reads_good}
use Rattle.order_facts.proofs.ReadLaws.{stated-good, none-forwards, read_none, good_none, forwarder-w, w-counted, read_some, good-some}
use Rattle.order_facts.proofs.WriteLaws.{bars, write-bars, open-mask}
use Rattle.fact_rows.specs.FactRows.{row, mask, masks_by, Facts, own_row, needs_row, window_row, ground_row, guard_row, right_row}
use Rattle.order_test.specs.Testing.{Tells, TellsGood, returns_good, open_by}

module _ {t : Table} {facts : List (List ℕ)} (f : Facts t facts) where
  room : t.count ≤ capacity
  room = omega (arith, f.table.small.events)

  -- the mask of an event
  pub mask_is : (k : ℕ) (g : ℕ → ℕ → Bool) → row facts k ≡ masks_by t g → (e : ℕ) → e < t.count → mask facts k e ≡ mask_by t (g e)
  mask_is k g q e l = ap (λ (x : List ℕ). get_or x e 0) q ∙ padded-at (λ x. mask_by t (g x)) capacity t.count e room l

-- the bit of an event in a mask of those that pass
pub mask-bit : (t : Table) (g : ℕ → Bool) (e : ℕ) → e < t.count → bit (mask_by t g) e ≡ g e
unfolding mask_by
mask-bit t g e l = mask_at g t.count e l

module _ (facts : List (List ℕ)) (placed e : ℕ) where
  abbrev missing : ℕ
  missing = bit_xor (mask facts own_row e) (bit_and (mask facts own_row e) placed)

  missing-is : (t : Table) → Facts t facts → e < t.count →
      missing ≡ bit_xor (mask_by t (own_writer t e)) (bit_and (mask_by t (own_writer t e)) placed)
  missing-is t f l = ap (λ (x : ℕ). bit_xor x (bit_and x placed)) (mask_is f own_row (own_writer t) f.own e l)

  -- No own writer is missing.
  pub tell-read-none : (m : ℕ) → m ≡ missing → m ≡ 0 → Tells facts e (λ t. not (reads t e) || may_read t (bit placed) e) true
  tell-read-none m q z t f l = sym (read_none t (room f) placed e (sym (missing-is t f l) ∙ sym q ∙ z))

  pub tell-good-none : (m now : ℕ) → m ≡ missing → m ≡ 0 → Tells facts e (λ t. returns_good t placed now e) (bit now e)
  tell-good-none m now q z t f l = sym (good_none t (room f) placed e (bit now) (sym (missing-is t f l) ∙ sym q ∙ z))

  -- nothing is forwarded to it
  pub tell-forwards-none : (m : ℕ) → m ≡ missing → m ≡ 0 → (t : Table) → Facts t facts → e < t.count → reads t e ≡ true →
      ltb (forwarder t (bit placed) e) t.count ≡ false
  tell-forwards-none m q z t f l h = none-forwards t (room f) placed e h (sym (missing-is t f l) ∙ sym q ∙ z)

  some-missing : (t : Table) → Facts t facts → e < t.count → (m : ℕ) → m ≡ missing → (m ≡ 0 → ⊥) →
      bit_xor (mask_by t (own_writer t e)) (bit_and (mask_by t (own_writer t e)) placed) ≡ 0 → ⊥
  some-missing t f l m q n z = n (q ∙ missing-is t f l ∙ z)

  highest-is : (t : Table) → Facts t facts → e < t.count → (m w : ℕ) → m ≡ missing → w ≡ highest m →
      w ≡ highest (bit_xor (mask_by t (own_writer t e)) (bit_and (mask_by t (own_writer t e)) placed))
  highest-is t f l m w q h = h ∙ ap highest (q ∙ missing-is t f l)

  -- Some are: the highest of them is w.
  pub tell-read-some : (m w : ℕ) → m ≡ missing → (m ≡ 0 → ⊥) → w ≡ highest m →
      Tells facts e (λ t. not (reads t e) || may_read t (bit placed) e)
      (eqb (bit_and (mask facts needs_row w) placed) (mask facts needs_row w))
  tell-read-some m w q n h t f l =
      let s = some-missing t f l m q n in
      let i = highest-is t f l m w q h in
      ap (λ (x : ℕ). eqb (bit_and x placed) x)
      (mask_is f needs_row (needed t) f.needs w (subst (λ (x : ℕ). x < t.count) (sym i) (w-counted t (room f) placed e s))
      ∙ ap (λ (x : ℕ). mask_by t (needed t x)) i)
      ∙ sym (read_some t (room f) placed e s)

  -- it is forwarded to it
  pub tell-forwards : (m w : ℕ) → m ≡ missing → (m ≡ 0 → ⊥) → w ≡ highest m → (t : Table) → Facts t facts → e < t.count →
      (forwarder t (bit placed) e ≡ w) × (w < t.count)
  tell-forwards m w q n h t f l =
      let s = some-missing t f l m q n in
      let i = highest-is t f l m w q h in (
        forwarder-w t (room f) placed e s ∙ sym i,
        subst (λ (x : ℕ). x < t.count) (sym i) (w-counted t (room f) placed e s),
      )

  pub tell-good-some : (m w now : ℕ) → m ≡ missing → (m ≡ 0 → ⊥) → w ≡ highest m →
      Tells facts e (λ t. returns_good t placed now e) (bit (mask facts right_row w) e)
  tell-good-some m w now q n h t f l =
      let s = some-missing t f l m q n in
      let i = highest-is t f l m w q h in
      ap (λ (x : ℕ). bit x e)
      (mask_is f right_row (right t) f.right w (subst (λ (x : ℕ). x < t.count) (sym i) (w-counted t (room f) placed e s))
      ∙ ap (λ (x : ℕ). mask_by t (right t x)) i)
      ∙ sym (good-some t (room f) placed e s (bit now) l)

  -- By the mask of the good it is the stated value that is returned.
  pub tell-stated : {now : ℕ} {r : Bool} → Tells facts e (λ t. returns_good t placed now e) r →
      TellsGood facts now e (λ t value. reads_stated t (bit placed) value e) r
  unfolding reads_good good
  tell-stated {now} h t f l value g =
      h t f l ∙ go (reads t e) refl (ap (λ (x : ℕ). bit x e) g ∙ mask-bit t (good t value) e l)
      ∙ sym (stated-good t (bit placed) value e)
    where
      go : (b : Bool) → reads t e ≡ b → bit now e ≡ good t value e →
          cond b (reads_good t (bit placed) (bit now) e) (bit now e) ≡ reads_good t (bit placed) (good t value) e
      go true i q = rw (q, i) refl
      go false i q = rw (q, i) refl

  -- A window that is open, a guard that bars.
  tell-open : (v : ℕ) → Tells facts v (λ t. is_open t (bit placed) v) (open_by facts placed v)
  unfolding open_by
  tell-open v t f l =
      ap₂ (λ (a b : ℕ). not (eqb (bit_and a placed) 0) && eqb (bit_and b placed) b) (mask_is f window_row (opens t) f.windows v l)
      (mask_is f ground_row (grounds t) f.grounds v l)
      ∙ sym (open-mask t placed v)

  tell-write : Tells facts e (λ t. not (writes t e) || may_write t (bit placed) e)
      (not (some capacity
      (λ v. bit (bit_xor (mask facts guard_row e) (bit_and (mask facts guard_row e) placed)) v && open_by facts placed v)))
  unfolding mask_by
  tell-write t f l =
      ap not (bool-ext (some capacity barring) (some t.count (bars f.table (bit placed) e)) there back)
      ∙ sym (write-bars f.table (bit placed) e)
    where
      barring : ℕ → Bool
      barring v = bit (bit_xor (mask facts guard_row e) (bit_and (mask facts guard_row e) placed)) v && open_by facts placed v

      same : (v : ℕ) → v < t.count → barring v ≡ bars f.table (bit placed) e v
      same v i =
          ap₂ (λ (a b : Bool). a && b)
          (bit-without (mask facts guard_row e) placed v
          ∙ ap (λ (b : Bool). b && not (bit placed v))
          (ap (λ (x : ℕ). bit x v) (mask_is f guard_row (guards t) f.guards e l) ∙ mask-bit t (guards t e) v i))
          (tell-open v t f i)

      counted : (v : ℕ) → barring v ≡ true → v < t.count
      counted v h =
          ltb-true v t.count (and_l _ (guards t e v)
          (sym (ap (λ (x : ℕ). bit x v) (mask_is f guard_row (guards t) f.guards e l) ∙ mask_below (guards t e) t.count v)
          ∙ and_l _ (not (bit placed v)) (sym (bit-without (mask facts guard_row e) placed v) ∙ and_l _ (open_by facts placed v) h)))

      there : some capacity barring ≡ true → some t.count (bars f.table (bit placed) e) ≡ true
      there h =
          let q = some-found capacity barring h in
          let i = counted q.0 q.2 in
          some_at t.count (bars f.table (bit placed) e) q.0 i (sym (same q.0 i) ∙ q.2)

      back : some t.count (bars f.table (bit placed) e) ≡ true → some capacity barring ≡ true
      back h =
          let q = some-found t.count (bars f.table (bit placed) e) h in
          some_at capacity barring q.0 (omega (arith, q.1, room f)) (same q.0 q.1 ∙ q.2)

  pub tell-barring : (m : ℕ) (b : Bool) → m ≡ bit_xor (mask facts guard_row e) (bit_and (mask facts guard_row e) placed) →
      some capacity (λ v. bit m v && open_by facts placed v) ≡ b →
      Tells facts e (λ t. not (writes t e) || may_write t (bit placed) e) (not b)
  tell-barring m b q h t f l =
      ap not (sym h ∙ ap (λ (x : ℕ). some capacity (λ v. bit x v && open_by facts placed v)) q) ∙ tell-write t f l

  -- Both as a reader and as a writer.
  pub tell-place : (a b : Bool) → Tells facts e (λ t. not (reads t e) || may_read t (bit placed) e) a →
      Tells facts e (λ t. not (writes t e) || may_write t (bit placed) e) b → a ≡ true →
      Tells facts e (λ t. may_place t (bit placed) e) b
  unfolding may_place
  tell-place a b h k q t f l = and-taken _ b q ∙ ap₂ (λ (x y : Bool). x && y) (h t f l) (k t f l)

  pub tell-barred : (a : Bool) → Tells facts e (λ t. not (reads t e) || may_read t (bit placed) e) a → a ≡ false →
      Tells facts e (λ t. may_place t (bit placed) e) false
  unfolding may_place
  tell-barred a h q t f l = and_left _ _ (sym (h t f l) ∙ q)

  -- All that is asked of an entry of a witness.
  abbrev pub standing : Table → (ℕ → ℕ) → Bool
  standing t value = may_place t (bit placed) e && reads_stated t (bit placed) value e

  module _ {now : ℕ} {a : Bool} (h : TellsGood facts now e (λ t value. reads_stated t (bit placed) value e) a) where
    pub tell-stands : (r : Bool) → Tells facts e (λ t. may_place t (bit placed) e) r → a ≡ true → TellsGood facts now e standing r
    tell-stands r m q t f l value g = m t f l ∙ sym (rw (sym (h t f l value g) ∙ q) (and-true (may_place t (bit placed) e)))

    pub tell-falls : a ≡ false → TellsGood facts now e standing false
    tell-falls q t f l value g = sym (and_right (may_place t (bit placed) e) _ (sym (h t f l value g) ∙ q))
