-- What is asked of a reader, by masks. With u its own writers less those placed: u is empty, or its highest may be returned from.
use Prim.Native.Nat.{ℕ, ◌≤◌, ◌<◌}
use native.Mathlib.Omega.{arith}
use mathlib.Core.Path.{◌≡◌, refl, sym, ap, subst, ◌∙◌}
use mathlib.Core.Bool.{Bool, true, false, cond, not, ◌&&◌, ◌||◌, or-true}
use mathlib.Core.Logic.{⊎_elim}
use lib.Bits.{bit_and, bit_xor}
use lib.Dec.{eqb, ltb}
use borrow.Author.Tests.{eq-eqb, lt-ltb, le-ltb, not-true}
use Rattle.lists.specs.Below.{below}
use Rattle.lists.specs.Lists.{keep, last_or}
use Rattle.lists.proofs.BoolLaws.{and_l, and_r, and_both, bool-ext, or_cases, or-implied, not-either, is_true}
use Rattle.masks.specs.Bit.{bit}
use Rattle.masks.specs.MaskOf.{mask_of}
use Rattle.masks.proofs.GatherLaws.{mask-none}
use Rattle.table.specs.declared.Table.{Table}
use Rattle.table.specs.Events.{capacity, event, kind, location, reads, store}
use Rattle.placing.specs.Guards.{own, depends, within, forwarder, may_forward, may_read, value_now, reads_stated}
use Rattle.placing.proofs.GuardLaws.{within-at, at-within, forwards, own-parts}
use Rattle.masks.specs.Parts.{highest}
use Rattle.order_facts.specs.Facts.{mask_by, own_writer, needed, here, right, good, reads_good}
use Rattle.masks.proofs.BelowLaws.{mask-within, mask_at, mask-less}
use Rattle.masks.proofs.HighestLaws.{mask-none-last, mask-last}

-- every event that passes is placed
pub within-mask : (t : Table) (placed : ℕ) (f : ℕ → Bool) → within t (bit placed) f ≡ eqb (bit_and (mask_by t f) placed) (mask_by t f)
unfolding within mask_by
within-mask t placed f = mask-within f t.count placed

-- the stated value is returned, by the values and by the good
pub stated-good : (t : Table) (placed : ℕ → Bool) (value : ℕ → ℕ) (e : ℕ) →
    reads_stated t placed value e ≡ reads_good t placed (good t value) e
unfolding reads_stated reads_good value_now good
stated-good t placed value e = go (reads t e) (ltb (forwarder t placed e) t.count)
  where
    go : (r c : Bool) →
        (not r || eqb (cond c (event t (forwarder t placed e)).written (value (location t e))) (event t e).read)
        ≡ (not r
        || cond c (eqb (event t (forwarder t placed e)).written (event t e).read)
        (not r || eqb (value (location t e)) (event t e).read))
    go true true = refl
    go true false = refl
    go false c = refl

-- a writer that isn't placed may be returned from exactly if all that it needs is
forward-needed : (t : Table) (placed : ℕ → Bool) (w : ℕ) → w < t.count → placed w ≡ false →
    may_forward t placed w ≡ within t placed (needed t w)
unfolding may_forward needed
forward-needed t placed w l n = bool-ext (may_forward t placed w) (within t placed (needed t w)) there back
  where
    there : may_forward t placed w ≡ true → within t placed (needed t w) ≡ true
    there h =
        at-within t placed (needed t w)
        (λ a i q. ⊎_elim (within-at t placed (depends t w) (and_r (eqb (kind t w) store) _ h) a i)
        (λ q. absurd (not-either _ (and_l (eqb (kind t w) store) _ h) (not-true _ (and_l _ (eqb a w) q))))
        (or_cases (depends t w a) _ q))

    itself : within t placed (needed t w) ≡ true → eqb (kind t w) store ≡ true
    itself h = is_true _ (λ q.
        not-either (placed w) (within-at t placed (needed t w) h w l (rw (q, eq-eqb w w refl) (or-true (depends t w w)))) n)

    back : within t placed (needed t w) ≡ true → may_forward t placed w ≡ true
    back h =
        and_both _ _ (itself h)
        (at-within t placed (depends t w) (λ a i q. within-at t placed (needed t w) h a i (rw q refl)))

module _ (t : Table) (room : t.count ≤ capacity) (placed r : ℕ) where
  -- the own writers that aren't placed
  abbrev pub missing : ℕ
  missing = bit_xor (mask_by t (own_writer t r)) (bit_and (mask_by t (own_writer t r)) placed)

  abbrev late : ℕ → Bool
  late w = own_writer t r w && not (bit placed w)

  missing-is : missing ≡ mask_of (keep late (below t.count))
  unfolding mask_by
  missing-is = mask-less (own_writer t r) t.count placed

  forwarder-is : reads t r ≡ true → forwarder t (bit placed) r ≡ last_or late t.count (below t.count)
  unfolding forwarder own_writer
  forwarder-is h =
      ap (λ (b : Bool). last_or (λ w. b && own t r w && not (bit placed w)) t.count (below t.count)) (sym h)

  -- None is missing: nothing is forwarded.
  pub none-forwards : reads t r ≡ true → missing ≡ 0 → ltb (forwarder t (bit placed) r) t.count ≡ false
  none-forwards h e =
      ap (λ (f : ℕ). ltb f t.count) (forwarder-is h ∙ mask-none-last late t.count (sym missing-is ∙ e))
      ∙ le-ltb t.count t.count (omega arith)

  pub read_none : missing ≡ 0 → (not (reads t r) || may_read t (bit placed) r) ≡ true
  unfolding may_read
  read_none e = or-implied (reads t r) _ (λ h. rw (none-forwards h e) refl)

  pub good_none : (now : ℕ → Bool) → missing ≡ 0 → cond (reads t r) (reads_good t (bit placed) now r) (now r) ≡ now r
  unfolding reads_good
  good_none now e = go (reads t r) refl
    where
      go : (b : Bool) → reads t r ≡ b → cond b (reads_good t (bit placed) now r) (now r) ≡ now r
      go true h = rw (h, none-forwards h e) refl
      go false h = refl

  -- Some is missing: r reads, and the highest of them is forwarded.
  module _ (n : missing ≡ 0 → ⊥) where
    abbrev w : ℕ
    w = highest missing

    pub reader : reads t r ≡ true
    unfolding own_writer
    reader = is_true _ (λ h. n (missing-is ∙ mask-none late t.count (λ k. rw h refl)))

    last-is : (last_or late t.count (below t.count) ≡ w) × (w < t.count)
    last-is = subst (λ (m : ℕ). (last_or late t.count (below t.count) ≡ highest m) × (highest m < t.count)) (sym missing-is)
        (mask-last late t.count room (λ e. n (missing-is ∙ e)))

    pub forwarder-w : forwarder t (bit placed) r ≡ w
    forwarder-w = forwarder-is reader ∙ last-is.0

    pub w-counted : w < t.count
    w-counted = last-is.1

    w-forwards : (own t r w ≡ true) × (bit placed w ≡ false)
    w-forwards =
        subst (λ (f : ℕ). (own t r f ≡ true) × (bit placed f ≡ false)) forwarder-w
        (forwards t (bit placed) r (ap (λ (f : ℕ). ltb f t.count) forwarder-w ∙ lt-ltb w t.count w-counted))

    -- all that it needs is placed
    pub read_some :
        (not (reads t r) || may_read t (bit placed) r) ≡ eqb (bit_and (mask_by t (needed t w)) placed) (mask_by t (needed t w))
    unfolding may_read
    read_some =
        rw (reader, forwarder-w, lt-ltb w t.count w-counted)
        (forward-needed t (bit placed) w w-counted w-forwards.1 ∙ within-mask t placed (needed t w))

    -- and it writes the stated value
    pub good-some : (now : ℕ → Bool) → r < t.count →
        cond (reads t r) (reads_good t (bit placed) now r) (now r) ≡ bit (mask_by t (right t w)) r
    unfolding reads_good right here mask_by
    good-some now l =
        let o = own-parts t r w w-forwards.0 in
        rw (reader, forwarder-w, lt-ltb w t.count w-counted)
        (sym (mask_at (right t w) t.count r l ∙ rw (o.0, o.1, reader) refl))
