-- Laws of clean lists over masks.
use Prim.Native.Nat.{ℕ, ◌+◌, ◌^◌, ◌≤◌}
use native.Mathlib.Omega.{arith}
use native.Mathlib.Nat.{add-zero}
use mathlib.Core.Path.{◌≡◌, refl, sym, ap, ◌∙◌}
use mathlib.Core.Bool.{Bool, true, false, not, ◌&&◌, and_assoc, and-true, and-false}
use mathlib.Core.List.{List, [], ◌∷◌, ◌++◌}
use lib.ListN.{length}
use lib.Bits.{bit_or, or_comm, or_zero_l, or_zero_r}
use lib.Count.{ones}
use borrow.Author.Tests.{not-true}
use Rattle.lists.specs.Lists.{all}
use Rattle.lists.proofs.BoolLaws.{and_l, and_r}
use Rattle.lists.proofs.ListLaws.{all-has}
use Rattle.masks.specs.Bit.{bit}
use Rattle.masks.specs.MaskOf.{mask_of}
use Rattle.masks.proofs.PowerLaws.{lt-pow, ones-or}
use Rattle.masks.proofs.MaskOfLaws.{mask-has}
use Rattle.masks.proofs.UnionLaws.{union_assoc}
use Rattle.masks.proofs.WithinLaws.{ones-within}
use Rattle.prefixes.specs.Statements.{PrefixClosed}
use Rattle.successors.specs.CleanMasks.{ready, may_follow, clean_from, clean_by}

-- to place e, then the rest, is to place e with the rest
placed-then : (placed e : ℕ) (p : List ℕ) → bit_or (bit_or placed (2 ^ e)) (mask_of p) ≡ bit_or placed (mask_of (e ∷ p))
unfolding mask_of
placed-then placed e p = union_assoc placed (2 ^ e) (mask_of p) ∙ ap (bit_or placed) (or_comm (2 ^ e) (mask_of p))

-- no bit of 0 is set
ones-zero : ones 0 ≡ 0
unfolding ones
ones-zero = refl

module _ (preds : List ℕ) (mem : ℕ) where
  -- what may follow is an event
  pub event : (placed e : ℕ) → may_follow preds mem placed e ≡ true → bit mem e ≡ true
  event placed e h =
      and_l (bit mem e) (not (bit placed e)) (and_l (bit mem e && not (bit placed e)) (ready preds placed e) h)

  -- and not placed yet
  pub fresh : (placed e : ℕ) → may_follow preds mem placed e ≡ true → bit placed e ≡ false
  fresh placed e h =
      not-true (bit placed e)
      (and_r (bit mem e) (not (bit placed e)) (and_l (bit mem e && not (bit placed e)) (ready preds placed e) h))

  -- two lists joined are clean where the first is, and the second behind it
  from-append : (placed : ℕ) (p q : List ℕ) →
      clean_from preds mem placed (p ++ q) ≡ (clean_from preds mem placed p && clean_from preds mem (bit_or placed (mask_of p)) q)
  unfolding clean_from mask_of
  from-append placed [] q = ap (λ (m : ℕ). clean_from preds mem m q) (sym (or_zero_r placed))
  from-append placed (e ∷ p) q =
      ap (λ (t : Bool). may_follow preds mem placed e && t) (from-append (bit_or placed (2 ^ e)) p q ∙ joined)
      ∙ sym (and_assoc (may_follow preds mem placed e) _ _)
    where
      joined : (clean_from preds mem (bit_or placed (2 ^ e)) p && clean_from preds mem (bit_or (bit_or placed (2 ^ e)) (mask_of p)) q)
          ≡ (clean_from preds mem (bit_or placed (2 ^ e)) p && clean_from preds mem (bit_or placed (bit_or (mask_of p) (2 ^ e))) q)
      joined = ap (λ (m : ℕ). clean_from preds mem (bit_or placed (2 ^ e)) p && clean_from preds mem m q) (placed-then placed e p)

  -- a list is clean where its beginning is, and the rest behind it
  pub clean-append : (p q : List ℕ) → clean_by preds mem (p ++ q) ≡ (clean_by preds mem p && clean_from preds mem (mask_of p) q)
  unfolding clean_by
  clean-append p q =
      from-append 0 p q ∙ ap (λ (m : ℕ). clean_from preds mem 0 p && clean_from preds mem m q) (or_zero_l (mask_of p))

  -- one more entry: it may follow
  pub clean-snoc : (p : List ℕ) (x : ℕ) → clean_by preds mem (p ++ (x ∷ [])) ≡ (clean_by preds mem p && may_follow preds mem (mask_of p) x)
  unfolding clean_from
  clean-snoc p x = clean-append p (x ∷ []) ∙ ap (λ (t : Bool). clean_by preds mem p && t) (and-true (may_follow preds mem (mask_of p) x))

  -- an entry that may not follow makes all that goes on with it unclean
  pub unclean-at : (p : List ℕ) (x : ℕ) (q : List ℕ) → may_follow preds mem (mask_of p) x ≡ false → clean_by preds mem (p ++ (x ∷ q)) ≡ false
  unfolding clean_from
  unclean-at p x q h = clean-append p (x ∷ q) ∙ rw h (and-false (clean_by preds mem p))

  -- a beginning of a clean list is clean
  pub clean-closed : PrefixClosed (clean_by preds mem)
  clean-closed p x h = and_l (clean_by preds mem p) (may_follow preds mem (mask_of p) x) (sym (clean-snoc p x) ∙ h)

  -- each entry of a clean list adds a bit
  from-ones : (placed : ℕ) (p : List ℕ) → clean_from preds mem placed p ≡ true → ones (bit_or placed (mask_of p)) ≡ ones placed + length p
  unfolding clean_from mask_of
  from-ones placed [] h = ap ones (or_zero_r placed) ∙ sym (add-zero (ones placed))
  from-ones placed (e ∷ p) h =
      let follows = and_l (may_follow preds mem placed e) (clean_from preds mem (bit_or placed (2 ^ e)) p) h in
      let rest = and_r (may_follow preds mem placed e) (clean_from preds mem (bit_or placed (2 ^ e)) p) h in
      omega (arith, ap ones (placed-then placed e p), from-ones (bit_or placed (2 ^ e)) p rest, ones-or placed e (fresh placed e follows))

  -- a clean list has events only
  from-events : (placed : ℕ) (p : List ℕ) → clean_from preds mem placed p ≡ true → all (bit mem) p ≡ true
  unfolding clean_from
  from-events placed [] h = refl
  from-events placed (e ∷ p) h =
      rw (event placed e (and_l (may_follow preds mem placed e) (clean_from preds mem (bit_or placed (2 ^ e)) p) h))
      (from-events (bit_or placed (2 ^ e)) p (and_r (may_follow preds mem placed e) (clean_from preds mem (bit_or placed (2 ^ e)) p) h))

  -- the mask of a clean list has as many bits as the list entries
  pub clean-ones : (p : List ℕ) → clean_by preds mem p ≡ true → ones (mask_of p) ≡ length p
  unfolding clean_by
  clean-ones p h = omega (arith, ap ones (or_zero_l (mask_of p)), from-ones 0 p h, ones-zero)

  -- its entries are events
  pub clean-events : (p : List ℕ) → clean_by preds mem p ≡ true → all (bit mem) p ≡ true
  unfolding clean_by
  clean-events p h = from-events 0 p h

  -- the mask of a clean list is within the events
  pub clean-within : (p : List ℕ) → clean_by preds mem p ≡ true → (k : ℕ) → bit (mask_of p) k ≡ true → bit mem k ≡ true
  clean-within p h k i = all-has (bit mem) p k (clean-events p h) (sym (mask-has p k) ∙ i)

  -- so it has at most as many entries as there are events
  pub clean-short : (p : List ℕ) → clean_by preds mem p ≡ true → length p ≤ ones mem
  clean-short p h =
      omega (arith, clean-ones p h, (ones-within mem (mask_of p) mem (lt-pow mem) (clean-within p h)).0)
