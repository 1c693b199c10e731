-- What the engine's state says, and how it changes as an event is placed or taken back.
use Prim.Native.Nat.{ℕ, suc, ◌+◌, ◌^◌, ◌≤◌, ◌<◌}
use native.Mathlib.Omega.{arith}
use native.Mathlib.Numerals.{add-one}
use native.Mathlib.Nat.{lt_of_le_of_lt}
use mathlib.Core.Path.{◌≡◌, sym, ap, ap₂, ◌∙◌, subst}
use mathlib.Core.Bool.{Bool, true, false, ◌&&◌}
use mathlib.Core.List.{List, [], ◌∷◌, ◌++◌}
use lib.ListN.{get_or, take, set, length-set}
use lib.Seq.{take-suc, take-suc-set}
use lib.Bits.{bit_and, bit_or, bit_xor, or_zero_l}
use lib.Count.{ones, ones-le}
use Rattle.masks.specs.Bit.{bit}
use Rattle.masks.specs.MaskOf.{mask_of}
use Rattle.masks.proofs.PowerLaws.{ones-or, xor-or}
use Rattle.masks.proofs.UnionLaws.{mask_append}
use Rattle.masks.proofs.WithinLaws.{bit_below, within-le}
use Rattle.lists.proofs.BoolLaws.{and_l, and_r}
use Rattle.successors.specs.CleanMasks.{slots, limit, may_follow, clean_by}
use Rattle.successors.specs.Waiting.{Prepared}
use Rattle.ready_events.specs.Current.{Current}
use Rattle.engine.specs.State.{Holds}
use Rattle.ready_events.proofs.CleanLaws.{event, fresh, clean-snoc, clean-within}
use Rattle.ready_events.proofs.KeptLaws.{back-current}

-- the mask of one more entry
pub mask-snoc : (p : List ℕ) (e : ℕ) → mask_of (p ++ (e ∷ [])) ≡ bit_or (mask_of p) (2 ^ e)
unfolding mask_of
mask-snoc p e = mask_append p (e ∷ []) ∙ ap (bit_or (mask_of p)) (or_zero_l (2 ^ e))

module _ {preds succs : List ℕ} {mem : ℕ} (tables : Prepared preds succs mem) where
  module _ {order : List ℕ} {len placed can : ℕ} (state : Holds preds mem order len placed can) where
    -- there is room for one more entry
    pub room : len < slots
    room =
        let within = within-le (mask_of (take len order)) mem (clean-within preds mem (take len order) state.clean) in
        let small : placed ≤ mem = rw state.mask within in
        omega (arith, ones-le limit placed (lt_of_le_of_lt small tables.small), state.counted)

    -- the prefix with one more entry is clean exactly when that may come next
    pub clean-next : (e : ℕ) → clean_by preds mem (take len order ++ (e ∷ [])) ≡ bit can e
    clean-next e =
        clean-snoc preds mem (take len order) e
        ∙ ap₂ (λ (s t : Bool). s && t) state.clean (ap (λ (m : ℕ). may_follow preds mem m e) (sym state.mask) ∙ sym (state.current e))

    -- an entry that is stored behind the prefix
    pub path-stored : (e : ℕ) → take (len + 1) (set order len e) ≡ take len order ++ (e ∷ [])
    path-stored e = rw (add-one len) (take-suc-set order len e (omega (arith, room, state.long)))

    -- once an event that may come next is stored, the state holds with it placed
    pub holds-placed : (e placed' can' : ℕ) → bit can e ≡ true → placed' ≡ bit_or placed (2 ^ e) → Current preds mem placed' can' →
        Holds preds mem (set order len e) (len + 1) placed' can'
    holds-placed e placed' can' h q s = record {
      long = length-set order len e ∙ state.long;
      clean = ap (clean_by preds mem) (path-stored e) ∙ clean-next e ∙ h;
      mask = q ∙ ap (λ (m : ℕ). bit_or m (2 ^ e)) state.mask ∙ sym (mask-snoc (take len order) e) ∙ ap mask_of (sym (path-stored e));
      counted = omega (arith, state.counted, ap ones q, ones-or placed e (fresh preds mem placed e (sym (state.current e) ∙ h)));
      current = s;
    }

    -- The last entry of a nonempty prefix.
    module _ {m e : ℕ} (some : len ≡ suc m) (last : e ≡ get_or order m 0) where
      -- the mask of those before it
      abbrev rest : ℕ
      rest = mask_of (take m order)

      pub path-last : take len order ≡ take m order ++ (e ∷ [])
      path-last = rw (some, last) (take-suc order m 0 (omega (arith, room, state.long)))

      -- it could follow those before it
      last-clean : (clean_by preds mem (take m order) && may_follow preds mem rest e) ≡ true
      last-clean = sym (clean-snoc preds mem (take m order) e) ∙ sym (ap (clean_by preds mem) path-last) ∙ state.clean

      last-follows : may_follow preds mem rest e ≡ true
      last-follows = and_r (clean_by preds mem (take m order)) (may_follow preds mem rest e) last-clean

      -- so it is an event
      pub last-below : e < limit
      last-below = bit_below limit mem e tables.small (event preds mem rest e last-follows)

      last-fresh : bit rest e ≡ false
      last-fresh = fresh preds mem rest e last-follows

      last-placed : placed ≡ bit_or rest (2 ^ e)
      last-placed = state.mask ∙ ap mask_of path-last ∙ mask-snoc (take m order) e

      -- once it is taken back, the state holds without it
      pub holds-back : {placed' can' : ℕ} → placed' ≡ bit_xor placed (2 ^ e) →
          can' ≡ bit_or (bit_xor can (bit_and can (get_or succs e 0))) (2 ^ e) → Holds preds mem order m placed' can'
      holds-back {placed'} {can'} q r = record {
        long = state.long;
        clean = and_l (clean_by preds mem (take m order)) (may_follow preds mem rest e) last-clean;
        mask = without;
        counted = omega (arith, state.counted, some, ap ones last-placed, ones-or rest e last-fresh, ap ones without);
        current = λ k. ap (λ (x : ℕ). bit x k) r ∙ kept k ∙ ap (λ (x : ℕ). may_follow preds mem x k) (sym without);
      }
        where
          without : placed' ≡ rest
          without = q ∙ ap (λ (x : ℕ). bit_xor x (2 ^ e)) last-placed ∙ xor-or rest e last-fresh

          kept : Current preds mem rest (bit_or (bit_xor can (bit_and can (get_or succs e 0))) (2 ^ e))
          kept =
              back-current preds mem rest can e (get_or succs e 0)
              (subst (λ (x : ℕ). Current preds mem x can) last-placed state.current) last-follows
              (tables.waiting e (omega (arith, last-below)))
