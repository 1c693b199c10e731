-- Laws for the loop that reads a start into the order.
use Prim.Native.Nat.{ℕ, suc, ◌+◌, ◌^◌, ◌≤◌, ◌<◌}
use native.Mathlib.Omega.{arith}
use native.Mathlib.Numerals.{add-one}
use mathlib.Core.Path.{◌≡◌, refl, sym, ap, ◌∙◌, subst}
use mathlib.Core.Bool.{Bool, true, false, not, ◌&&◌, and-true}
use mathlib.Core.List.{List, [], ◌∷◌, ◌++◌}
use lib.ListN.{length, get_or, take, drop, set}
use lib.Seq.{take-suc, take_all, split_at}
use lib.Bits.{bit_or}
use lib.Count.{ones}
use Rattle.masks.specs.Bit.{bit}
use Rattle.masks.specs.MaskOf.{mask_of}
use Rattle.masks.proofs.BitLaws.{bit-zero}
use Rattle.successors.specs.CleanMasks.{slots, ready, may_follow, clean_from, clean_by}
use Rattle.successors.specs.Waiting.{Prepared}
use Rattle.ready_events.specs.Current.{Current}
use Rattle.engine.specs.State.{Holds, Began}
use Rattle.ready_events.proofs.CleanLaws.{unclean-at}
use Rattle.engine.proofs.StateLaws.{room, path-stored, holds-placed}

-- the first len entries of the start are read into the order
pub record Reading (preds succs : List ℕ) (mem : ℕ) (start order : List ℕ) (len placed can : ℕ) : Type 0 where
  pub tables : Prepared preds succs mem
  pub holds : Holds preds mem order len placed can
  pub within : len ≤ length start
  pub read : take len order ≡ take len start

-- at first those events may come next that need none before them
start-current : (preds : List ℕ) (mem can : ℕ) → ((k : ℕ) → bit can k ≡ (bit mem k && ready preds 0 k)) → Current preds mem 0 can
start-current preds mem can f k =
    f k ∙ ap (λ (t : Bool). t && ready preds 0 k) (sym (and-true (bit mem k)))
    ∙ ap (λ (t : Bool). bit mem k && not t && ready preds 0 k) (sym (bit-zero k))

pub read_none : {preds succs start order : List ℕ} {mem can : ℕ} → Prepared preds succs mem → length order ≡ slots →
    ((k : ℕ) → bit can k ≡ (bit mem k && ready preds 0 k)) → Reading preds succs mem start order 0 0 can
unfolding clean_by clean_from mask_of ones
read_none {preds} {mem = mem} {can = can} t h f = record {
  tables = t;
  holds = record { long = h; clean = refl; mask = refl; counted = refl; current = start-current preds mem can f };
  within = omega arith;
  read = refl;
}

module _ {preds succs start order : List ℕ} {mem len placed can : ℕ} (reading : Reading preds succs mem start order len placed can) where
  -- there is room for one more
  pub read-room : len < slots
  read-room = room reading.tables reading.holds

  -- the next entry may not come next
  pub read-unclean : len < length start → bit can (get_or start len 0) ≡ false → clean_by preds mem start ≡ false
  read-unclean h n =
      let e : ℕ = get_or start len 0 in
      let m : placed ≡ mask_of (take len start) = reading.holds.mask ∙ ap mask_of reading.read in
      ap (clean_by preds mem) (split_at start len 0 h)
      ∙ unclean-at preds mem (take len start) e (drop (suc len) start)
      (ap (λ (x : ℕ). may_follow preds mem x e) (sym m) ∙ sym (reading.holds.current e) ∙ n)

  -- it may, and is stored and placed
  pub read_more : {placed' can' : ℕ} → len < length start → bit can (get_or start len 0) ≡ true →
      placed' ≡ bit_or placed (2 ^ get_or start len 0) → Current preds mem placed' can' →
      Reading preds succs mem start (set order len (get_or start len 0)) (len + 1) placed' can'
  read_more h p q s = record {
    tables = reading.tables;
    holds = holds-placed reading.tables reading.holds (get_or start len 0) _ _ p q s;
    within = omega arith;
    read =
        path-stored reading.tables reading.holds (get_or start len 0)
        ∙ ap (λ (l : List ℕ). l ++ (get_or start len 0 ∷ [])) reading.read ∙ sym (rw (add-one len) (take-suc start len 0 h));
  }

  -- all are read
  pub read_all : length start ≤ len → Began preds mem start order (length start) placed can
  read_all h =
      let e : len ≡ length start = omega arith in
      subst (λ (n : ℕ). Began preds mem start order n placed can) e (record { same = reading.read ∙ take_all len start h; holds = reading.holds })
