-- What the engine's masks and its order stand for, and what its answers say.
use Rattle.std.specs.Prelude.{ℕ, ◌≡◌, true, false, List, Option, Some, None, length, take}
use Rattle.std.specs.Int.Count.{ones}
use Rattle.masks.specs.MaskOf.{mask_of}
use Rattle.successors.specs.CleanMasks.{slots, clean_by}
use Rattle.ready_events.specs.declared.Masks.{Masks}
use Rattle.ready_events.specs.Current.{Current}

-- the first len entries of order are a clean prefix, placed is its mask, and can the mask of the events that may come next
pub record Holds (preds : List ℕ) (mem : ℕ) (order : List ℕ) (len placed can : ℕ) : Type 0 where
  pub long : length order ≡ slots
  pub clean : clean_by preds mem (take len order) ≡ true
  pub mask : placed ≡ mask_of (take len order)
  pub counted : len ≡ ones placed
  pub current : Current preds mem placed can

-- of a start that was read into order
pub record Began (preds : List ℕ) (mem : ℕ) (start order : List ℕ) (len placed can : ℕ) : Type 0 where
  pub same : take len order ≡ start
  pub holds : Holds preds mem order len placed can

-- a start that isn't clean isn't read
abbrev pub LoadedAs : List ℕ → ℕ → List ℕ → List ℕ → Option Masks → Type 0
LoadedAs preds mem start order (Some masks) = Began preds mem start order (length start) masks.placed masks.can
LoadedAs preds mem start order None = clean_by preds mem start ≡ false
