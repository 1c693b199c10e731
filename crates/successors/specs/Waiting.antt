-- What the masks of the events that wait for another stand for.
use Rattle.std.specs.Prelude.{ℕ, ◌^◌, ◌<◌, ◌≡◌, cond, ◌&&◌, List, length, get_or}
use Rattle.std.specs.Int.Bits.{bit_or}
use Rattle.masks.specs.Bit.{bit}
use Rattle.successors.specs.CleanMasks.{slots, limit}

-- m is the mask of the events of mem that wait for e
abbrev pub Waiting : List ℕ → ℕ → ℕ → ℕ → Type 0
Waiting preds mem e m = (k : ℕ) → bit m k ≡ (bit mem k && bit (get_or preds k 0) e)

-- succs has for each event the mask of those that wait for it
pub record Prepared (preds succs : List ℕ) (mem : ℕ) : Type 0 where
  pub small : mem < 2 ^ limit
  pub waiting : (e : ℕ) → e < slots → Waiting preds mem e (get_or succs e 0)

-- event k was added to the masks, in succs, of the events of preds
pub record Added (succs : List ℕ) (preds k : ℕ) (added : List ℕ) : Type 0 where
  pub long : length added ≡ slots
  pub each : (e : ℕ) → e < slots → get_or added e 0 ≡ bit_or (get_or succs e 0) (cond (bit preds e) (2 ^ k) 0)
