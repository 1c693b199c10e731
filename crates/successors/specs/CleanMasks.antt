-- Clean prefixes over masks. preds: for each event the mask of those that must stand before it; mem: the mask of the events;
-- placed: the mask of those listed already.
use Rattle.std.specs.Prelude.{ℕ, ◌^◌, Bool, true, not, ◌&&◌, List, [], ◌∷◌, get_or, eqb}
use Rattle.std.specs.Int.Bits.{bit_and, bit_or}
use Rattle.masks.specs.Bit.{bit}

-- the bits of a mask, and the entries of an order
abbrev pub slots : ℕ
slots = 32

-- events are below this: a slot less, so that a shift past any event still is a shift by less than the width
abbrev pub limit : ℕ
limit = 31

-- all that must stand before e is placed
unfoldable pub ready : List ℕ → ℕ → ℕ → Bool
ready preds placed e = eqb (bit_and (get_or preds e 0) placed) (get_or preds e 0)

-- e may be placed next: an event, not placed yet, and ready
abbrev pub may_follow : List ℕ → ℕ → ℕ → ℕ → Bool
may_follow preds mem placed e = bit mem e && not (bit placed e) && ready preds placed e

-- each entry of the list may follow those before it and those placed
unfoldable pub clean_from : List ℕ → ℕ → ℕ → List ℕ → Bool
clean_from preds mem placed [] = true
clean_from preds mem placed (e ∷ p) = may_follow preds mem placed e && clean_from preds mem (bit_or placed (2 ^ e)) p

-- distinct events, each with all that must stand before it before it
unfoldable pub clean_by : List ℕ → ℕ → List ℕ → Bool
clean_by preds mem p = clean_from preds mem 0 p
