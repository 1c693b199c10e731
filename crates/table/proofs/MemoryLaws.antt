-- The list of a table's memory events, and their mask.
use Prim.Native.Nat.{ℕ, ◌^◌, ◌≤◌, ◌<◌}
use mathlib.Core.Path.{◌≡◌}
use mathlib.Core.Bool.{true, ◌&&◌}
use lib.Dec.{ltb}
use lib.Count.{ones}
use Rattle.lists.specs.Lists.{has, distinct}
use Rattle.lists.proofs.MemberLaws.{kept-has}
use Rattle.lists.proofs.DistinctLaws.{kept-distinct}
use Rattle.masks.proofs.MaskOfLaws.{mask-below-lt, mask-ones}
use Rattle.table.specs.declared.Table.{Table}
use Rattle.table.specs.Events.{memory, memory_events, memory_count, memory_mask}

module _ (t : Table) where
  -- the list has each
  pub memory-has : (e : ℕ) → has e (memory_events t) ≡ (ltb e t.count && memory t e)
  unfolding memory_events
  memory-has e = kept-has (memory t) t.count e

  -- and none twice
  pub memory-distinct : distinct (memory_events t) ≡ true
  unfolding memory_events
  memory-distinct = kept-distinct (memory t) t.count

  -- their mask is one of w bits
  pub memory-mask-small : (w : ℕ) → t.count ≤ w → memory_mask t < 2 ^ w
  unfolding memory_mask memory_events
  memory-mask-small w h = mask-below-lt (memory t) t.count w h

  -- it has as many bits as there are memory events
  pub memory-mask-ones : ones (memory_mask t) ≡ memory_count t
  unfolding memory_mask memory_count
  memory-mask-ones = mask-ones (memory_events t) memory-distinct
