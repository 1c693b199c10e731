-- The static part of preserved program order (static ppo) as masks: what the engine is handed of a table.
use Rattle.std.specs.Prelude.{ℕ, List}
use Rattle.lists.specs.Below.{below}
use Rattle.lists.specs.Lists.{keep}
use Rattle.lists.specs.Filled.{padded}
use Rattle.masks.specs.MaskOf.{mask_of}
use Rattle.table.specs.declared.Table.{Table}
use Rattle.model.specs.Rules.{static_ppo}
use Rattle.successors.specs.CleanMasks.{slots}

-- the mask of the steady predecessors of b
unfoldable pub predecessor_mask : Table → ℕ → ℕ
predecessor_mask t b = mask_of (keep (λ a. static_ppo t a b) (below t.count))

-- that of each event; a slot past the events has none
unfoldable pub predecessor_masks : Table → List ℕ
predecessor_masks t = padded slots t.count (predecessor_mask t)
