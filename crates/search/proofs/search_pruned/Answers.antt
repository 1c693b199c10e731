use mathlib.Core.Path.{ap}
use Rattle.event_sets.specs.declared.Sets.{Sets}
use Rattle.search.proofs.PrunedLaws.{replied-pruned}
use Rattle.search.proofs.search_pruned.Goals as goal

pub returns : goal.returns
returns c = let r = replied-pruned c.requires (ap (λ (x : Sets). x.readers) c.of_table-s.ensures) _ _ _ c.search_by.ensures in
    record { out_after = r.reply; out_after_2 = r.buffer; result_value = r.length }
