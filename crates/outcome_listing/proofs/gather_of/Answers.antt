use mathlib.Core.Path.{ap, subst, ◌∙◌}
use Rattle.successors.specs.Waiting.{Prepared}
use Rattle.event_sets.specs.declared.Sets.{Sets}
use Rattle.search.proofs.CallLaws.{mask-small}
use Rattle.outcome_listing.proofs.StandLaws.{readers-mask}
use Rattle.outcome_listing.proofs.gather_of.Goals as goal

pub successors-succ-requires : goal.successors-succ-requires
successors-succ-requires c = mask-small _ c.memory_mask.ensures c.requires.good_table.0

pub gather-requires : goal.gather-requires
gather-requires c = let v = c.add_values.ensures in
    let p = c.predecessors-pred.ensures in record {
      walks = (
        record { known = v.0; values = v.1; predecessors = p },
        subst (Prepared _ _) c.memory_mask.ensures c.successors-succ.ensures,
      );
      readers_value = (c.requires.good_table.2 ∙ ap (λ (x : Sets). x.readers) c.requires.good_table.1 ∙ readers-mask _, c.requires.room_in_bounds);
    }
