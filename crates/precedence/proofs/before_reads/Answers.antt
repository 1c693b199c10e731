use mathlib.Core.Path.{ap, ◌∙◌}
use lib.Dec.{eqb}
use Rattle.table.specs.declared.Event.{Event}
use Rattle.table.specs.Events.{kind, fencetso}
use Rattle.table.specs.Annotations.{flags, sr}
use Rattle.event_sets.specs.declared.Sets.{Sets}
use Rattle.event_sets.specs.Sets.{sets_of}
use Rattle.precedence.proofs.PassedLaws.{taken_as, reads-is}
use Rattle.precedence.proofs.before_reads.Goals as goal

pub returns : goal.returns
unfolding sets_of kind flags
returns c t k s f = reads-is t k c.mask_if.result c.mask_if-2.result
    (taken_as c.mask_if.ensures (c.flagged.ensures ∙ ap (λ (e : Event). sr e.flags) f)
    (c.predecessor_set.ensures t k s f))
    (taken_as c.mask_if-2.ensures (ap (λ (e : Event). eqb e.kind fencetso) f) (ap (λ (x : Sets). x.readers) s))
