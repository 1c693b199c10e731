use mathlib.Core.Path.{refl, ap, ◌∙◌}
use lib.Dec.{eqb}
use Rattle.table.specs.declared.Event.{Event}
use Rattle.table.specs.Events.{kind, fence}
use Rattle.table.specs.Annotations.{flags, pr, pw}
use Rattle.event_sets.specs.declared.Sets.{Sets}
use Rattle.event_sets.specs.Sets.{sets_of}
use Rattle.precedence.proofs.PassedLaws.{taken_as, precedes-is}
use Rattle.precedence.proofs.predecessor_set.Goals as goal

pub returns : goal.returns
unfolding sets_of kind flags
returns c t k s f = precedes-is t k c.mask_if-readers.result c.mask_if-writers.result _
    (taken_as c.mask_if-readers.ensures (c.flagged.ensures ∙ ap (λ (e : Event). pr e.flags) f)
    (ap (λ (x : Sets). x.readers) s))
    (taken_as c.mask_if-writers.ensures (c.flagged-2.ensures ∙ ap (λ (e : Event). pw e.flags) f) (ap (λ (x : Sets). x.writers) s))
    (taken_as c.mask_if.ensures (ap (λ (e : Event). eqb e.kind fence) f) refl)
