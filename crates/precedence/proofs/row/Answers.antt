use mathlib.Core.Path.{refl, sym, ap, ◌∙◌}
use lib.Dec.{eqb}
use Rattle.table.specs.declared.Event.{Event}
use Rattle.table.specs.Events.{reading_kind, writing_kind, memory_kind, kind, location, reads, writes, memory, sc}
use Rattle.table.specs.Annotations.{release, rcsc}
use Rattle.event_sets.specs.declared.Sets.{Sets}
use Rattle.event_sets.specs.Sets.{location_set, sets_of}
use Rattle.event_sets.proofs.SetsLaws.{set-has, location-at}
use Rattle.precedence.specs.declared.Passed.{Passed}
use Rattle.precedence.proofs.PassedLaws.{taken_as, earlier-is}
use Rattle.precedence.proofs.RowLaws.{row-none, row_is}
use Rattle.precedence.proofs.row.Goals as goal

pub returns-then-not-memory : goal.returns-then-not-memory
unfolding memory reads writes kind
returns-then-not-memory c t l s p y = let is-memory = c.memory.ensures ∙ ap (λ (e : Event). memory_kind e.kind) y in
    row-none t _ (sym is-memory ∙ c.if-not-memory.true)

pub returns : goal.returns
unfolding memory reads writes kind location sets_of
returns c t l s p y = let b = c.args.b.0 in
    let is-writer = c.writes-writes.ensures ∙ ap (λ (e : Event). writing_kind e.kind) y in
    let is-reader = c.reads-reads.ensures ∙ ap (λ (e : Event). reading_kind e.kind) y in
    let is-memory = c.memory.ensures ∙ ap (λ (e : Event). memory_kind e.kind) y in
    row_is t b l (sym is-memory ∙ c.if-not-memory.false)
    (c.earlier-own.ensures ∙ earlier-is t c.args.s c.args.p c.args.y b s p y c.requires.1)
    (taken_as c.mask_if.ensures is-writer
    (location-at t c.args.s s c.args.y.location.0 c.requires.2 ∙ ap (λ (e : Event). location_set t e.location.0) y))
    (taken_as c.mask_if-2.ensures is-reader (ap (λ (q : Passed). q.before_reads) p))
    (taken_as c.mask_if-3.ensures is-writer (ap (λ (q : Passed). q.before_writes) p))
    (ap (λ (x : Sets). x.acquires) s)
    (taken_as c.mask_if-4.ensures (c.has.ensures ∙ set-has t (release t) _ b (ap (λ (x : Sets). x.releases) s) l) refl)
    (taken_as c.mask_if-5.ensures (c.has-2.ensures ∙ set-has t (rcsc t) _ b (ap (λ (x : Sets). x.rcscs) s) l)
    (ap (λ (x : Sets). x.rcscs) s))
    (taken_as c.mask_if-6.ensures (ap (λ (e : Event). eqb e.kind sc) y) (ap (λ (q : Passed). q.reserved) p))
    (ap (λ (e : Event). e.addr) y)
    (ap (λ (e : Event). e.«data») y)
    (taken_as c.mask_if-7.ensures is-writer (ap (λ (e : Event). e.ctrl) y))
    (taken_as c.mask_if-8.ensures is-writer (ap (λ (q : Passed). q.addressed) p))
