use Prim.Native.Nat.{◌^◌}
use mathlib.Core.Path.{refl, ap, ◌∙◌}
use mathlib.Core.Bool.{Bool, cond, ◌||◌}
use lib.Dec.{eqb}
use lib.Bits.{bit_and, bit_or, bit_xor}
use Rattle.table.specs.declared.Event.{Event}
use Rattle.table.specs.Events.{memory_kind, event, kind, reads, writes, memory, lr, sc}
use Rattle.precedence.specs.declared.Passed.{Passed}
use Rattle.precedence.specs.Passed.{reserving, passed_at}
use Rattle.precedence.proofs.PassedLaws.{taken_as, passed-same, earlier-is}
use Rattle.precedence.proofs.PassedLaws.{memory-next, addressed-next, reads-next, writes-next, reserved-next}
use Rattle.precedence.proofs.pass.Goals as goal

pub one_if-requires-2 : goal.one_if-requires-2
one_if-requires-2 c = c.requires.0

pub returns : goal.returns
unfolding event kind memory reads writes reserving passed_at
returns c t l s p e = let k = c.args.k.0 in
    let own = c.earlier-own.result in
    let o = c.earlier-own.ensures ∙ earlier-is t c.args.s c.args.p c.args.e k s p e c.requires.1 in
    let is-memory = c.memory-memory.ensures ∙ ap (λ (d : Event). memory_kind d.kind) e in
    passed-same
    (ap (λ (q : Passed). bit_or q.memory c.one_if.result) p
    ∙ memory-next t k l _ (c.one_if.ensures ∙ ap (λ (b : Bool). cond b (2 ^ k) 0) is-memory))
    (ap (λ (q : Passed). bit_or q.addressed c.mask_if-2.result) p
    ∙ addressed-next t k own o _ (taken_as c.mask_if-2.ensures is-memory (ap (λ (d : Event). bit_and own d.addr) e)))
    (ap (λ (q : Passed). bit_or q.before_reads (bit_and own c.before_reads.result)) p
    ∙ reads-next t k own o _ (c.before_reads.ensures t k s e))
    (ap (λ (q : Passed). bit_or q.before_writes (bit_and own c.before_writes.result)) p
    ∙ writes-next t k own o _ (c.before_writes.ensures t k s e))
    (ap (λ (q : Passed). bit_or (bit_xor q.reserved (bit_and q.reserved c.mask_if.result)) c.one_if-2.result) p
    ∙ reserved-next t k own o l _ _ (taken_as c.mask_if.ensures (ap (λ (d : Event). eqb d.kind lr || eqb d.kind sc) e) refl)
    (c.one_if-2.ensures ∙ ap (λ (d : Event). cond (eqb d.kind lr) (2 ^ k) 0) e))
