use Prim.Native.Nat.{ℕ, ◌<◌}
use native.Mathlib.Nat.{lt_of_le_of_lt}
use mathlib.Core.Path.{refl, sym, subst, ◌∙◌}
use lib.Bits.{bit_and, and_le_r}
use Rattle.table.specs.Events.{capacity}
use Rattle.masks.proofs.PartLaws.{lowest-room}
use Rattle.fact_rows.proofs.AroundLaws.{reread-none, reread-all, reread-first}
use Rattle.fact_rows.proofs.reread_row.Goals as goal
use Rattle.fact_rows.proofs.reread_row.Goals.{After-lowest_set-first}

-- the first that stops has room in a mask
lowest : (c : After-lowest_set-first) → c.lowest_set-first.result < capacity
lowest c =
    let a = c.args.a in
    subst (λ (x : ℕ). x < capacity) (sym c.lowest_set-first.ensures)
    (lowest-room _ c.if-stops-eq0.false (lt_of_le_of_lt (and_le_r (bit_and a.writers a.place) _) c.from-later.type_inv))

pub returns-then-not-reads : goal.returns-then-not-reads
returns-then-not-reads c = reread-none _ (sym c.reads.ensures ∙ c.if-not-reads.true)

pub returns-then-stops-eq0 : goal.returns-then-stops-eq0
returns-then-stops-eq0 c = reread-all _ (sym c.reads.ensures ∙ c.if-not-reads.false) _ _ _
    c.from-later.ensures refl refl
    c.if-stops-eq0.true

pub under-requires : goal.under-requires
under-requires c = lowest c

pub one-requires : goal.one-requires
one-requires c = lowest (goal.at.one-requires c).After-lowest_set-first

pub returns : goal.returns
returns c = reread-first _ (sym c.reads.ensures ∙ c.if-not-reads.false) _ _ _
    c.from-later.ensures refl refl
    c.if-stops-eq0.false _ _ _ _ c.lowest_set-first.ensures c.under.ensures c.one.ensures refl
