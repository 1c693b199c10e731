use native.Mathlib.Omega.{arith}
use mathlib.Core.Path.{refl, subst}
use Rattle.deciding.specs.Deciding.{GoesOn}
use Rattle.deciding.proofs.ReplyLaws.{count-is, decides-none, decides-found, none-unmet, next-found, next-none}
use Rattle.deciding.proofs.decide_by.Goals as goal

pub returns-then-facts-ne0 : goal.returns-then-facts-ne0
returns-then-facts-ne0 c = decides-none c.args.t c.args.start.now (none-unmet c.args.t c.args.start.now c.of_table-facts.ensures c.if-facts-ne0.true)

pub overflow_cast-count : goal.overflow_cast-count
overflow_cast-count c = omega (arith, (count-is (c.ties_of-ties.ensures _ c.of_table-facts.ensures) _ refl).1)

pub next-requires : goal.next-requires
next-requires c = (
  (c.args.t, (c.ties_of-ties.ensures _ c.of_table-facts.ensures)),
  omega (
    arith,
    (count-is (c.ties_of-ties.ensures _ c.of_table-facts.ensures) _ refl).1,
  ),
)

pub overflow_cast-count-then-next : goal.overflow_cast-count-then-next
overflow_cast-count-then-next c = omega (arith, (count-is (c.ties_of-ties.ensures _ c.of_table-facts.ensures) _ refl).1)

pub copy-requires : goal.copy-requires
copy-requires c = let n = count-is (c.ties_of-ties.ensures _ c.of_table-facts.ensures) _ refl in
    (c.next.auto.order, n.1, omega (arith, n.0, c.requires.1))

pub overflow_cast-result : goal.overflow_cast-result
overflow_cast-result c = omega (arith, (count-is (c.ties_of-ties.ensures _ c.of_table-facts.ensures) _ refl).1)

pub returns-then-next : goal.returns-then-next
returns-then-next c = let n = count-is (c.ties_of-ties.ensures _ c.of_table-facts.ensures) _ refl in
    decides-found c.args.t c.args.start.now c.next.new.order _ (omega (
      arith,
      n.1,
      c.next.auto.order,
    )) c.copy.ensures (next-found c.args.t c.args.start.now (c.ties_of-ties.ensures _ c.of_table-facts.ensures) c.first-first.ensures n.0 c.if-facts-ne0.false c.requires.2 (subst (GoesOn _
    _ _ _ _ _ _ _ _ _) c.if-next.true c.next.ensures))

pub returns-else-next : goal.returns-else-next
returns-else-next c = decides-none c.args.t c.args.start.now (next-none c.args.t c.args.start.now (c.ties_of-ties.ensures
    _ c.of_table-facts.ensures) c.first-first.ensures (count-is (c.ties_of-ties.ensures _ c.of_table-facts.ensures) _ refl).0
    c.if-facts-ne0.false c.requires.2 (subst (GoesOn _ _ _ _ _ _ _ _ _ _) c.if-next.false c.next.ensures))
