use native.Mathlib.Omega.{arith}
use mathlib.Core.Path.{subst}
use lib.Count.{ones-le}
use Rattle.successors.specs.CleanMasks.{slots}
use Rattle.search.specs.Begins.{Beginning, BeginsAs}
use Rattle.search.proofs.CallLaws.{at_most, mask-small, counted, unlisted-replied, room-replied, allowance-replied, walk-replied}
use Rattle.search.proofs.search_by.Goals as goal
use Rattle.search.proofs.search_by.Goals.{In-Some}

-- the start is read and followed
beginning : (c : In-Some) → Beginning c.args.facts.now c.predecessors-pred.result c.memory_mask-mem.result c.args.watched
    c.args.start.now c.begin-begun.new.order c.begin-begun.new.goods c.in-Some.from
beginning c =
    subst
    (BeginsAs c.args.facts.now c.predecessors-pred.result c.memory_mask-mem.result c.args.watched c.args.start.now
    c.begin-begun.new.order c.begin-begun.new.goods)
    c.in-Some.is c.begin-begun.ensures

pub successors-succ-requires : goal.successors-succ-requires
successors-succ-requires c = mask-small c.args.t c.memory_mask-mem.ensures c.requires.0

pub overflow_cast-mem : goal.overflow_cast-mem
overflow_cast-mem c = omega (arith, ones-le 32 c.memory_mask-mem.result (omega (arith, mask-small c.args.t c.memory_mask-mem.ensures c.requires.0)))

pub returns-then-out-mem : goal.returns-then-out-mem
returns-then-out-mem c = room-replied c.requires.2 c.predecessors-pred.ensures c.memory_mask-mem.ensures _ _ _ (beginning (goal.at.returns-then-out-mem c).In-Some) (omega (arith, counted c.args.t c.memory_mask-mem.ensures))

pub returns-then-allowance-gt-ALLOWANCE : goal.returns-then-allowance-gt-ALLOWANCE
returns-then-allowance-gt-ALLOWANCE c = allowance-replied c.requires.2 c.predecessors-pred.ensures c.memory_mask-mem.ensures _ _ _ (beginning (goal.at.returns-then-allowance-gt-ALLOWANCE c).In-Some) (omega (arith, counted c.args.t c.memory_mask-mem.ensures)) c.if-allowance-gt-ALLOWANCE.true

pub walk-ending-requires : goal.walk-ending-requires
walk-ending-requires c = let g = beginning (goal.at.walk-ending-requires c).In-Some in
    record { prepared = (c.successors-succ.ensures, g.holds); fact = (g.left, g.long) }

pub deliver-requires : goal.deliver-requires
deliver-requires c = let r = c.walk-ending.ensures.order_len in (
  r.0,
  at_most c.walk-ending.result _ slots (ones-le slots c.memory_mask-mem.result (omega (arith, mask-small c.args.t c.memory_mask-mem.ensures c.requires.0))) r.1,
  at_most c.walk-ending.result _ _ (omega (arith, counted c.args.t c.memory_mask-mem.ensures)) r.1,
)

pub returns-in_default : goal.returns-in_default
returns-in_default c = unlisted-replied c.requires.2 c.predecessors-pred.ensures c.memory_mask-mem.ensures _ _ _ _ _ c.begin-begun.result c.in_default.not-Some
    c.begin-begun.ensures

pub returns : goal.returns
returns c = walk-replied c.requires.2 c.predecessors-pred.ensures c.memory_mask-mem.ensures _ _ _ (beginning (goal.at.returns c).In-Some) c.walk-ending.result _ _ _
    (omega (arith, counted c.args.t c.memory_mask-mem.ensures, c.if-out-mem.false)) c.if-allowance-gt-ALLOWANCE.false c.walk-ending.ensures.runs (c.deliver.ensures.out_after, (c.deliver.ensures.out_after_2, c.deliver.ensures.result_value))
