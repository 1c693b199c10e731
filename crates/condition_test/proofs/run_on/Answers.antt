use Prim.Native.Nat.{◌+◌, ◌<◌, ◌^◌}
use native.Mathlib.Omega.{arith}
use mathlib.Core.Path.{sym, ◌∙◌}
use mathlib.Core.Bool.{false}
use lib.ListN.{length, get_or, take}
use Rattle.condition_test.proofs.AtomLaws.{skip-small}
use Rattle.condition_test.proofs.RunLaws.{going_start, going_more, going-refuted, going_end, noted-depth}
use Rattle.condition_test.proofs.run_on.Goals as goal
use Rattle.condition_test.proofs.run_on.Goals.{After-skip_behind-skip}

-- how many words are skipped
small : (c : After-skip_behind-skip) → c.skip_behind-skip.result < 2 ^ 24
small c =
    let w = get_or c.args.words.now c.loop-next.next 0 in
    let f : w < 2 ^ 32 = omega (arith, c.type_inv.words c.loop-next.next) in
    skip-small c.loop-next.bit w _ f c.skip_behind-skip.ensures

pub loop-next-init : goal.loop-next-init
loop-next-init c = (
  omega (arith, c.requires.1, c.requires.0.within),
  c.requires.1,
  going_start c.args.facts.now c.args.left.now c.args.words.now (take c.args.len c.args.order.now)
      c.args.kept.now,
)

pub note-requires : goal.note-requires
note-requires c = c.bit_behind-turn.ensures.depth_le_capacity

pub returns-then-refutes : goal.returns-then-refutes
returns-then-refutes c = let v = c.loop-next in
    let a = c.args in record {
      goes_on = going-refuted a.facts.now a.left.now a.words.now (take a.len a.order.now) a.kept.now v.kept v.depth
          v.bit v.next c.loop-next-test.true v.invariant.2 _ _ c.bit_behind-turn.result.depth
          (v.depth + c.bit_behind-turn.result.depth) c.skip_behind-skip.ensures c.bit_behind-turn.ensures.turns_by (omega arith) (omega arith)
          (sym c.refutes.ensures ∙ c.if-refutes.true) a.len c.note.new.kept c.note.ensures;
      kept_bound = noted-depth v.kept a.len (length a.words.now) false c.bit_behind-turn.result.depth c.note.new.kept c.note.ensures
          v.invariant.1;
    }

pub deeper-depth-requires : goal.deeper-depth-requires
deeper-depth-requires c = (c.loop-next.invariant.0, c.bit_behind-turn.ensures.depth_le_capacity)

pub overflow_add-next : goal.overflow_add-next
overflow_add-next c = omega (arith, small (goal.at.overflow_add-next c).After-skip_behind-skip)

pub overflow_add-next-in-loop-next : goal.overflow_add-next-in-loop-next
overflow_add-next-in-loop-next c = omega (arith, small (goal.at.overflow_add-next-in-loop-next c).After-skip_behind-skip)

pub note-requires-in-loop-next : goal.note-requires-in-loop-next
note-requires-in-loop-next c = c.deeper-depth.ensures.2

pub loop-next-preserved : goal.loop-next-preserved
loop-next-preserved c = let v = c.loop-next in
    let a = c.args in (
      c.deeper-depth.ensures.2,
      noted-depth v.kept a.len (v.next + (1 + c.skip_behind-skip.result)) c.bit_behind-turn.result.bit c.deeper-depth.result
          c.note-in-loop-next.new.kept c.note-in-loop-next.ensures v.invariant.1,
      going_more a.facts.now a.left.now a.words.now (take a.len a.order.now) a.kept.now v.kept v.depth
          v.bit v.next c.loop-next-test.true v.invariant.2 _ _ c.bit_behind-turn.result.depth
          c.deeper-depth.result c.skip_behind-skip.ensures c.bit_behind-turn.ensures.turns_by c.deeper-depth.ensures.0
          c.deeper-depth.ensures.1 a.len c.note-in-loop-next.new.kept c.note-in-loop-next.ensures,
    )

pub returns : goal.returns
returns c = let v = c.loop-next in
    let a = c.args in record {
      goes_on = going_end a.facts.now a.left.now a.words.now (take a.len a.order.now) a.kept.now v.kept v.depth
          v.bit v.next c.loop-next-test.false v.invariant.2;
      kept_bound = v.invariant.1;
    }
