use mathlib.Core.Path.{sym, ◌∙◌}
use mathlib.Core.List.{[]}
use native.Mathlib.Omega.{arith}
use borrow.Author.Rules.{rules}
use Rattle.std.specs.Prelude.{Err}
use Rattle.table.specs.Events.{capacity}
use Rattle.text_lines.specs.Lines.{event_of}
use Rattle.text_lines.specs.Says.{LinesSay}
use Rattle.text_lines.proofs.RowLaws.{lines_start, lines-bad, lines_more, lines-done, lines-inside, firsts_more, firsts-full}
use Rattle.text_lines.proofs.read_events.Goals as goal
use Rattle.text_lines.proofs.read_events.Goals.{then-count-lt-CAPACITY, else-count-lt-CAPACITY}

pub loop-at-init : goal.loop-at-init
loop-at-init c = lines_start _ _ c.no_event-events.ensures

pub returns-in_err-line : goal.returns-in_err-line
returns-in_err-line c =
    let q = c.in_err-line.ensures in
    let e : LinesSay c.args.text.now (Err c.in_err-line.field-0.0) =
    (lines-bad _ _ _ _ c.loop-at.invariant (sym c.next_is.ensures ∙ c.loop-at-test.true) _ q, q.1) in
    search rules

pub overflow_add-count : goal.overflow_add-count
overflow_add-count c = let q = c.in_ok-line.ensures in
    omega (arith, q.3, q.4, c.loop-at.invariant.few)

pub loop-at-smaller : goal.loop-at-smaller
loop-at-smaller c = let q = c.in_ok-line.ensures in omega (arith, q.3, q.4)

pub loop-at-preserved : goal.loop-at-preserved
loop-at-preserved c = let q = c.in_ok-line.ensures in
    let h = sym c.next_is.ensures ∙ c.loop-at-test.true in
    let p = c.loop-at.invariant in
    lines_more _ _ _ _ p h _ q _
    (elim c.if-count-lt-CAPACITY.branch [ then-count-lt-CAPACITY w ↦ w.events-is ∙ firsts_more event_of [] capacity p.lines q.0 _ p.kept _ p.counted _ w.if-count-lt-CAPACITY.true q.2 | else-count-lt-CAPACITY w ↦ w.events-is ∙ firsts-full event_of [] capacity p.lines q.0 _ p.kept _ p.counted w.if-count-lt-CAPACITY.false ])

pub overflow_add-result : goal.overflow_add-result
overflow_add-result c = let h = sym c.next_is.ensures ∙ c.loop-at-test.false in
    omega (arith, lines-inside _ _ _ _ c.loop-at.invariant h)

pub returns : goal.returns
returns c = let v = c.loop-at in
    let h = sym c.next_is.ensures ∙ c.loop-at-test.false in (
      v.invariant.lines,
      lines-done _ _ _ _ v.invariant h,
      v.invariant.counted,
      v.invariant.kept,
      lines-inside _ _ _ _ v.invariant h,
    )
