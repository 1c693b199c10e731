use mathlib.Core.Path.{refl, sym, ◌∙◌}
use native.Mathlib.Omega.{arith}
use borrow.Author.Rules.{rules}
use Rattle.std.specs.Prelude.{Err}
use Rattle.edition.specs.Limits.{max_locations}
use Rattle.text_lines.specs.Says.{ValuesSay}
use Rattle.text_lines.proofs.RowLaws.{byte_inside, values-start, values-bad, values-more, values-bare, values-end, itself, firsts_more, firsts-full}
use Rattle.text_lines.proofs.read_values.Goals as goal
use Rattle.text_lines.proofs.read_values.Goals.{then-count-lt-LOCATIONS, else-count-lt-LOCATIONS}

pub loop-number-init : goal.loop-number-init
loop-number-init c = values-start _ _ c.requires

pub returns-in_err-number : goal.returns-in_err-number
returns-in_err-number c =
    let q = c.in_err-number.ensures in
    let e : ValuesSay c.args.text.now c.args.from (Err c.in_err-number.field-0.0) = (values-bad _ _ _ _ _ c.loop-number.invariant _ q, q.1) in
    search rules

pub overflow_cast-initial : goal.overflow_cast-initial
overflow_cast-initial c = let q = c.in_ok-number.ensures in omega (arith, q.3)

pub overflow_add-count : goal.overflow_add-count
overflow_add-count c = let q = c.in_ok-number.ensures in
    omega (arith, q.1, q.2, c.loop-number.invariant.few)

pub returns-in_err-next : goal.returns-in_err-next
returns-in_err-next c = let p = c.loop-number.invariant in
    let n = c.in_ok-number.ensures in
    let q = c.in_err-next.ensures in
    let e : ValuesSay c.args.text.now c.args.from (Err c.in_err-next.field-0.0) =
    (values-bare _ _ _ _ _ p _ n (sym c.next_is.ensures ∙ c.if-not-next_is.true) _ q, q.1) in
    search rules

pub returns-then-not-next_is : goal.returns-then-not-next_is
returns-then-not-next_is c = let p = c.loop-number.invariant in
    let n = c.in_ok-number.ensures in
    let q = c.in_ok-next.ensures in
    values-end _ _ _ _ _ p _ n _
    (elim c.if-count-lt-LOCATIONS.branch [ then-count-lt-LOCATIONS w ↦ w.initial'-is ∙ firsts_more itself 0 max_locations p.vs _ _ p.kept _ p.counted _ w.if-count-lt-LOCATIONS.true refl | else-count-lt-LOCATIONS w ↦ w.initial'-is ∙ firsts-full itself 0 max_locations p.vs _ _ p.kept _ p.counted w.if-count-lt-LOCATIONS.false ])
    (sym c.next_is.ensures ∙ c.if-not-next_is.true) _ q

pub overflow_add-at : goal.overflow_add-at
overflow_add-at c = let s = c.args.text.now in
    let h = sym c.next_is.ensures ∙ c.if-not-next_is.false in
    omega (arith, byte_inside s c.in_ok-number.number.next 31 h)

pub loop-number-smaller : goal.loop-number-smaller
loop-number-smaller c = let q = c.in_ok-number.ensures in
    let s = c.args.text.now in
    let h = sym c.next_is.ensures ∙ c.if-not-next_is.false in
    omega (arith, q.2, byte_inside s c.in_ok-number.number.next 31 h)

pub loop-number-preserved : goal.loop-number-preserved
loop-number-preserved c = let p = c.loop-number.invariant in
    let q = c.in_ok-number.ensures in
    values-more _ _ _ _ _ p _ q _
    (elim c.if-count-lt-LOCATIONS.branch [ then-count-lt-LOCATIONS w ↦ w.initial'-is ∙ firsts_more itself 0 max_locations p.vs _ _ p.kept _ p.counted _ w.if-count-lt-LOCATIONS.true refl | else-count-lt-LOCATIONS w ↦ w.initial'-is ∙ firsts-full itself 0 max_locations p.vs _ _ p.kept _ p.counted w.if-count-lt-LOCATIONS.false ])
    (sym c.next_is.ensures ∙ c.if-not-next_is.false)
