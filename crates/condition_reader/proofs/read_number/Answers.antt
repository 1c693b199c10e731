use Prim.Native.Nat.{ℕ, ◌+◌}
use mathlib.Core.Path.{◌≡◌, sym, ap, ◌∙◌}
use native.Mathlib.Omega.{arith}
use lib.ListN.{length, get_or, drop}
use Rattle.text_format.specs.Reading.{digits, got}
use Rattle.text_format.proofs.DecimalLaws.{digit-range}
use Rattle.condition_reader.proofs.NumberLaws.{small, number-none, number-bad, number-first, digits-none, digits-stop, digits-bad, digits_more}
use Rattle.condition_reader.proofs.read_number.Goals as goal

pub returns-then-text-from : goal.returns-then-text-from
returns-then-text-from c = (number-none _ _ _ c.if-text-from.true, c.requires.from_in_bounds)

pub returns-then-first : goal.returns-then-first
returns-then-first c = (number-bad _ _ _ c.if-text-from.false c.if-first.true, c.requires.from_in_bounds)

pub loop-at-init : goal.loop-at-init
loop-at-init c =
    let a = c.args in
    let r = digit-range (get_or a.text.now a.from 0) c.if-first.false in (
      number-first _ _ _ c.if-text-from.false c.if-first.false
          ∙ ap (λ (v : ℕ). digits a.most v (drop (a.from + 1) a.text.now)) (sym c.from-value.ensures),
      omega arith,
    )

pub returns-then-digit : goal.returns-then-digit
returns-then-digit c =
    let v = c.loop-at in
    (v.invariant.0 ∙ digits-stop _ _ _ _ c.loop-at-test.true c.if-digit.true, omega arith, omega arith, v.invariant.1)

pub returns-then-value-from : goal.returns-then-value-from
returns-then-value-from c =
    let v = c.loop-at in
    let t = rw (c.from.ensures, c.from-in-loop-at.ensures, c.from-in-loop-at-2.ensures) at c.if-value-from.true in
    (v.invariant.0 ∙ digits-bad _ _ _ _ c.loop-at-test.true c.if-digit.false t, omega arith)

pub loop-at-preserved : goal.loop-at-preserved
loop-at-preserved c =
    let v = c.loop-at in
    let t = rw (c.from.ensures, c.from-in-loop-at.ensures, c.from-in-loop-at-2.ensures) at c.if-value-from.false in
    rw (c.from.ensures, c.from-in-loop-at.ensures)
    (v.invariant.0 ∙ digits_more _ _ _ _ c.loop-at-test.true c.if-digit.false t, small _ _ _ t)

pub returns : goal.returns
returns c =
    let v = c.loop-at in
    let a = c.args in
    let e : v.at ≡ length a.text.now = omega arith in (
      v.invariant.0 ∙ digits-none _ _ _ _ c.loop-at-test.false ∙ ap (λ (k : ℕ). got v.value (drop k a.text.now)) e,
      omega arith,
      omega arith,
      v.invariant.1,
    )
