use Prim.Native.Nat.{ℕ, ◌+◌, ◌^◌, ◌≤◌, ◌<◌}
use mathlib.Core.Path.{◌≡◌, refl, sym, ap, ◌∙◌}
use mathlib.Core.Bool.{Bool, true, false, not}
use native.Mathlib.Omega.{arith}
use lib.Dec.{eqb}
use borrow.Author.Tests.{eqb-true, eqb-false, lt-leb, le-leb}
use Rattle.lists.proofs.BoolLaws.{and_left, and-taken}
use Rattle.lists.proofs.SomeLaws.{some_at, some-none}
use Rattle.table.specs.declared.Table.{Table}
use Rattle.table.specs.Events.{capacity, event}
use Rattle.refusals.specs.TableLines.{blank, past_not_blank}
use borrow.Author.Rules.{rules}
use Rattle.whole_lines.proofs.past_not_blank.Goals as goal
use Rattle.whole_lines.proofs.past_not_blank.Invariants.{Blank}

blank-start : (t : Table) → t.count < 2 ^ 8 → Blank t t.count
unfolding past_not_blank
blank-start t b = record { byte = b; past = omega arith; none = λ j l. sym (and_left _ _ (lt-leb t.count j l)) }

asked : (t : Table) (k : ℕ) → t.count ≤ k → not (blank (event t k)) ≡ past_not_blank t k
unfolding past_not_blank
asked t k l = and-taken _ _ (le-leb t.count k l)

blank-more : (t : Table) (k : ℕ) → Blank t k → k < capacity → not (blank (event t k)) ≡ false → Blank t (k + 1)
blank-more t k b room e = record { byte = omega (arith, room); past = omega (arith, b.past); none = λ j l. go j l (eqb j k) refl }
  where
    go : (j : ℕ) → j < k + 1 → (c : Bool) → eqb j k ≡ c → past_not_blank t j ≡ false
    go j l true z = ap (past_not_blank t) (eqb-true j k z) ∙ sym (asked t k b.past) ∙ e
    go j l false z = b.none j (omega (arith, l, eqb-false j k z))

pub loop-k-init : goal.loop-k-init
loop-k-init c = blank-start _ (search rules)

pub returns-then-not-blank : goal.returns-then-not-blank
unfolding event
returns-then-not-blank c = let v = c.loop-k in
    sym (some_at capacity (past_not_blank c.args.t) v.k (omega arith) (sym (asked c.args.t v.k v.invariant.past) ∙ ap not (rw (c.blank.ensures, c.from.ensures) at c.if-not-blank.true)))

pub loop-k-preserved : goal.loop-k-preserved
unfolding event
loop-k-preserved c = blank-more _ _ c.loop-k.invariant (omega arith) (ap not (rw (c.blank.ensures, c.from.ensures) at c.if-not-blank.false))

pub returns : goal.returns
returns c = sym (some-none capacity _ (λ j l. c.loop-k.invariant.none j (omega (arith, l))))
