use Prim.Native.Nat.{◌-◌}
use mathlib.Core.Path.{◌≡◌}
use native.Mathlib.Omega.{arith}
use lib.ListN.{length-set}
use Rattle.lists.specs.Filled.{up_to}
use Rattle.lists.proofs.FilledLaws.{fill_more}
use Rattle.model.specs.Returns as model
use borrow.Author.Rules.{rules}
use Rattle.returns.proofs.determine.Goals as goal

pub loop-e-init : goal.loop-e-init
unfolding up_to
loop-e-init c = search rules

pub loop-e-preserved : goal.loop-e-preserved
loop-e-preserved c = let v = c.loop-e in
    (omega arith, simp length-set v.invariant.1, fill_more _ _ _ v.e v.invariant.2 (omega arith) c.return_entry.ensures)

pub returns : goal.returns
unfolding model.returns
returns c = let v = c.loop-e in
    let all : v.e ≡ c.args.t.count = omega arith in
    rw all at v.invariant.2
