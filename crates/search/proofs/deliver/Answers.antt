use lib.ListN.{length}
use native.Mathlib.Omega.{arith}
use Rattle.successors.specs.CleanMasks.{slots}
use Rattle.prefixes.specs.Answer.{found, spent}
use Rattle.witness_walk.specs.Running.{AtMost}
use Rattle.search.proofs.CallLaws.{copied, none_said, none_written, none-counted}
use mathlib.Core.Path.{subst}
use borrow.Author.Rules.{rules}
use Rattle.search.proofs.deliver.Goals as goal

pub copy-requires : goal.copy-requires
copy-requires c = let p = c.requires in
    let q = c.in-Found.is in
    (p.0, subst (AtMost slots) q p.1, subst (AtMost (length c.args.out.now)) q p.2)

pub copy-requires-in-Spent : goal.copy-requires-in-Spent
copy-requires-in-Spent c = let p = c.requires in
    let q = c.in-Spent.is in
    (p.0, subst (AtMost slots) q p.1, subst (AtMost (length c.args.out.now)) q p.2)

pub returns-in-Found : goal.returns-in-Found
returns-in-Found c = let p = c.requires in
    let w = copied (λ l. found l c.in-Found.visited) c.in-Found.len _ _ _ (omega (arith, p.0, subst (AtMost slots) c.in-Found.is p.1)) c.copy.ensures in
    record {
      out_after = rw c.in-Found.is w.0;
      out_after_2 = rw c.in-Found.is w.1.0;
      result_value = rw c.in-Found.is w.1.1;
    }

pub returns-in-NoneLeft : goal.returns-in-NoneLeft
returns-in-NoneLeft c = record {
  out_after = search (none_said, rules);
  out_after_2 = search (none_written, rules);
  result_value = search (none-counted, rules);
}

pub returns-in-Spent : goal.returns-in-Spent
returns-in-Spent c = let p = c.requires in
    let w = copied (λ l. spent l c.in-Spent.visited) c.in-Spent.len _ _ _ (omega (arith, p.0, subst (AtMost slots) c.in-Spent.is p.1)) c.copy-in-Spent.ensures in
    record {
      out_after = rw c.in-Spent.is w.0;
      out_after_2 = rw c.in-Spent.is w.1.0;
      result_value = rw c.in-Spent.is w.1.1;
    }
