use mathlib.Core.Path.{◌≡◌, subst}
use mathlib.Core.Bool.{true}
use lib.ListN.{get_or}
use Rattle.condition_test.specs.Kept.{Begins}
use Rattle.condition_test.proofs.RunLaws.{resumes-kept, resumes-first}
use Rattle.condition_test.proofs.resume.Goals as goal

pub returns-then-not-begins : goal.returns-then-not-begins
returns-then-not-begins c = let a = c.args in resumes-first a.seen.now a.order.now a.len a.kept.now

pub returns-else-not-begins : goal.returns-else-not-begins
returns-else-not-begins c = let a = c.args in
    let e : c.begins.result ≡ true = c.if-not-begins.false in
    resumes-kept a.seen.now a.order.now a.len a.kept.now
    (subst (Begins a.seen.now a.order.now a.len (get_or a.kept.now 2 0)) e c.begins.ensures)
