use Prim.Native.Nat.{ℕ}
use mathlib.Core.Bool.{cond}
use mathlib.Core.Path.{◌≡◌, refl, sym, ◌∙◌}
use lib.Dec.{eqb}
use borrow.Author.Rules.{rules}
use Rattle.std.specs.List.{count_by}
use Rattle.std.proofs.lemmas.List.Recursion.{is_sum_by}
use Rattle.lists.specs.Lists.{count}
use Rattle.candidate.proofs.count_of.Goals as goal

pub returns : goal.returns
returns c = let e = c.args.e.0 in
    let l = c.args.gmo.now in
    let counted : c.count.result ≡ count_by (eqb e) l = search rules in
    counted ∙ sym (is_sum_by (count e) (λ (x : ℕ). cond (eqb e x) 1 0) refl (λ _ _. refl) l)
