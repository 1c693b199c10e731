use Prim.Native.Nat.{ℕ}
use mathlib.Core.List.{[], ◌∷◌}
use Rattle.lists.specs.Reply.{answered}
use Rattle.advice.specs.Advice.{search_with, first_unfound}
use Rattle.advising.specs.Chosen.{events_in}
use mathlib.Core.Path.{◌≡◌, refl, sym, ap, ◌∙◌}
use Rattle.std.specs.Prelude.{Result, Ok}
use Rattle.std.proofs.lemmas.Result.{err_from_is_err_and}
use Rattle.refusals.specs.declared.Refusal.{Refusal}
use Rattle.witness_walk.specs.declared.Ending.{Ending}
use Rattle.advising.specs.Replies.{advice_of}
use Rattle.advising.proofs.SaidLaws.{advice_by, facts-with, said-by}
use Rattle.advising.proofs.try_set.Goals as goal
use Rattle.advising.proofs.try_set.Goals.{After-search_by}

-- what the reply says of the set
module _ (c : After-search_by) where
  abbrev set : ℕ
  set = c.args.set

  replied : (r : Result Ending Refusal) → c.search_by.result ≡ r →
      advice_of (advice_by set r) ≡ answered (first_unfound (search_with c.args.t c.args.allowance) (events_in set ∷ []))
  replied r q =
      ap (λ (x : Result Ending Refusal). advice_of (advice_by set x)) (sym q)
      ∙ said-by set c.requires.0 c.with_fences-u.ensures c.requires.1 refl c.search_by.ensures

pub of_table-sets-requires : goal.of_table-sets-requires
of_table-sets-requires c = (facts-with _ c.requires.0 c.with_fences-u.ensures).table.small

pub search_by-requires : goal.search_by-requires
search_by-requires c = let k = facts-with _ c.requires.0 c.with_fences-u.ensures in (k.table, c.of_table-sets.ensures, k)

pub returns-in_err-ending : goal.returns-in_err-ending
returns-in_err-ending c =
    let p = err_from_is_err_and c.from_residual.result c.from_residual.ensures.1 in
    rw (p.1, p.2) (replied (goal.at.returns-in_err-ending c).After-search_by _ c.in_err-ending.was)

pub returns-in-Found : goal.returns-in-Found
returns-in-Found c = replied (goal.at.returns-in-Found c).After-search_by _ (c.in_ok-ending.was ∙ ap (λ (x : Ending). Ok x) c.in-Found.is)

pub returns-in-NoneLeft : goal.returns-in-NoneLeft
returns-in-NoneLeft c = replied (goal.at.returns-in-NoneLeft c).After-search_by _ (c.in_ok-ending.was ∙ ap (λ (x : Ending). Ok x) c.in-NoneLeft.is)

pub returns-in-Spent : goal.returns-in-Spent
returns-in-Spent c = replied (goal.at.returns-in-Spent c).After-search_by _ (c.in_ok-ending.was ∙ ap (λ (x : Ending). Ok x) c.in-Spent.is)
