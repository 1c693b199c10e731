use mathlib.Core.Bool.{◌&&◌}
use mathlib.Core.Path.{◌≡◌, refl, ◌∙◌}
use borrow.Author.Rules.{rules}
use borrow.Author.Tests.{tests}
use Rattle.std.specs.List.{list_all}
use Rattle.std.proofs.lemmas.Iterator.{YieldsList-from_slice}
use Rattle.std.proofs.lemmas.Iterator.Search.{all_from_yields_List}
use Rattle.std.proofs.lemmas.List.Recursion.{same_from_clauses}
use Rattle.lists.specs.Lists.{all}
use Rattle.model.specs.Witness.{is_memory_event}
use Rattle.candidate.proofs.all_memory.Goals as goal

pub returns : goal.returns
returns c = let t = c.args.t in
    let l = c.args.gmo.now in
    let passed : c.all.result ≡ list_all (is_memory_event t) l =
    all_from_yields_List (is_memory_event t) _ _ c.all.result c.all.ensures.ran (YieldsList-from_slice l cc) (λ x b q k. search (rules, tests)) in
    passed ∙ same_from_clauses (list_all (is_memory_event t)) (all (is_memory_event t)) (λ e b. is_memory_event t e && b) refl (λ _ _. refl) (λ _ _. refl) l
