use mathlib.Core.Path.{refl}
use mathlib.Core.List.{[]}
use Rattle.model.specs.Witness.{stated_outcome}
use Rattle.search.proofs.CallLaws.{replied-always}
use Rattle.search.proofs.search.Goals as goal

pub returns : goal.returns
returns c = let r = replied-always {words = []} (stated_outcome _) _ _ _ refl c.search_by.ensures in
    record { out_after = r.reply; out_after_2 = r.buffer; result_value = r.length }
