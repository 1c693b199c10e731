use Rattle.search.proofs.CallLaws.{replied-for}
use Rattle.search.proofs.search_for.Goals as goal

pub returns : goal.returns
returns c = replied-for _ _ _ c.add_values.ensures.1 c.search_by.ensures
