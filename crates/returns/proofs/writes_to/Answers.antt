use Rattle.table.specs.Events.{writes, kind, location}
use Rattle.returns.specs.Writers.{writes_to}
use Rattle.returns.proofs.writes_to.Goals as goal

pub returns : goal.returns
unfolding writes_to writes kind location
returns c = cc
