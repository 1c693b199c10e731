use mathlib.Core.Path.{ap, ◌∙◌}
use Rattle.suite.specs.SuiteLine.{suite_line}
use Rattle.suite.proofs.first_line.Goals as goal

pub returns : goal.returns
returns c = c.decided.ensures ∙ ap (suite_line _) c.test.ensures
