use mathlib.Core.Path.{ap, sym, ◌∙◌}
use mathlib.Core.Bool.{not}
use Rattle.table.specs.Events.{capacity}
use Rattle.masks.proofs.SubsetLaws as Subset
use borrow.Author.Rules.{rules}
use Rattle.dependency_lines.proofs.lacks.Goals as goal

pub returns : goal.returns
returns c = ap not c.within.ensures ∙ sym (Subset.lacks capacity _ _ (search rules))
