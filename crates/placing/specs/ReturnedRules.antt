-- What is left to test of a clean order: the rules that look at what was returned.
use Rattle.std.specs.Prelude.{ℕ, Bool, ◌&&◌, ◌||◌, not, List}
use Rattle.lists.specs.Lists.{before}
use Rattle.table.specs.declared.Table.{Table}
use Rattle.model.specs.Rules.{may_order, rule2, rule3, rule12}

-- "Rules 2, 3 and 12 look at what was returned": one of them puts a before b
unfoldable pub returned_ppo : Table → List ℕ → ℕ → ℕ → Bool
returned_ppo t rf a b = may_order t a b && (rule2 t rf a b || rule3 t rf a b || rule12 t rf a b)

-- .. and the order doesn't
unfoldable pub breaks_returned : Table → List ℕ → List ℕ → ℕ → ℕ → Bool
breaks_returned t rf gmo a b = returned_ppo t rf a b && not (before gmo a b)
