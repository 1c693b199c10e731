use mathlib.Core.Path.{sym, subst}
use mathlib.Core.Bool.{Bool}
use mathlib.Core.List.{[], ◌∷◌}
use Rattle.condition_reader.specs.Steps.{FoundSays}
use Rattle.text_lines.specs.Says.{separator}
use Rattle.text_lines.proofs.read_separator.Goals as goal

pub returns-then-last : goal.returns-then-last
returns-then-last c = let v = c.args in
    subst (λ (b : Bool). FoundSays v.text.now v.at (separator b ∷ []) c.read_word.result)
    (sym c.if-last.true)
    c.read_word.ensures

pub returns-else-last : goal.returns-else-last
returns-else-last c = let v = c.args in
    subst (λ (b : Bool). FoundSays v.text.now v.at (separator b ∷ []) c.read_word-else-last.result)
    (sym c.if-last.false)
    c.read_word-else-last.ensures
