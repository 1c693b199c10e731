-- What a text has that isn't refused: words for its condition, whose numbers fit and are known; and a good table.
use Rattle.std.specs.Prelude.{ℕ, ◌≤◌, ◌≡◌, true, false, List, length, take}
use Rattle.table.specs.declared.Table.{Table}
use Rattle.refusals.specs.Lines.{accepted}
use Rattle.text_format.specs.Condition.{fits}
use Rattle.condition_reader.specs.Words.{code}
use Rattle.model.specs.Following.{names_unknown}
use Rattle.placing.specs.GoodTable.{GoodTable}
use Rattle.text.specs.Texts.{text_refusal, condition_of}

pub record Accepted (s : List ℕ) (t : Table) (words : List ℕ) (len : ℕ) : Type 0 where
  pub inside : len ≤ length words
  pub coded : take len words ≡ code (condition_of s)
  pub fitting : fits (condition_of s) ≡ true
  pub known : names_unknown t (condition_of s) ≡ false
  pub good : GoodTable t

abbrev pub IfAccepted : List ℕ → Table → List ℕ → ℕ → Type 0
IfAccepted s t words len = text_refusal s ≡ accepted → Accepted s t words len
