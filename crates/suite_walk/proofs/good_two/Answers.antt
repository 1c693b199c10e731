use mathlib.Core.Bool.{Bool, true, false}
use mathlib.Core.Path.{◌≡◌, refl, sym, ap, ◌∙◌}
use lib.ListN.{length}
use Rattle.std.specs.Prelude.{Result, Ok, Err}
use Rattle.std.specs.Result.{is_ok}
use Rattle.refusals.specs.declared.Refusal.{Refusal}
use Rattle.refusals.specs.declared.Refusal.TheVariants as code
use Rattle.refusals.specs.Lines.{Refused, unless}
use Rattle.refusals.specs.Refusals.{refused_by}
use Rattle.block.specs.Reading.{read_refusal}
use Rattle.suite_walk.proofs.TestLaws.{good-long, good-not}
use Rattle.suite_walk.proofs.good_two.Goals as goal

abbrev passed : Refused → Bool
passed r = unless r true false

ok-passes : {A : Type 0} (r : Result A Refusal) → is_ok r ≡ passed (refused_by r)
ok-passes (Ok a) = refl
ok-passes (Err (code.Line n)) = refl
ok-passes (Err (code.Record n k)) = refl

pub returns-then-bytes-ne-TEST : goal.returns-then-bytes-ne-TEST
returns-then-bytes-ne-TEST c = sym (good-not _ _ (λ e. c.if-bytes-ne-TEST.true (ap length c.test-bytes.ensures ∙ e)))

pub returns : goal.returns
returns c = c.is_ok.ensures.value ∙ ok-passes _ ∙ ap passed (c.read.ensures.0 ∙ ap read_refusal c.test-bytes.ensures)
    ∙ good-long _ _ (sym (ap length c.test-bytes.ensures) ∙ c.if-bytes-ne-TEST.false)
