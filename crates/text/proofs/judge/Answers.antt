use mathlib.Core.Path.{sym, ap, ◌∙◌}
use lib.ListN.{take}
use Rattle.std.proofs.lemmas.Result.{err_from_is_err_and}
use Rattle.refusals.specs.Refusals.{refused_by}
use Rattle.refusals.proofs.LineLaws.{refuses}
use Rattle.text.proofs.JudgeLaws.{by-table, by-23, by-21, by-none, few-events, few-locations, in-test, same-21, judged-refused, judged-none}
use Rattle.text.proofs.judge.Goals as goal

pub returns-in_err-refuse_text : goal.returns-in_err-refuse_text
returns-in_err-refuse_text c =
    let p = err_from_is_err_and c.from_residual.result c.from_residual.ensures.1 in
    rw (p.1, p.2) (judged-refused _ _ _ _ (by-table _ _ _ (sym (ap refused_by c.in_err-refuse_text.was) ∙ c.refuse_text.ensures) (refuses _)))

pub names_unknown-requires : goal.names_unknown-requires
names_unknown-requires c = (c.requires, few-events _ (sym c.refuse_text.ensures ∙ ap refused_by c.in_ok-refuse_text.was))

pub returns-then-names_unknown : goal.returns-then-names_unknown
returns-then-names_unknown c = let ok = sym c.refuse_text.ensures ∙ ap refused_by c.in_ok-refuse_text.was in
    judged-refused _ _ _ _ (by-23 _ _ ok (sym c.names_unknown.ensures ∙ c.if-names_unknown.true))

pub named_locations-requires : goal.named_locations-requires
named_locations-requires c = c.requires

pub line21-requires : goal.line21-requires
line21-requires c = let ok = sym c.refuse_text.ensures ∙ ap refused_by c.in_ok-refuse_text.was in
    (few-events _ ok, few-locations _ ok, in-test _ ok)

pub returns-then-line21 : goal.returns-then-line21
returns-then-line21 c = let a = c.args in
    let ok = sym c.refuse_text.ensures ∙ ap refused_by c.in_ok-refuse_text.was in
    judged-refused _ _ _ _
    (by-21 _ _ ok (sym c.names_unknown.ensures ∙ c.if-names_unknown.false)
    (sym (same-21 _ ok (take a.len a.words.now) _ c.named_locations.ensures) ∙ sym c.line21.ensures ∙ c.if-line21.true))

pub returns : goal.returns
returns c = let a = c.args in
    let ok = sym c.refuse_text.ensures ∙ ap refused_by c.in_ok-refuse_text.was in
    judged-none _ _ _
    (by-none _ _ ok (sym c.names_unknown.ensures ∙ c.if-names_unknown.false)
    (sym (same-21 _ ok (take a.len a.words.now) _ c.named_locations.ensures) ∙ sym c.line21.ensures ∙ c.if-line21.false))
