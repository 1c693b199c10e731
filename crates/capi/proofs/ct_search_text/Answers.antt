use mathlib.Core.Path.{◌∙◌}
use Rattle.capi.proofs.FitLaws.{text-fits, text-word}
use Rattle.capi.proofs.ct_search_text.Goals as goal

pub text_reply_word-requires : goal.text_reply_word-requires
text_reply_word-requires c = let a = c.args in
    let s = c.search_text in
    text-fits a.text.now a.start.now a.out.now a.allowance s.new.out s.result
    (s.ensures.out_after, (s.ensures.out_after_2, s.ensures.result_value))

pub returns : goal.returns
returns c = let a = c.args in
    let s = c.search_text in
    record {
      value = c.text_reply_word.ensures
          ∙ text-word a.text.now a.start.now a.out.now a.allowance s.new.out s.result
          (s.ensures.out_after, (s.ensures.out_after_2, s.ensures.result_value));
      out_after = s.ensures.out_after_2;
    }
