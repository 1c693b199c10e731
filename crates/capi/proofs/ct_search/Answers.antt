use Rattle.capi.proofs.FitLaws.{given-fits, given_word_lem, block-bounded}
use Rattle.bench.specs.Search.{of_block}
use mathlib.Core.Path.{◌∙◌}
use Rattle.capi.proofs.ct_search.Goals as goal

pub reply_word-requires : goal.reply_word-requires
reply_word-requires c = let a = c.args in
    let s = c.search in
    given-fits (of_block a.block.now) (block-bounded a.block.now) a.start.now a.out.now a.allowance s.new.out s.result
    (s.ensures.out_after, (s.ensures.out_after_2, s.ensures.result_value))

pub returns : goal.returns
returns c = let a = c.args in
    let s = c.search in
    record {
      value = c.reply_word.ensures
          ∙ given_word_lem (of_block a.block.now) (block-bounded a.block.now) a.start.now a.out.now a.allowance s.new.out s.result
          (s.ensures.out_after, (s.ensures.out_after_2, s.ensures.result_value));
      out_after = s.ensures.out_after_2;
    }
