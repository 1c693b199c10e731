use Rattle.capi.proofs.FitLaws.{given-fits, given_word_lem, pruned-bounded}
use Rattle.bench.specs.Search.{of_block_pruned}
use mathlib.Core.Path.{◌∙◌}
use Rattle.capi.proofs.ct_search_pruned.Goals as goal

pub reply_word-requires : goal.reply_word-requires
reply_word-requires c = let a = c.args in
    let s = c.search_pruned in
    given-fits (of_block_pruned a.block.now) (pruned-bounded a.block.now) a.start.now a.out.now a.allowance s.new.out s.result
    (s.ensures.out_after, (s.ensures.out_after_2, s.ensures.result_value))

pub returns : goal.returns
returns c = let a = c.args in
    let s = c.search_pruned in
    record {
      value = c.reply_word.ensures
          ∙ given_word_lem (of_block_pruned a.block.now) (pruned-bounded a.block.now) a.start.now a.out.now a.allowance s.new.out s.result
          (s.ensures.out_after, (s.ensures.out_after_2, s.ensures.result_value));
      out_after = s.ensures.out_after_2;
    }
