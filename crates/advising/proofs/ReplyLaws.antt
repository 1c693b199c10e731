-- The reply: refused by 22, by 17, or what the sets say.
use Prim.Native.Nat.{ℕ, ◌≤◌, ◌<◌}
use native.Mathlib.Omega.{arith}
use mathlib.Core.Path.{◌≡◌, ap, ◌∙◌}
use mathlib.Core.List.{List}
use lib.ListN.{length}
use lib.Count.{ones}
use borrow.Author.Tests.{lt-ltb, le-ltb}
use Rattle.lists.specs.Reply.{Reply, refused, answered}
use Rattle.lists.proofs.DistinctLaws.{kept-distinct}
use Rattle.masks.specs.MaskOf.{mask_of}
use Rattle.masks.proofs.MaskOfLaws.{mask-ones}
use Rattle.table.specs.declared.Table.{Table}
use Rattle.table.specs.Counts.{Small}
use Rattle.refusals.specs.Lines.{Refused, by_line, first_line, reply_unless}
use Rattle.refusals.proofs.LineLaws.{none_here, whole_here, whole-next}
use Rattle.search.specs.Replies.{max_allowance}
use Rattle.advice.specs.Sets.{by_size}
use Rattle.advice.specs.Advice.{clear_fence, clear_fences, most_fences, line22, Advice, search_with, first_unfound, advice}
use Rattle.advising.specs.Chosen.{events_in}
use Rattle.advising.specs.Replies.{advice_lines, table_advice}
use Rattle.advising.proofs.EventLaws.{events-of}

module _ {t : Table} {fences : ℕ} (small : Small t) (e : fences ≡ mask_of (clear_fences t)) (b : ℕ) where
  -- the fences of the mask
  fences-are : events_in fences ≡ clear_fences t
  unfolding clear_fences
  fences-are = ap events_in e ∙ events-of (clear_fence t) t.count (omega (arith, small.events))

  count : ones fences ≡ length (clear_fences t)
  unfolding clear_fences
  count = ap ones e ∙ mask-ones (clear_fences t) (kept-distinct (clear_fence t) t.count)

  by : {r : Refused} → r ≡ first_line t.count (advice_lines t b) → reply_unless r (advice t b) ≡ table_advice t b
  unfolding table_advice
  by h = ap (λ (q : Refused). reply_unless q (advice t b)) h

  pub too_many : most_fences < ones fences → refused (by_line 22) ≡ table_advice t b
  unfolding advice_lines line22
  too_many h = by (whole_here _ _ _ _ (lt-ltb most_fences (length (clear_fences t)) (omega (arith, count, h))))

  module _ (few : ones fences ≤ most_fences) where
    pub few-fences : length (events_in fences) ≤ most_fences
    few-fences = omega (arith, count, few, ap length fences-are)

    pub too_large : max_allowance < b → refused (by_line 17) ≡ table_advice t b
    unfolding advice_lines line22
    too_large h =
        by (whole-next _ _ _ _ _ (le-ltb most_fences (length (clear_fences t)) (omega (arith, count, few))) (whole_here _ _ _ _ (lt-ltb max_allowance b h)))

    pub advice-given : {r : Reply Refused Advice} → b ≤ max_allowance → r ≡ answered (first_unfound (search_with t b) (by_size (events_in fences))) →
        r ≡ table_advice t b
    unfolding advice_lines line22 advice
    advice-given h q =
        q ∙ ap (λ (l : List ℕ). answered (first_unfound (search_with t b) (by_size l))) fences-are
        ∙ by (whole-next _ _ _ _ _ (le-ltb most_fences (length (clear_fences t)) (omega (arith, count, few)))
        (whole-next _ _ _ _ _ (le-ltb max_allowance b h) (none_here _)))
