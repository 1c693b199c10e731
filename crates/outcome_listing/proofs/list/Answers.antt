use native.Mathlib.Omega.{arith}
use mathlib.Core.Path.{◌≡◌, sym, ap, ◌∙◌}
use mathlib.Core.List.{[]}
use Rattle.std.specs.Prelude.{Ok}
use Rattle.event_sets.specs.declared.Sets.{Sets}
use Rattle.outcomes.specs.Outcomes.{outcome_length}
use Rattle.outcome_listing.specs.Replies.{previous_wrong}
use Rattle.outcome_listing.proofs.DeliverLaws.{width_is, width_small, previous-is, previous-refused, room-refused, allowance-refused, listing-replied, room_fits, listing-is}
use Rattle.outcome_listing.proofs.list.Goals as goal
use Rattle.outcome_listing.proofs.list.Goals.{After-is_no_outcome}

-- What is known once the previous outcome's length is looked at.
module _ (d : After-is_no_outcome) where
  width : d.values_of-values.result ≡ outcome_length d.args.t
  width =
      width_is d.args.t _ _ (ap (λ (s : Sets). s.readers) d.of_table-s.ensures) d.values_of-values.ensures

  wrong : d.is_no_outcome.result ≡ previous_wrong d.args.t d.args.previous.now
  wrong = previous-is d.args.t 0 _ [] 0 _ width d.is_no_outcome.result (rw d.from-width.ensures at d.is_no_outcome.ensures)

pub returns-then-is_no_outcome : goal.returns-then-is_no_outcome
returns-then-is_no_outcome c =
    let w = previous-refused c.args.t c.args.most c.args.previous.now c.args.out.now c.args.allowance (sym (wrong (goal.at.returns-then-is_no_outcome c).After-is_no_outcome) ∙ c.if-is_no_outcome.true) in
    record { out_after = w.0; out_after_2 = w.1.0; result_value = w.1.1 }

pub returns-then-out-width : goal.returns-then-out-width
returns-then-out-width c =
    let w = room-refused c.args.t c.args.most c.args.previous.now c.args.out.now c.args.allowance (sym (wrong (goal.at.returns-then-out-width c).After-is_no_outcome) ∙ c.if-is_no_outcome.false) (omega (arith, c.if-out-width.true, width (goal.at.returns-then-out-width c).After-is_no_outcome)) in
    record { out_after = w.0; out_after_2 = w.1.0; result_value = w.1.1 }

pub returns-then-allowance-gt-ALLOWANCE : goal.returns-then-allowance-gt-ALLOWANCE
returns-then-allowance-gt-ALLOWANCE c =
    let w = allowance-refused c.args.t c.args.most c.args.previous.now c.args.out.now c.args.allowance (sym (wrong (goal.at.returns-then-allowance-gt-ALLOWANCE c).After-is_no_outcome) ∙ c.if-is_no_outcome.false) (omega (arith, c.if-out-width.false, width (goal.at.returns-then-allowance-gt-ALLOWANCE c).After-is_no_outcome)) c.if-allowance-gt-ALLOWANCE.true in
    record { out_after = w.0; out_after_2 = w.1.0; result_value = w.1.1 }

pub deliver-requires : goal.deliver-requires
deliver-requires c = let g = c.gather_of-gathered.ensures.within in
    room_fits _ _ _ _ _ _ c.gather_of-gathered.result (rw c.from-width.ensures at c.min.ensures) (omega (arith, width (goal.at.deliver-requires c).After-is_no_outcome, width_small _ c.requires.0.small)) c.requires.2
    (omega (arith, g.1)) g.0

pub returns : goal.returns
returns c = let g = c.gather_of-gathered in
    let w = listing-replied c.args.t c.args.most c.args.previous.now c.args.out.now c.args.allowance (sym (wrong (goal.at.returns c).After-is_no_outcome) ∙ c.if-is_no_outcome.false) (omega (arith, c.if-out-width.false, width (goal.at.returns c).After-is_no_outcome)) c.if-allowance-gt-ALLOWANCE.false _
    (listing-is c.args.t _ _ _ _ _ _ g.result _ (width (goal.at.returns c).After-is_no_outcome) (rw c.from-width.ensures at c.min.ensures) g.ensures.gathers) (Ok c.deliver.result) _
    (c.deliver.ensures.out_after, (c.deliver.ensures.out_after_2, c.deliver.ensures.result_value)) in
    record { out_after = w.0; out_after_2 = w.1.0; result_value = w.1.1 }
