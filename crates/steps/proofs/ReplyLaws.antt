-- The reply to a step, by how the list and the step end.
use Prim.Native.Nat.{ℕ, ◌<◌}
use native.Mathlib.Omega.{arith}
use mathlib.Core.Path.{◌≡◌, refl, sym, ap, ap₂, subst, ◌∙◌}
use mathlib.Core.Bool.{Bool, true, false, not, ◌&&◌}
use mathlib.Core.List.{List}
use lib.ListN.{length, get_or, take, replicate, get_or-replicate}
use lib.Seq.{length-take-le, get_or-take}
use lib.Dec.{eqb}
use borrow.Author.Tests.{eq-eqb, ne_eqb, ltb-true}
use Rattle.std.specs.Prelude.{Some}
use Rattle.lists.specs.Reply.{refused, answered}
use Rattle.lists.proofs.BoolLaws.{and_l, and_right}
use Rattle.lists.proofs.FilledLaws.{up_to-same}
use Rattle.table.specs.declared.Table.{Table}
use Rattle.table.specs.Annotations.{rvtso}
use Rattle.refusals.specs.Lines.{by_line, first_line}
use Rattle.model.specs.Rules.{nothing, from}
use Rattle.successors.specs.CleanMasks.{slots}
use Rattle.machine.specs.Machine.{start, event_of, accepts, stepped, is_run, entry_of, line24}
use Rattle.machine.specs.Statements.{state}
use Rattle.machine.proofs.TsoLaws.{TsoTable}
use Rattle.machine.proofs.StateLaws.{Reached}
use Rattle.machine.proofs.StepLaws.{reached-start}
use Rattle.machine.proofs.RunLaws.{reached-run}
use Rattle.steps.specs.declared.Taken.{Taken}
use Rattle.steps.specs.Steps.{Outcome, Begun}
use Rattle.steps.specs.Replies.{answer_to, step_lines, step_reply}

-- before any step each entry is that of a non-reader
pub begun : (t : Table) (order : List ℕ) → t.count < slots → length order ≡ slots → Begun t order (replicate slots nothing)
unfolding start
begun t order l o = record {
  long = o;
  each = refl;
  empty = up_to-same t.count (λ e. nothing) nothing (take t.count (replicate slots nothing))
      (length-take-le t.count (replicate slots nothing) (omega arith))
      (λ k i. get_or-take t.count (replicate slots nothing) k nothing i ∙ get_or-replicate slots k nothing nothing (omega arith));
}

module _ (t : Table) (bs : List ℕ) (b : ℕ) where
  by-24 : line24 t bs b ≡ true → refused (by_line 24) ≡ step_reply t bs b
  unfolding step_reply step_lines first_line
  by-24 h = rw h refl

  -- a table of another model
  pub other-model : (t.model ≡ rvtso → ⊥) → refused (by_line 24) ≡ step_reply t bs b
  unfolding line24
  other-model n = by-24 (rw (ne_eqb t.model rvtso n) refl)

  -- a list that isn't a run
  pub no_run : is_run t (start t) bs ≡ false → refused (by_line 24) ≡ step_reply t bs b
  unfolding line24
  no_run h = by-24 (ap (λ (x : Bool). not (x && accepts t (state t bs) b)) (and_right (eqb t.model rvtso) _ h))

  -- a step that the machine doesn't take
  pub not_taken : accepts t (state t bs) b ≡ false → refused (by_line 24) ≡ step_reply t bs b
  unfolding line24
  not_taken h = by-24 (ap not (and_right (eqb t.model rvtso && is_run t (start t) bs) _ h))

  module _ (k : TsoTable t) (run : is_run t (start t) bs ≡ true) where
    -- the state behind the list
    pub reached : Reached t (state t bs)
    reached = reached-run k (start t) bs (reached-start t) run

    module _ {order rf : List ℕ} {step : Taken}
        (h : Outcome t (accepts t (state t bs) b) (event_of t (state t bs) b) (stepped t (state t bs) b) order rf (Some step)) where
      -- the step's event is one of the table
      pub event-inside : step.event.0 < t.count
      unfolding accepts
      event-inside =
          subst (λ (x : ℕ). x < t.count) (sym h.1) (ltb-true (event_of t (state t bs) b) t.count (and_l _ _ h.0))

      -- its answer
      pub taken : (entry : ℕ) → entry ≡ from rf step.event.0 → answered (record { event = step.event.0; entry = entry }) ≡ step_reply t bs b
      unfolding step_reply step_lines first_line line24 answer_to entry_of from
      taken entry q =
          rw (eq-eqb t.model rvtso k.tso, run, h.0)
          (ap₂ (λ (x y : ℕ). answered (record { event = x; entry = y })) h.1
          (q ∙ sym (get_or-take t.count rf step.event.0 nothing event-inside)
          ∙ ap₂ (λ (l : List ℕ) (x : ℕ). get_or l x nothing) h.2.returned h.1))
