-- What the search with a set says, as an advice.
use Prim.Native.Nat.{ℕ, ◌≤◌}
use native.Mathlib.Omega.{arith}
use mathlib.Core.Path.{◌≡◌, refl, sym, ap, ◌∙◌, subst}
use mathlib.Core.Bool.{true}
use mathlib.Core.List.{List, [], ◌∷◌}
use lib.ListN.{length}
use Rattle.std.specs.Prelude.{Result, Ok, Err}
use Rattle.lists.specs.Reply.{Reply, answered}
use Rattle.table.specs.declared.Table.{Table}
use Rattle.table.specs.Events.{capacity}
use Rattle.refusals.specs.declared.Refusal.{Refusal}
use Rattle.refusals.specs.Lines.{Refused, reply_unless}
use Rattle.prefixes.specs.Answer.{Answer}
use Rattle.model.specs.Witness.{stated_outcome}
use Rattle.model.specs.Prefixes.{is_prefix, clean, search_by, search}
use Rattle.fact_rows.specs.FactRows.{Facts}
use Rattle.witness_walk.specs.declared.Ending.{Ending}
use Rattle.witness_walk.specs.declared.Ending.TheVariants.{Found, NoneLeft, Spent}
use Rattle.search.specs.Replies.{max_allowance, table_reply, reply_of}
use Rattle.search.specs.Begins.{Searches}
use Rattle.search.proofs.CallLaws.{none-refused, count_small, replied-always}
use Rattle.advice.specs.Advice.{with_fences, search_with, fences_dont_help, decided_by, first_unfound}
use Rattle.advising.specs.declared.Advice as code
use Rattle.advising.specs.declared.Advice.TheVariants.{Advised, Undecided, NoHelp}
use Rattle.advising.specs.Chosen.{events_in}
use Rattle.advising.specs.Replies.{advice_of}
use Rattle.advising.proofs.FactLaws.{facts-stay}

-- the advice of one set by the reply to its search
abbrev pub advice_by : ℕ → Result Ending Refusal → Result code.Advice Refusal
advice_by set (Err r) = Err r
advice_by set (Ok (Found len v)) = Ok NoHelp
advice_by set (Ok (NoneLeft v)) = Ok (Advised set)
advice_by set (Ok (Spent len v)) = Ok (Undecided set)

-- what was answered
answer-told : {A B : Type 0} {a c : B} → ◌≡◌ {A = Reply A B} (answered a) (answered c) → a ≡ c
answer-told e = cc

-- it is what the answer says
said : (set : ℕ) (r : Result Ending Refusal) (after : List ℕ) (a : Answer) → reply_of r after ≡ answered a →
    advice_of (advice_by set r) ≡ answered (decided_by a (events_in set) fences_dont_help)
said set (Err r) after a e = absurd (let z : ◌≡◌ {A = ℕ} 0 1 = cc in omega arith)
said set (Ok (Found len v)) after a e = ap (λ (x : Answer). answered (decided_by x (events_in set) fences_dont_help)) (answer-told e)
said set (Ok (NoneLeft v)) after a e = ap (λ (x : Answer). answered (decided_by x (events_in set) fences_dont_help)) (answer-told e)
said set (Ok (Spent len v)) after a e = ap (λ (x : Answer). answered (decided_by x (events_in set) fences_dont_help)) (answer-told e)

-- the empty start is clean
clean-empty : (t : Table) → clean t [] ≡ true
unfolding clean is_prefix
clean-empty t = refl

module _ (set : ℕ) {t u : Table} {facts : List (List ℕ)} (known : Facts t facts) (e : u ≡ with_fences t (events_in set)) where
  pub facts-with : Facts u facts
  facts-with = subst (λ (x : Table). Facts x facts) (sym e) (facts-stay t (events_in set) known)

  -- a search of its own, from the empty start
  pub said-by : {b : ℕ} {r : Result Ending Refusal} {out after : List ℕ} → b ≤ max_allowance → length out ≡ capacity →
      Searches u facts [] 0 [] out b r after →
      advice_of (advice_by set r) ≡ answered (first_unfound (search_with t b) (events_in set ∷ []))
  unfolding first_unfound search_with search table_reply
  said-by {b} {r} {out} {after} h long s = said set r after (search (with_fences t (events_in set)) [] b)
      ((replied-always {words = []} (stated_outcome u) [] out b refl s).reply
      ∙ ap (λ (q : Refused). reply_unless q (search_by u (clean u) (stated_outcome u) [] b))
      (sym (none-refused u (clean u) [] out b (clean-empty u) (omega (arith, count_small u facts-with.table.small, long)) h))
      ∙ ap (λ (x : Table). answered (search x [] b)) e)
