-- What a decision call on a table replies, and what it leaves in the buffer.
use Prim.Native.Nat.{ℕ, zero, suc, ◌≤◌, ◌<◌}
use native.Mathlib.Omega.{arith}
use mathlib.Core.Path.{◌≡◌, refl, sym, ap, subst, ◌∙◌}
use mathlib.Core.Bool.{Bool, true, false, not}
use mathlib.Core.List.{List, [], ◌∷◌, ◌++◌}
use mathlib.Core.Option.{Option, none, some as just}
use lib.ListN.{length, get_or, take, drop, replicate, length-replicate, get_or-replicate}
use lib.Seq.{length-take-le, take_at}
use lib.Count.{ones}
use lib.Dec.{ltb}
use borrow.Author.Tests.{eq-eqb, ne_eqb, ltb-true, ltb-false}
use Rattle.std.specs.Prelude.{Result, Ok, Err, Some, None, Option as Optional}
use Rattle.lists.specs.Reply.{answered}
use Rattle.lists.specs.Below.{some}
use Rattle.table.specs.declared.Table.{Table}
use Rattle.table.specs.Events.{memory_count}
use Rattle.refusals.specs.declared.Refusal.{Refusal}
use Rattle.refusals.specs.declared.Refusal.TheVariants.{Line}
use Rattle.refusals.specs.Lines.{first_line}
use Rattle.candidate.specs.CandidateLines.{order_too_short}
use Rattle.order_facts.specs.Facts.{unmet}
use Rattle.fact_rows.specs.FactRows.{mask, Facts, set_row, unmet_word}
use Rattle.order_test.proofs.EndLaws.{unmet-mask}
use Rattle.states.specs.declared.State.{State}
use Rattle.states.specs.Completions.{Reached, LeastAbove, NoneAbove}
use Rattle.states.specs.Decisions.{next_witness}
use Rattle.states.proofs.ReachedLaws.{reached-start}
use Rattle.states.proofs.DecisionLaws.{decision-found, decision-none, decision-unmet}
use Rattle.search.proofs.CallLaws.{counted, count_small}
use Rattle.state_test.specs.Board.{Board, Starts, kind_row, memory_word}
use Rattle.deciding.specs.Memo.{Blank}
use Rattle.deciding.specs.Deciding.{GoesOn}
use Rattle.deciding.specs.Replies.{decision_lines, table_decision, Decides}
use Rattle.deciding.proofs.MemoLaws.{cleared}

-- past its end a list has no word
past_end : (l : List ℕ) (i : ℕ) → length l ≤ i → get_or l i 0 ≡ 0
past_end [] i h = refl
past_end (x ∷ l) zero h = absurd (omega arith)
past_end (x ∷ l) (suc i) h = past_end l i (omega arith)

pub blank-all : (memo : List ℕ) (n : ℕ) → length memo ≤ n → ((k : ℕ) → k < n → get_or memo k 0 ≡ 0) → Blank memo
blank-all memo n l h i = go (ltb i n) refl
  where
    go : (b : Bool) → ltb i n ≡ b → get_or memo i 0 ≡ 0
    go true q = h i (ltb-true i n q)
    go false q = past_end memo i (omega (arith, l, ltb-false i n q))

pub blank-new : (n : ℕ) → Blank (replicate n 0)
blank-new n = blank-all (replicate n 0) n (omega (arith, length-replicate {A = ℕ} n 0)) (λ k l. get_or-replicate n k 0 0 l)

-- no stated final value is out of reach
met : {t : Table} {facts ties : List (List ℕ)} → Board t facts ties → mask facts set_row unmet_word ≡ 0 →
    some t.locations (unmet t) ≡ false
met {t} {facts} b z = unmet-mask facts t b.known ∙ ap not (eq-eqb _ 0 z)

-- from the first state all memory events are left
reached : {t : Table} {facts ties : List (List ℕ)} {s : State} {n : ℕ} → Board t facts ties → Starts facts s → n ≡ memory_count t →
    Reached t s n
reached {t} {s = s} b k c =
    subst (λ (m : ℕ). Reached t s m) (sym c) (subst (λ (u : State). Reached t u (memory_count t)) (sym (k t b.known)) (reached-start t))

module _ (t : Table) (p : List ℕ) where
  -- there is none
  pub decides-none : {out : List ℕ} → next_witness t p ≡ none → Decides (answered (next_witness t p)) out out (Ok None)
  decides-none {out} h = subst (λ (o : Option (List ℕ)). Decides (answered o) out out (Ok None)) (sym h)
      (record { replied = refl; buffer = refl; length = refl })

  -- it was written to the front
  pub decides-found : {out after : List ℕ} (order : List ℕ) (n : ℕ) → n ≤ length order → after ≡ take n order ++ drop n out →
      next_witness t p ≡ just (take n order) → Decides (answered (next_witness t p)) out after (Ok (Some n))
  decides-found {out} {after} order n l q h = subst (λ (o : Option (List ℕ)). Decides (answered o) out after (Ok (Some n))) (sym h)
      (record {
        replied = ap (λ (w : List ℕ). answered (just w)) (ap (take n) q ∙ take_at (take n order) (drop n out) n long);
        buffer = q ∙ ap (λ (m : ℕ). take n order ++ drop m out) (sym long);
        length = sym long;
      })
    where
      long : length (take n order) ≡ n
      long = length-take-le n order l

  -- a stated final value that can't be
  pub none-unmet : {facts : List (List ℕ)} → Facts t facts → (mask facts set_row unmet_word ≡ 0 → ⊥) → next_witness t p ≡ none
  unfolding next_witness
  none-unmet {facts} f z = decision-unmet t f.table p (unmet-mask facts t f ∙ ap not (ne_eqb _ 0 z))

  module _ {facts ties : List (List ℕ)} {s : State} {n : ℕ} (b : Board t facts ties) (k : Starts facts s) (c : n ≡ memory_count t)
      (z : mask facts set_row unmet_word ≡ 0) {before after order written : List ℕ} (blank : Blank before) where
    -- the search has found a run
    pub next-found : GoesOn facts ties before after s n p 0 order written true → next_witness t p ≡ just (take n written)
    unfolding next_witness
    next-found g = decision-found t b.known.table p (met b z) (take n written)
        (subst (λ (u : State). LeastAbove t u p (take n written)) (k t b.known) (g.tells t b (reached b k c) (cleared t before blank)).0)

    -- it has found none
    pub next-none : GoesOn facts ties before after s n p 0 order written false → next_witness t p ≡ none
    unfolding next_witness
    next-none g = decision-none t b.known.table p (met b z)
        (subst (λ (u : State). NoneAbove t u p) (k t b.known) (g.tells t b (reached b k c) (cleared t before blank)).0)

-- the number of memory events, by the rows of the table
pub count-is : {t : Table} {facts ties : List (List ℕ)} → Board t facts ties → (n : ℕ) → n ≡ ones (mask ties kind_row memory_word) →
    (n ≡ memory_count t) × (n ≤ 32)
count-is {t} b n q =
    let c = counted _ b.memory in (q ∙ c, omega (arith, q, c, count_small t b.known.table.small))

-- whether a buffer is too short, by the number of memory events
pub short-is : (t : Table) (out : List ℕ) {n : ℕ} → n ≡ memory_count t → ltb (length out) n ≡ order_too_short t out
unfolding order_too_short
short-is t out q = ap (ltb (length out)) q

pub long-enough : (t : Table) (out : List ℕ) → order_too_short t out ≡ false → memory_count t ≤ length out
unfolding order_too_short
long-enough t out h = ltb-false (length out) (memory_count t) h

-- A buffer that is too short.
pub decides-short : (t : Table) (p out : List ℕ) → order_too_short t out ≡ true →
    Decides (table_decision t p out) out out (Err (Line 16))
unfolding table_decision decision_lines first_line
decides-short t p out h = rw h (record { replied = refl; buffer = refl; length = refl })

pub decides-long : (t : Table) (p out after : List ℕ) (r : Result (Optional ℕ) Refusal) → order_too_short t out ≡ false →
    Decides (answered (next_witness t p)) out after r → Decides (table_decision t p out) out after r
unfolding table_decision decision_lines first_line
decides-long t p out after r h d = rw h d
