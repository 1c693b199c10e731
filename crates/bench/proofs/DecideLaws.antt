-- Decisions, as a walk along the witnesses alone; and that they agree with the walks of both engines.
use Prim.Native.Nat.{ℕ}
use mathlib.Core.Path.{◌≡◌, refl, sym, ap, ◌∙◌}
use mathlib.Core.Bool.{Bool, true, false, false≢true}
use mathlib.Core.List.Memᴰ
use mathlib.Core.List.{List, [], ◌∷◌, cons-ne-nil}
use mathlib.Core.Logic.{◌↔◌, ◌⊎◌, ⊎_elim, inl, inr}
use mathlib.Core.Option.{Option, none}
use lib.ListN.{length}
use lib.Dec.{eqb}
use native.Mathlib.Omega.{arith}
use Rattle.lists.specs.Lists.{◌∈◌, distinct}
use Rattle.lists.specs.Reply.{Reply, refused, answered}
use Rattle.lists.specs.Ascending.{less, AllAbove, Ascending}
use Rattle.lists.proofs.MemberLaws.{keep-only}
use Rattle.lists.proofs.AscendingLaws.{above-keep, after-above, ascending-same}
use Rattle.table.specs.declared.Table.{Table}
use Rattle.table.specs.Events.{memory_count}
use Rattle.decode.specs.Decoded.{decoded}
use Rattle.refusals.specs.Lines.{Refused, accepted, by_line, by_record, by_place, first_line, unless, reply_unless}
use Rattle.refusals.proofs.PassedLaws.{passed-both, entry-declined}
use Rattle.block.specs.Reading.{reading_lines, read_refusal}
use Rattle.prefixes.specs.Listed.{after}
use Rattle.prefixes.specs.Answer.{Answer, answer}
use Rattle.prefixes.specs.Walk.{start_after}
use Rattle.prefixes.specs.Statements.{Honest}
use Rattle.prefixes.proofs.WalkLaws.{walked}
use Rattle.prefixes.proofs.AlikeLaws.{Alike}
use Rattle.model.specs.Witness.{witness}
use Rattle.model.specs.Prefixes.{prefixes_by, orders, witnesses}
use Rattle.model.proofs.PrefixLaws.{passing-nonempty, witnesses-exactly}
use Rattle.states.specs.Decisions.{first, next_witness}
use Rattle.states.proofs.DecisionLaws.{witnesses-ascending}
use Rattle.deciding.specs.Replies.{decision_lines}
use Rattle.bench.specs.Decisions.{decide_lines, decide_reply, as_search}
use Rattle.bench.specs.Decisions.{DecideCall, DecideCalls, next_start, orders_given, said_no_other}
use Rattle.bench.specs.Search.{Searched, of_block, of_block_pruned}
use Rattle.bench.specs.Demands.{refusal, is_witness, Call, handed_out, is_finished, Demand3}
use Rattle.bench.specs.Demands.{WitnessesDecided, FirstDecision, DecisionAgrees}
use Rattle.bench.proofs.ReplyLaws.{read-memory, block-sound, pruned-sound}
use Rattle.bench.proofs.Demand3Laws.{empty-where-none, Holds, holds, demand3}
use Rattle.bench.proofs.OutcomeLaws.{by-reading}
use Rattle.bench.proofs.DemandLaws.{answered-is}

witnesses-nonempty : (t : Table) → AllAbove [] (witnesses t)
unfolding witnesses orders
witnesses-nonempty t =
    above-keep (witness t) [] (orders t)
    (above-keep (λ p. eqb (length p) (memory_count t)) [] (prefixes_by t distinct) (passing-nonempty t distinct))

-- of goals alone the first is what a search finds that visits one
first_found : (goal : List ℕ → Bool) (l : List (List ℕ)) (start : List ℕ) → ((p : List ℕ) → p ∈ l → goal p ≡ true) →
    as_search (answered (first l)) ≡ answered (answer goal l start 1)
unfolding answer
first_found goal [] start h = refl
first_found goal (p ∷ l) start h = rw (h p (Memᴰ.head refl)) refl

first-none : (l : List (List ℕ)) → (first l ≡ none) ↔ (l ≡ [])
first-none [] = (λ e. refl, λ e. refl)
first-none (p ∷ l) = (λ e. absurd (let z : ◌≡◌ {A = ℕ} 0 1 = cc in omega arith), λ e. absurd (cons-ne-nil p l e))

module _ (s : List ℕ) where
  -- of bytes that reading declines there is no witness
  abbrev witnesses_of : List (List ℕ)
  witnesses_of = unless (refusal (of_block s)) (witnesses (decoded s)) []

  ascends : Ascending witnesses_of
  ascends = by-reading Ascending (refusal (of_block s)) (witnesses (decoded s)) (λ ok. witnesses-ascending (decoded s)) tt

  nonempty : AllAbove [] witnesses_of
  nonempty = by-reading (AllAbove []) (refusal (of_block s)) (witnesses (decoded s)) (λ ok. witnesses-nonempty (decoded s)) tt

  -- they are the witnesses
  listed : (gmo : List ℕ) → (gmo ∈ witnesses_of) ↔ (is_witness (of_block s) gmo ≡ true)
  unfolding is_witness witness refusal read_refusal
  listed gmo = go (refusal (of_block s)) refl
    where
      no : (gmo ∈ []) ↔ (false ≡ true)
      no = (λ m. absurd (Memᴰ.not-nil m), λ e. absurd (false≢true e))

      go : (r : Refused) → refusal (of_block s) ≡ r →
          (gmo ∈ unless r (witnesses (decoded s)) []) ↔ (unless r (witness (decoded s) gmo) false ≡ true)
      go accepted ok = witnesses-exactly (decoded s) gmo (read-memory s ok)
      go (by_line k) e = no
      go (by_record k i) e = no
      go (by_place k p) e = no

  -- the reply to a call, by the definition
  abbrev decided : List ℕ → DecideCall → Reply Refused Answer
  decided start c = as_search (decide_reply s start c.buffer)

  -- it is a refusal, or that of a search along the witnesses
  honest : Honest (is_witness (of_block s)) witnesses_of decided
  unfolding decide_reply decide_lines next_witness refusal
  honest start c = go (first_line (decoded s).count (decide_lines s c.buffer)) refl
    where
      reply : List (List ℕ) → Reply Refused Answer
      reply l = as_search (answered (first (after start l)))

      a : Option (List ℕ)
      a = first (after start (witnesses (decoded s)))

      go : (r : Refused) → first_line (decoded s).count (decide_lines s c.buffer) ≡ r →
          ((x : Refused) × (as_search (reply_unless r a) ≡ refused x))
          ⊎ ((b : ℕ) × (as_search (reply_unless r a) ≡ answered (answer (is_witness (of_block s)) (after start witnesses_of) start b)))
      go accepted h =
          let ok = (passed-both (decoded s).count (reading_lines s) (decision_lines (decoded s) c.buffer) h).0 in
          inr (
            1,
            ap (λ (r : Refused). reply (unless r (witnesses (decoded s)) [])) (sym ok)
                ∙ first_found (is_witness (of_block s)) (after start witnesses_of) start
                (λ p m. (listed p).0 (keep-only (less start) witnesses_of p m).0),
          )
      go (by_line k) h = inl (by_line k, refl)
      go (by_record k i) h = inl (by_record k i, refl)
      go (by_place k p) h = inl (by_place k p, refl)

  -- what was promised agrees with it, call by call
  alike : (start : List ℕ) (cs : List DecideCall) → DecideCalls s start cs → Alike (λ p c. as_search c.told) decided start cs
  alike start [] h = tt
  alike start (c ∷ cs) h = (ap as_search h.0.0, alike (start_after start (as_search c.told)) cs h.1)

-- one claim over the whole list of calls
pub witnesses-decided : WitnessesDecided
unfolding decide_reply decide_lines refusal
witnesses-decided s cs h = record {
  exact = r.0;
  ascending = r.1;
  complete = r.2;
  forbidden = r.3;
  declined = λ n start c p. p.0 ∙ sym (entry-declined (decoded s).count (reading_lines s) _ _ (refusal (of_block s)) refl n);
}
  where
    goal : List ℕ → Bool
    goal = is_witness (of_block s)

    r : Holds goal (next_start cs) (orders_given cs) (said_no_other cs)
    r =
        holds goal (witnesses_of s) (λ p. (listed s p).1) (decided s) cs
        (walked goal (witnesses_of s) (decided s) (nonempty s) (ascends s) (honest s) cs)
        (λ p c. as_search c.told) (alike s [] cs h)

-- the first answer
pub first-decision : FirstDecision
unfolding decide_reply decide_lines next_witness refusal
first-decision s out o e = (
  λ n. empty.0 ((first-none (witnesses_of s)).0 (is ∙ n)),
  λ n. sym is ∙ (first-none (witnesses_of s)).1 (empty.1 n),
)
  where
    empty : (witnesses_of s ≡ []) ↔ ((gmo : List ℕ) → is_witness (of_block s) gmo ≡ false)
    empty = empty-where-none (is_witness (of_block s)) (witnesses_of s) (λ gmo. (listed s gmo).0) (λ gmo. (listed s gmo).1)

    is : first (witnesses_of s) ≡ o
    is =
        let h = answered-is (first_line (decoded s).count (decide_lines s out)) (next_witness (decoded s) []) o e in
        let ok = (passed-both (decoded s).count (reading_lines s) (decision_lines (decoded s) out) h.0).0 in
        ap (λ (r : Refused). first (unless r (witnesses (decoded s)) [])) ok
        ∙ ap first (sym (after-above [] (witnesses (decoded s)) (witnesses-nonempty (decoded s)))) ∙ h.1

-- decisions and a finished walk
agrees : (s : List ℕ) (q : Searched) (cs : List Call) → Demand3 q cs →
    ((gmo : List ℕ) → is_witness (of_block s) gmo ≡ is_witness q gmo) → is_finished cs ≡ true →
    ((ds : List DecideCall) → DecideCalls s [] ds → said_no_other ds ≡ true → orders_given ds ≡ handed_out cs)
    × ((out : List ℕ) (o : Option (List ℕ)) → decide_reply s [] out ≡ answered o → (o ≡ none) ↔ (handed_out cs ≡ []))
agrees s q cs d same f = (orders·, first·)
  where
    orders· : (ds : List DecideCall) → DecideCalls s [] ds → said_no_other ds ≡ true → orders_given ds ≡ handed_out cs
    orders· ds h n =
        let e = witnesses-decided s ds h in
        ascending-same (orders_given ds) (handed_out cs) e.ascending d.ascending
        (λ gmo m. d.complete f gmo (sym (same gmo) ∙ ((e.exact gmo).0 m).0))
        (λ gmo m. e.complete n gmo (same gmo ∙ ((d.exact gmo).0 m).0))

    first· : (out : List ℕ) (o : Option (List ℕ)) → decide_reply s [] out ≡ answered o → (o ≡ none) ↔ (handed_out cs ≡ [])
    first· out o e =
        let h = first-decision s out o e in
        let k = d.forbidden f in
        (λ n. k.1 (λ gmo. sym (same gmo) ∙ h.0 n gmo), λ n. h.1 (λ gmo. same gmo ∙ k.0 n gmo))

pub decision-agrees : DecisionAgrees
unfolding is_witness refusal
decision-agrees s cs w f =
    ⊎_elim
    (λ w. agrees s (of_block s) cs (demand3 (of_block s) (block-sound s) cs w) (λ gmo. refl) f)
    (λ w. agrees s (of_block_pruned s) cs (demand3 (of_block_pruned s) (pruned-sound s) cs w) (λ gmo. refl) f) w
