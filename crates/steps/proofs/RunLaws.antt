-- The steps of a list, one after the other.
use Prim.Native.Nat.{ℕ, zero, suc, ◌+◌, ◌-◌, ◌≤◌, ◌<◌}
use native.Mathlib.Omega.{arith}
use native.Mathlib.Numerals.{add-one}
use mathlib.Core.Path.{◌≡◌, refl, sym, ap, subst, ◌∙◌}
use mathlib.Core.Bool.{Bool, true, false, cond, ◌&&◌, and-false}
use mathlib.Core.List.{List, [], ◌∷◌}
use lib.ListN.{length, get_or, drop, length-take, drop_of_length-le}
use lib.Seq.{drop-cons}
use lib.Dec.{ltb}
use borrow.Author.Tests.{lt-ltb, le-ltb}
use Rattle.std.specs.Prelude.{Option, Some}
use Rattle.lists.specs.Below.{first_from, up_from, below}
use Rattle.lists.specs.Lists.{has}
use Rattle.lists.proofs.BoolLaws.{and_l}
use Rattle.lists.proofs.DistinctLaws.{pigeonhole}
use Rattle.lists.proofs.MemberLaws.{has_all, has-below}
use Rattle.lists.proofs.SomeLaws.{every-at}
use Rattle.masks.specs.Bit.{bit}
use Rattle.masks.proofs.GatherLaws.{mask-none}
use Rattle.edition.specs.Limits.{max_harts}
use Rattle.table.specs.declared.Table.{Table}
use Rattle.table.specs.Events.{reads, memory}
use Rattle.model.specs.Witness.{is_memory_event}
use Rattle.successors.specs.CleanMasks.{slots}
use Rattle.machine.specs.Machine.{State, start, next, buffered, oldest, may_issue, may_drain, enter, perform, drain}
use Rattle.machine.specs.Machine.{event_of, accepts, stepped, is_run, after}
use Rattle.machine.specs.Statements.{state}
use Rattle.machine.proofs.TsoLaws.{TsoTable}
use Rattle.machine.proofs.StateLaws.{Reached, Next, stores, next-is}
use Rattle.machine.proofs.StepLaws.{reached-start, reached-step}
use Rattle.steps.specs.declared.Done.{Done}
use Rattle.steps.specs.declared.Taken.{Taken}
use Rattle.steps.specs.Steps.{Room, Holds, Outcome, Begun}

-- e is the next of its hart
pub is-next : (t : Table) (s : State) (b e : ℕ) → e ≡ next t s b → e < t.count → Next t s e
is-next t s b e q l = subst (Next t s) (sym q) (next-is t s b (subst (λ (x : ℕ). x < t.count) q l)).0

module _ (t : Table) (order rf : List ℕ) where
  module _ (s : State) (b : ℕ) where
    -- it issues
    pub take-issues : (e : ℕ) (r : Option Taken) → b < max_harts → e ≡ next t s b → e < t.count →
        Outcome t (may_issue t s e) e (cond (reads t e) (perform t s e) (enter s e)) order rf r →
        Outcome t (accepts t s b) (event_of t s b) (stepped t s b) order rf r
    unfolding accepts event_of stepped
    take-issues e r l q i h =
        rw (lt-ltb b max_harts l)
        (subst (λ (x : ℕ). Outcome t (ltb x t.count && may_issue t s x) x (cond (reads t x) (perform t s x) (enter s x)) order rf r) q
        (rw (lt-ltb e t.count i) h))

    pub take-issues-none : (e : ℕ) → b < max_harts → e ≡ next t s b → ¬ (e < t.count) → accepts t s b ≡ false
    unfolding accepts event_of
    take-issues-none e l q i =
        rw (lt-ltb b max_harts l)
        (ap (λ (x : Bool). x && may_issue t s (next t s b)) (ap (λ (x : ℕ). ltb x t.count) (sym q) ∙ le-ltb e t.count (omega (arith, i))))

    -- it drains
    pub take-drains : (e : ℕ) (r : Option Taken) → max_harts ≤ b → e ≡ oldest t s (b - max_harts) → e < t.count →
        Outcome t (may_drain t s e) e (drain s e) order rf r → Outcome t (accepts t s b) (event_of t s b) (stepped t s b) order rf r
    unfolding accepts event_of stepped
    take-drains e r l q i h =
        rw (le-ltb b max_harts l)
        (subst (λ (x : ℕ). Outcome t (ltb x t.count && may_drain t s x) x (drain s x) order rf r) q (rw (lt-ltb e t.count i) h))

    pub take-drains-none : (e : ℕ) → max_harts ≤ b → e ≡ oldest t s (b - max_harts) → ¬ (e < t.count) → accepts t s b ≡ false
    unfolding accepts event_of
    take-drains-none e l q i =
        rw (le-ltb b max_harts l)
        (ap (λ (x : Bool). x && may_drain t s (oldest t s (b - max_harts)))
        (ap (λ (x : ℕ). ltb x t.count) (sym q) ∙ le-ltb e t.count (omega (arith, i))))

long-from : (k m : ℕ) → length (up_from k m) ≡ m
unfolding up_from
long-from k zero = refl
long-from k (suc m) = ap suc (long-from (suc k) m)

-- the order of a state has each event once, and so there is room
pub room-left : {t : Table} {d : Done} {order rf : List ℕ} {s : State} → TsoTable t → Reached t s → Holds t d order rf s →
    length order ≡ slots → length rf ≡ slots → Room d order rf
unfolding is_memory_event
room-left {t} {d} {order} {rf} {s} k r h o l = record {
  more = omega (arith, ap length h.placed, length-take d.len order, few, k.good.small.events);
  long = o;
  each = l;
}
  where
    few : length s.gmo ≤ t.count
    few =
        omega (
          arith,
          pigeonhole s.gmo (below t.count) r.sound.different
              (has_all (λ x. has x (below t.count)) s.gmo
              (λ x m. has-below t.count x ∙ and_l (ltb x t.count) (memory t x) (r.sound.events x m))),
          long-from 0 t.count,
        )

-- the steps before place i are taken: those from there on decide
pub record Running (t : Table) (bs order rf : List ℕ) (d : Done) (i : ℕ) : Type 0 where
  pub at : State
  pub reached : Reached t at
  pub holds : Holds t d order rf at
  pub long : length order ≡ slots
  pub each : length rf ≡ slots
  pub inside : i ≤ length bs
  pub runs : is_run t (start t) bs ≡ is_run t at (drop i bs)
  pub leads : state t bs ≡ after t at (drop i bs)

pub run_room : {t : Table} {bs order rf : List ℕ} {d : Done} {i : ℕ} → TsoTable t → Running t bs order rf d i → Room d order rf
run_room k v = room-left k v.reached v.holds v.long v.each

module _ {t : Table} {bs order rf : List ℕ} where
  pub run-start : t.count < slots → Begun t order rf → Running t bs order rf (record { left = 4294967295; held = 0; len = 0 }) 0
  unfolding start buffered first_from
  run-start small b = record {
    at = start t;
    reached = reached-start t;
    holds = record {
      left = λ k l. every-at 32 (bit 4294967295) k refl (omega arith);
      held = sym (mask-none (buffered t (start t)) t.count (λ k. ap (λ (x : Bool). x && true) (and-false (stores t k))));
      placed = refl;
      returned = b.empty;
    };
    long = b.long;
    each = b.each;
    inside = omega arith;
    runs = refl;
    leads = refl;
  }

  module _ {d : Done} {i : ℕ} (v : Running t bs order rf d i) where
    -- nothing is left
    pub run_end : length bs ≤ i → (is_run t (start t) bs ≡ true) × Holds t d order rf (state t bs)
    unfolding is_run after
    run_end l = (
      v.runs ∙ ap (is_run t v.at) none,
      subst (Holds t d order rf) (sym (v.leads ∙ ap (after t v.at) none)) v.holds,
    )
      where
        none : drop i bs ≡ []
        none = drop_of_length-le bs {i = i} l

    -- the next step
    module _ (l : i < length bs) where
      here : drop i bs ≡ get_or bs i 0 ∷ drop (i + 1) bs
      here = drop-cons bs i 0 l ∙ ap (λ (j : ℕ). get_or bs i 0 ∷ drop j bs) (sym (add-one i))

      -- isn't taken
      pub run-breaks : accepts t v.at (get_or bs i 0) ≡ false → is_run t (start t) bs ≡ false
      unfolding is_run
      run-breaks h =
          v.runs ∙ ap (is_run t v.at) here
          ∙ ap (λ (x : Bool). x && is_run t (stepped t v.at (get_or bs i 0)) (drop (i + 1) bs)) h

      -- is
      pub run_more : TsoTable t → {order' rf' : List ℕ} {step : Taken} →
          Outcome t (accepts t v.at (get_or bs i 0)) (event_of t v.at (get_or bs i 0)) (stepped t v.at (get_or bs i 0)) order' rf'
          (Some step) → length order' ≡ slots → length rf' ≡ slots → Running t bs order' rf' step.done (i + 1)
      unfolding is_run after
      run_more k h o r = record {
        at = stepped t v.at (get_or bs i 0);
        reached = reached-step k v.at (get_or bs i 0) v.reached h.0;
        holds = h.2;
        long = o;
        each = r;
        inside = omega arith;
        runs = v.runs ∙ ap (is_run t v.at) here
            ∙ ap (λ (x : Bool). x && is_run t (stepped t v.at (get_or bs i 0)) (drop (i + 1) bs)) h.0;
        leads = v.leads ∙ ap (after t v.at) here;
      }
