-- "A step machine for RVTSO": a machine of single steps with a store buffer for each hart.
use Rattle.std.specs.Prelude.{ℕ, ◌-◌, Bool, true, cond, ◌&&◌, ◌||◌, not, List, [], ◌∷◌, ◌++◌, set, eqb, ltb}
use Rattle.lists.specs.Below.{lowest, some, every, below}
use Rattle.lists.specs.Lists.{has, last_or}
use Rattle.lists.specs.Filled.{up_to}
use Rattle.edition.specs.Limits.{max_harts}
use Rattle.table.specs.declared.Table.{Table}
use Rattle.table.specs.Events.{kind, hart, location, reads, same_location, store, amo, sc}
use Rattle.table.specs.Annotations.{rvtso}
use Rattle.model.specs.Rules.{nothing, from, static_ppo}
use Rattle.model.specs.Returns.{last_write}
use Rattle.model.specs.Axioms.{breaks_pair}
use Rattle.placing.specs.Guards.{depends}

-- What the steps so far have done: the events issued, the last one first; the drains, loads, LRs and AMOs in their order; and the
-- returned list so far. A hart issues in program order, so which events its buffer holds, and in which order, follows.
pub record State : Type 0 where
  pub issued : List ℕ
  pub gmo : List ℕ
  pub rf : List ℕ

-- no step yet
unfoldable pub start : Table → State
start t = record { issued = []; gmo = []; rf = up_to t.count (λ e. nothing) }

-- "a hart issues its next event": the first of hart h that isn't issued; the number of events if all are
unfoldable pub next : Table → State → ℕ → ℕ
next t s h = lowest t.count (λ e. eqb (hart t e) h && not (has e s.issued))

-- "Plain stores and SCs enter the hart's buffer": e is in its hart's, from its issue to its drain
unfoldable pub buffered : Table → State → ℕ → Bool
buffered t s e = (eqb (kind t e) store || eqb (kind t e) sc) && has e s.issued && not (has e s.gmo)

-- "or drains its oldest buffered store": that of hart h; the number of events if its buffer is empty
unfoldable pub oldest : Table → State → ℕ → ℕ
oldest t s h = lowest t.count (λ e. eqb (hart t e) h && buffered t s e)

-- "A reader issues only if no store in its hart's buffer precedes it by a steady rule": one does
unfoldable pub waits : Table → State → ℕ → Bool
waits t s r = some t.count (λ a. buffered t s a && static_ppo t a r)

-- w is in the buffer of r's hart, and to r's location
unfoldable pub forwards : Table → State → ℕ → ℕ → Bool
forwards t s r w = buffered t s w && eqb (hart t w) (hart t r) && same_location t w r

-- "the newest buffered store to its location"; the number of events if there is none
unfoldable pub newest : Table → State → ℕ → ℕ
newest t s r = last_or (forwards t s r) t.count (below t.count)

-- it "neither is an SC nor has an address or data dependency on a buffered SC": w does
unfoldable pub unsure : Table → State → ℕ → Bool
unsure t s w = eqb (kind t w) sc || some t.count (λ a. buffered t s a && eqb (kind t a) sc && depends t w a)

-- what is asked of a reader before it issues; stores and SCs enter the buffer, and "Fences just pass"
unfoldable pub may_issue : Table → State → ℕ → Bool
may_issue t s e = not (reads t e) || not (waits t s e) && not (ltb (newest t s e) t.count && unsure t s (newest t s e))

-- "a load or LR returns from that buffered store, else from the last write to memory. An AMO reads .. memory"
unfoldable pub returned : Table → State → ℕ → ℕ
returned t s r =
    cond (ltb (newest t s r) t.count && not (eqb (kind t r) amo)) (newest t s r) (last_write t s.gmo (location t r))

-- "An SC drains only if atomicity allows it": for its pair, with e behind the order so far; of a plain store atomicity says nothing
unfoldable pub may_drain : Table → State → ℕ → Bool
may_drain t s e = not (some t.count (λ l. breaks_pair t s.rf (s.gmo ++ (e ∷ [])) l e))

-- a store or SC enters its hart's buffer; a fence passes
unfoldable pub enter : State → ℕ → State
enter s e = record { issued = e ∷ s.issued; gmo = s.gmo; rf = s.rf }

-- a load, LR or AMO takes its place in the order, and what it returns from in the list; an AMO "writes memory at once"
unfoldable pub perform : Table → State → ℕ → State
perform t s e = record { issued = e ∷ s.issued; gmo = s.gmo ++ (e ∷ []); rf = set s.rf e (returned t s e) }

-- a buffered store or SC takes its place in the order
unfoldable pub drain : State → ℕ → State
drain s e = record { issued = s.issued; gmo = s.gmo ++ (e ∷ []); rf = s.rf }

-- "each one byte: the hart to issue, or the hart plus 4 to drain": b is to issue
abbrev pub is_issue : ℕ → Bool
is_issue b = ltb b max_harts

-- "its event"; the number of events if there is none
unfoldable pub event_of : Table → State → ℕ → ℕ
event_of t s b = cond (is_issue b) (next t s b) (oldest t s (b - max_harts))

-- the machine takes the step b
unfoldable pub accepts : Table → State → ℕ → Bool
accepts t s b = let e = event_of t s b in ltb e t.count && cond (is_issue b) (may_issue t s e) (may_drain t s e)

unfoldable pub stepped : Table → State → ℕ → State
stepped t s b = let e = event_of t s b in cond (is_issue b) (cond (reads t e) (perform t s e) (enter s e)) (drain s e)

-- "A state is the list of steps so far": a run, in which each step is taken; and what the steps have done
unfoldable pub is_run : Table → State → List ℕ → Bool
is_run t s [] = true
is_run t s (b ∷ bs) = accepts t s b && is_run t (stepped t s b) bs

unfoldable pub after : Table → State → List ℕ → State
after t s [] = s
after t s (b ∷ bs) = after t (stepped t s b) bs

-- "what a returned list holds for that event (254 for a store or fence)"
unfoldable pub entry_of : Table → State → ℕ → ℕ
entry_of t s b = from (stepped t s b).rf (event_of t s b)

-- 24: "A list that isn't a run, a model 0 table or any other step"
unfoldable pub line24 : Table → List ℕ → ℕ → Bool
line24 t bs b = not (eqb t.model rvtso && is_run t (start t) bs && accepts t (after t (start t) bs) b)

-- "complete runs": every event is issued, and no buffer holds a store
unfoldable pub complete : Table → State → Bool
complete t s = every t.count (λ e. has e s.issued && not (buffered t s e))
