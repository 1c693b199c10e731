-- What the steps of a run keep true, and which event a step takes.
use Prim.Native.Nat.{ℕ, ◌<◌}
use mathlib.Core.Path.{◌≡◌, refl, sym, ap, ◌∙◌}
use mathlib.Core.Bool.{Bool, true, false, not, ◌&&◌, ◌||◌, or-true, and-false}
use mathlib.Core.Logic.{⊎_elim}
use lib.ListN.{length}
use lib.Dec.{eqb}
use borrow.Author.Tests.{eqb-true, eq-eqb, not-true, not-false}
use Rattle.lists.specs.Below.{lowest}
use Rattle.lists.specs.Lists.{has}
use Rattle.lists.proofs.BoolLaws.{and_l, and_r, is_false, not-either}
use Rattle.lists.proofs.SomeLaws.{lowest-hit, lowest-least, lowest-is}
use Rattle.table.specs.declared.Table.{Table}
use Rattle.table.specs.Events.{kind, hart, reads, writes, memory, po, reading_kind, memory_kind, load, store, amo, lr, sc}
use Rattle.table.proofs.ProgramOrderLaws.{po-less, po-hart, is-po, po-cases}
use Rattle.model.proofs.VerdictLaws.{EntriesOfReaders}
use Rattle.machine.specs.Machine.{State, next, buffered, oldest}
use Rattle.machine.proofs.OrderLaws.{Sound}

-- "Plain stores and SCs" are the memory events that don't read
storing : (k : ℕ) → (eqb k store || eqb k sc) ≡ (memory_kind k && not (reading_kind k))
storing k = go (eqb k store) refl (eqb k sc) refl
  where
    neither : (a b c : Bool) → false ≡ ((a || b || c || (false || b || false)) && not (a || b || c))
    neither true b c = refl
    neither false true c = refl
    neither false false true = refl
    neither false false false = refl

    go : (d : Bool) → eqb k store ≡ d → (f : Bool) → eqb k sc ≡ f → (d || f) ≡ (memory_kind k && not (reading_kind k))
    go true p f q = sym (ap (λ (x : ℕ). memory_kind x && not (reading_kind x)) (eqb-true k store p))
    go false p true q = sym (ap (λ (x : ℕ). memory_kind x && not (reading_kind x)) (eqb-true k sc q))
    go false p false q = rw (p, q) (neither (eqb k load) (eqb k amo) (eqb k lr))

module _ (t : Table) where
  abbrev pub stores : ℕ → Bool
  stores e = eqb (kind t e) store || eqb (kind t e) sc

  pub stores-is : (e : ℕ) → stores e ≡ (memory t e && not (reads t e))
  unfolding memory reads writes
  stores-is e = storing (kind t e)

  pub store-memory : (e : ℕ) → stores e ≡ true → memory t e ≡ true
  store-memory e h = and_l (memory t e) _ (sym (stores-is e) ∙ h)

  pub store-reads : (e : ℕ) → stores e ≡ true → reads t e ≡ false
  store-reads e h = not-true _ (and_r (memory t e) _ (sym (stores-is e) ∙ h))

  pub store_writes : (e : ℕ) → stores e ≡ true → writes t e ≡ true
  unfolding memory
  store_writes e h = rw (store-reads e h) at (store-memory e h)

  pub reads-memory : (e : ℕ) → reads t e ≡ true → memory t e ≡ true
  unfolding memory
  reads-memory e h = rw h

  pub writes_memory : (e : ℕ) → writes t e ≡ true → memory t e ≡ true
  unfolding memory
  writes_memory e h = rw h (or-true (reads t e))

  -- what holds of every state that a run reaches
  pub record Reached (s : State) : Type 0 where
    -- a hart issues in program order
    pub down : (d e : ℕ) → has e s.issued ≡ true → po t d e ≡ true → has d s.issued ≡ true
    pub listed : (e : ℕ) → has e s.gmo ≡ true → has e s.issued ≡ true
    pub readers : (e : ℕ) → has e s.issued ≡ true → reads t e ≡ true → has e s.gmo ≡ true
    pub long : length s.rf ≡ t.count
    pub others : EntriesOfReaders t s.rf
    pub sound : Sound t s.rf s.gmo

  -- e is its hart's next event
  pub record Next (s : State) (e : ℕ) : Type 0 where
    pub inside : e < t.count
    pub new : has e s.issued ≡ false
    pub down : (d : ℕ) → po t d e ≡ true → has d s.issued ≡ true

  -- e is its hart's oldest buffered store
  pub record Oldest (s : State) (e : ℕ) : Type 0 where
    pub inside : e < t.count
    pub held : buffered t s e ≡ true
    pub first : (d : ℕ) → po t d e ≡ true → buffered t s d ≡ false

  module _ (s : State) where
    -- of hart h the lowest that passes a test: it is of the hart, passes, and no earlier one does
    found-on : (f : ℕ → Bool) (h : ℕ) → let e = lowest t.count (λ x. eqb (hart t x) h && f x) in e < t.count →
        (hart t e ≡ h) × (f e ≡ true) × ((d : ℕ) → po t d e ≡ true → f d ≡ false)
    found-on f h l = (
      mine,
      and_r (eqb (hart t e) h) _ hit,
      λ d o.
          rw (eq-eqb (hart t d) h (po-hart t d e o ∙ mine)) at (lowest-least t.count (λ x. eqb (hart t x) h && f x) d (po-less t d e o)),
    )
      where
        e : ℕ
        e = lowest t.count (λ x. eqb (hart t x) h && f x)

        hit : (eqb (hart t e) h && f e) ≡ true
        hit = lowest-hit t.count (λ x. eqb (hart t x) h && f x) l

        mine : hart t e ≡ h
        mine = eqb-true (hart t e) h (and_l _ (f e) hit)

    pub next-is : (h : ℕ) → next t s h < t.count → Next s (next t s h) × (hart t (next t s h) ≡ h)
    unfolding next
    next-is h l =
        let r = found-on (λ x. not (has x s.issued)) h l in
        (record { inside = l; new = not-true _ r.1; down = λ d o. not-false _ (r.2 d o) }, r.0)

    pub oldest-is : (h : ℕ) → oldest t s h < t.count → Oldest s (oldest t s h) × (hart t (oldest t s h) ≡ h)
    unfolding oldest
    oldest-is h l = let r = found-on (buffered t s) h l in (record { inside = l; held = r.1; first = r.2 }, r.0)

    -- of e's hart the lowest that passes a test, where no earlier one does
    lowest-on : (f : ℕ → Bool) (e : ℕ) → e < t.count → f e ≡ true → ((d : ℕ) → po t d e ≡ true → f d ≡ false) →
        lowest t.count (λ x. eqb (hart t x) (hart t e) && f x) ≡ e
    lowest-on f e l h none = lowest-is t.count _ e (
      l,
      rw (eq-eqb (hart t e) (hart t e) refl) h,
      λ x i. is_false _ (λ q.
          not-either (f x) (and_r (eqb (hart t x) (hart t e)) _ q) (none x (is-po t x e i (eqb-true _ _ (and_l _ (f x) q))))),
    )

    pub is-next : (e : ℕ) → Next s e → next t s (hart t e) ≡ e
    unfolding next
    is-next e n = lowest-on (λ x. not (has x s.issued)) e n.inside (ap not n.new) (λ d o. ap not (n.down d o))

    pub is-oldest : (e : ℕ) → Oldest s e → oldest t s (hart t e) ≡ e
    unfolding oldest
    is-oldest e o = lowest-on (buffered t s) e o.inside o.held o.first

    -- what a buffered store is
    pub record Buffered (e : ℕ) : Type 0 where
      pub stored : stores e ≡ true
      pub issued : has e s.issued ≡ true
      pub away : has e s.gmo ≡ false

    pub buffered-is : (e : ℕ) → buffered t s e ≡ true → Buffered e
    unfolding buffered
    buffered-is e h = record {
      stored = search (and_l, and_r);
      issued = search (and_l, and_r);
      away = not-true _ (search (and_l, and_r));
    }

  module _ (s : State) (r : Reached s) where
    -- an issued memory event is buffered where it isn't in the order
    pub held-is : (a : ℕ) → memory t a ≡ true → has a s.issued ≡ true → buffered t s a ≡ not (has a s.gmo)
    unfolding buffered
    held-is a m i = rw (stores-is a, m, i) (go (has a s.gmo) refl)
      where
        go : (b : Bool) → has a s.gmo ≡ b → (not (reads t a) && true && not b) ≡ not b
        go true q = and-false (not (reads t a) && true)
        go false q = rw (is_false (reads t a) (λ h. not-either _ (r.readers a i h) q))

    -- an issued event of e's hart is earlier than e, which is next
    pub issued-earlier : (w e : ℕ) → Next s e → has w s.issued ≡ true → hart t w ≡ hart t e → po t w e ≡ true
    issued-earlier w e n i h =
        ⊎_elim (λ (p : po t w e ≡ true). p)
        (⊎_elim (λ (q : w ≡ e). absurd (not-either _ (ap (λ (x : ℕ). has x s.issued) (sym q) ∙ i) n.new))
        (λ p. absurd (not-either _ (r.down e w i p) n.new))) (po-cases t w e h)

    -- and e isn't in the order
    pub next-away : (e : ℕ) → Next s e → has e s.gmo ≡ false
    next-away e n = is_false _ (λ h. not-either _ (r.listed e h) n.new)
