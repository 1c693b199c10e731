-- A list is a witness exactly if its events may be placed one after the other, from the start to an end.
use Prim.Native.Nat.{ℕ, zero, suc, ◌+◌, ◌≤◌, ◌<◌}
use native.Mathlib.Omega.{arith}
use mathlib.Core.Path.{◌≡◌, refl, sym, ap, ap₂, ◌∙◌}
use mathlib.Core.Bool.{Bool, true, false, not, ◌&&◌, ◌||◌, or-true, and_comm}
use mathlib.Core.List.{List, ◌∷◌, ◌++◌}
use lib.ListN.{length, get_or, take, drop, drop_of_length-le}
use lib.Seq.{take-suc, take_all, drop-cons, split_at}
use lib.Dec.{eqb, ltb}
use borrow.Author.Tests.{ltb-true, lt-ltb, eq-eqb, not-true}
use Rattle.lists.specs.Below.{some, every}
use Rattle.lists.specs.Lists.{all, has, count, distinct}
use Rattle.lists.proofs.BoolLaws.{and_l, and_r, and_both, or-implied, implied, bool-ext, not-either, is_false, eqb_comm}
use Rattle.lists.proofs.SomeLaws.{some-found, some-none, none-at, every-at, at_every}
use Rattle.lists.proofs.ListLaws.{all-has}
use Rattle.lists.proofs.MemberLaws.{has_all, has-append, has-later}
use Rattle.lists.proofs.TakeLaws.{all-every}
use Rattle.lists.proofs.DistinctLaws.{distinct-last, distinct_apart, distinct-once}
use Rattle.lists.proofs.BeforeLaws.{before_self, before-taken}
use Rattle.masks.specs.Bit.{bit}
use Rattle.masks.specs.MaskOf.{mask_of}
use Rattle.masks.proofs.MaskOfLaws.{mask-has}
use Rattle.table.specs.declared.Table.{Table}
use Rattle.table.specs.Events.{location, writes, memory, memory_events, same_location}
use Rattle.table.proofs.MemoryLaws.{memory-has}
use Rattle.model.specs.Axioms.{final_values}
use Rattle.model.specs.Witness.{is_memory_event, is_order, lawful, witness_for, stated_outcome, witness}
use Rattle.model.specs.Prefixes.{is_prefix, clean}
use Rattle.model.proofs.PrefixLaws.{witness-clean}
use Rattle.placing.specs.GoodTable.{GoodTable}
use Rattle.placing.specs.Entries.{among, ready_at, lawful_at, stated_at}
use Rattle.placing.proofs.KeptLaws.{Kept, counted, writer_in, clean-kept}
use Rattle.placing.proofs.EntryLaws.{clean-entries, entry_in, witness-entries}
use Rattle.order_facts.specs.Facts.{peers, wrong, unmet}
use Rattle.order_facts.proofs.FinalLaws.{spoils, final-entries}
use Rattle.states.specs.declared.State.{State}
use Rattle.states.specs.States.{ends_well, start, step, ends, runs}
use Rattle.states.proofs.StateLaws.{state_of, start-state, step-state, follows, accepts-state}

-- no entry is there twice, if none stands among those before it
taken-distinct : (l : List ℕ) → ((i : ℕ) → i < length l → has (get_or l i 0) (take i l) ≡ false) → distinct l ≡ true
taken-distinct l h = ap distinct (sym (take_all (length l) l (omega arith))) ∙ upto (length l) (omega arith)
  where
    upto : (i : ℕ) → i ≤ length l → distinct (take i l) ≡ true
    upto zero k = refl
    upto (suc i) k =
        ap distinct (take-suc l i 0 (omega arith)) ∙ distinct-last (take i l) (get_or l i 0)
        ∙ and_both _ _ (upto i (omega arith)) (ap not (h i (omega arith)))

-- writers to one location are peers of each other
peers-turned : (t : Table) (w v : ℕ) → peers t w v ≡ peers t v w
unfolding peers same_location
peers-turned t w v =
    rw (and_comm (writes t w) (writes t v), eqb_comm (location t v) (location t w), eqb_comm v w) refl

-- a peer is another writer
peers-other : (t : Table) (w v : ℕ) → peers t w v ≡ true → (writes t v ≡ true) × (eqb v w ≡ false)
unfolding peers
peers-other t w v h = (search (and_l, and_r), not-true _ (search (and_l, and_r)))

module _ (t : Table) (fit : GoodTable t) (gmo : List ℕ) where
  -- entry i may be placed behind those before it
  abbrev follows_at : ℕ → Bool
  follows_at i = follows t (take i gmo) (get_or gmo i 0)

  -- what is left is a run from where those before it lead
  abbrev runs_at : ℕ → Bool
  runs_at i = runs t (state_of t (take i gmo)) (drop i gmo)

  follows-count : (i : ℕ) → follows_at i ≡ true → get_or gmo i 0 < t.count
  unfolding is_memory_event
  follows-count i h = ltb-true _ t.count (search (and_l, and_r))

  run-next : (i : ℕ) → i < length gmo → runs_at i ≡ (follows_at i && runs_at (suc i))
  unfolding runs
  run-next i l =
      ap (runs t (state_of t (take i gmo))) (drop-cons gmo i 0 l)
      ∙ ap (λ (b : Bool). b && runs t (step t (state_of t (take i gmo)) (get_or gmo i 0)) (drop (suc i) gmo))
      (accepts-state t (take i gmo) (get_or gmo i 0))
      ∙ go (follows_at i) refl
    where
      go : (b : Bool) → follows_at i ≡ b →
          (b && runs t (step t (state_of t (take i gmo)) (get_or gmo i 0)) (drop (suc i) gmo)) ≡ (b && runs_at (suc i))
      go true h =
          ap (λ (s : State). runs t s (drop (suc i) gmo))
          (step-state t fit (take i gmo) (get_or gmo i 0) (follows-count i h) ∙ ap (state_of t) (sym (take-suc gmo i 0 l)))
      go false h = refl

  -- a run goes on at each of its entries
  runs_on : runs_at 0 ≡ true → (i : ℕ) → i ≤ length gmo → runs_at i ≡ true
  runs_on h zero l = h
  runs_on h (suc i) l = and_r (follows_at i) _ (sym (run-next i (omega arith)) ∙ runs_on h i (omega arith))

  runs-back : (n i : ℕ) → i + n ≡ length gmo → ((j : ℕ) → j < length gmo → follows_at j ≡ true) → runs_at (length gmo) ≡ true →
      runs_at i ≡ true
  runs-back zero i q h r = let e : i ≡ length gmo = omega arith in ap runs_at e ∙ r
  runs-back (suc n) i q h r =
      run-next i (omega arith) ∙ and_both _ _ (h i (omega arith)) (runs-back n (suc i) (omega arith) h r)

  -- behind the last entry a run is an end
  runs-end : runs_at (length gmo) ≡ ends t (state_of t gmo)
  unfolding runs
  runs-end =
      ap₂ (λ (p q : List ℕ). runs t (state_of t p) q) (take_all (length gmo) gmo (omega arith))
      (drop_of_length-le gmo {i = length gmo} (omega arith))

  -- the start is where nothing leads
  runs-start : runs t (start t) gmo ≡ runs_at 0
  runs-start = ap (λ (s : State). runs t s gmo) (start-state t)

  -- Entry i of an order leaves its final value, or one that isn't placed yet does.
  module _ (k : Kept t gmo) (i : ℕ) (l : i < length gmo) where
    abbrev e : ℕ
    e = get_or gmo i 0

    parts : gmo ≡ take i gmo ++ (e ∷ drop (suc i) gmo)
    parts = split_at gmo i 0 l

    -- those behind it are those that aren't placed, but itself
    behind-in : (v : ℕ) → has v (drop (suc i) gmo) ≡ true → (has v gmo ≡ true) × (has v (take i gmo) ≡ false)
    behind-in v h =
        let later : has v (e ∷ drop (suc i) gmo) ≡ true = has-later v e (drop (suc i) gmo) h in (
          ap (has v) parts ∙ has-append v (take i gmo) (e ∷ drop (suc i) gmo) ∙ rw later (or-true (has v (take i gmo))),
          is_false _ (λ q. not-either _ later
              (distinct_apart (take i gmo) (e ∷ drop (suc i) gmo) v (sym (ap distinct parts) ∙ k.different) q)),
        )

    in-behind : (v : ℕ) → has v gmo ≡ true → has v (take i gmo) ≡ false → eqb v e ≡ false → has v (drop (suc i) gmo) ≡ true
    in-behind v h n q =
        rw (n, q) at (sym (has-append v (take i gmo) (e ∷ drop (suc i) gmo)) ∙ sym (ap (has v) parts) ∙ h)

    -- v is another writer to its location that isn't placed
    abbrev to_come : ℕ → Bool
    to_come v = peers t e v && not (has v (take i gmo))

    abbrev settled : Bool
    settled = all (λ v. not (peers t v e)) (drop (suc i) gmo)

    to-come : some t.count to_come ≡ true → settled ≡ false
    to-come h = is_false settled (λ q.
        let r = some-found t.count to_come h in
        let v : ℕ = r.0 in
        let p : peers t e v ≡ true = and_l (peers t e v) _ r.2 in
        let o = peers-other t e v p in
        let behind = in-behind v (writer_in k v r.1 o.0) (not-true _ (and_r (peers t e v) _ r.2)) o.1 in
        not-either _ (peers-turned t v e ∙ p) (not-true _ (all-has (λ v. not (peers t v e)) (drop (suc i) gmo) v q behind)))

    none-come : some t.count to_come ≡ false → settled ≡ true
    none-come n = has_all _ (drop (suc i) gmo) (λ v m.
        let b = behind-in v m in
        ap not (is_false (peers t v e) (λ p.
        not-either _ (and_both _ _ (peers-turned t e v ∙ p) (ap not b.1)) (none-at t.count to_come v n (counted k v b.0)))))

    pub ends-spoils : ends_well t (among gmo i) e ≡ not (spoils t (drop (suc i) gmo) e)
    unfolding ends_well spoils
    ends-spoils = go (wrong t e) (some t.count to_come) refl
      where
        go : (b c : Bool) → some t.count to_come ≡ c → (not b || c) ≡ not (b && settled)
        go false c h = refl
        go true true h = ap not (sym (to-come h))
        go true false h = ap not (sym (none-come h))

  -- Of a witness: each entry may be placed behind those before it, and none is left.
  module _ (w : witness t gmo ≡ true) where
    witness-order : is_order t gmo ≡ true
    unfolding witness witness_for lawful
    witness-order = search (and_l, and_r)

    witness-prefix : clean t gmo ≡ true
    unfolding witness
    witness-prefix = witness-clean t (stated_outcome t) gmo w

    witness-kept : Kept t gmo
    witness-kept = clean-kept fit witness-order witness-prefix

    abbrev each_told : Bool
    each_told = every (length gmo) (λ i. lawful_at t gmo i && stated_at t gmo i)

    told : (each_told && final_values t gmo) ≡ true
    told = sym (witness-entries t gmo fit witness-order witness-prefix) ∙ w

    abbrev spoils_at : ℕ → Bool
    spoils_at i = spoils t (drop (suc i) gmo) (get_or gmo i 0)

    ended : (not (some t.locations (unmet t)) && not (some (length gmo) spoils_at)) ≡ true
    ended = sym (final-entries witness-kept) ∙ and_r each_told _ told

    witness-met : some t.locations (unmet t) ≡ false
    witness-met = not-true _ (and_l _ (not (some (length gmo) spoils_at)) ended)

    none-spoils : some (length gmo) spoils_at ≡ false
    none-spoils = not-true _ (and_r (not (some t.locations (unmet t))) _ ended)

    witness-follows : (i : ℕ) → i < length gmo → follows_at i ≡ true
    unfolding ready_at lawful_at stated_at
    witness-follows i l =
        let different = witness-kept.different in
        let at = every-at (length gmo) (λ i. lawful_at t gmo i && stated_at t gmo i) i (and_l each_told _ told) l in
        rw (
          witness-kept.events (get_or gmo i 0) (entry_in witness-kept i l),
          sym (before-taken gmo i (get_or gmo i 0) different l) ∙ before_self gmo (get_or gmo i 0) different,
          every-at (length gmo) (ready_at t gmo) i (and_r (is_prefix t gmo) _ (sym (clean-entries t gmo) ∙ witness-prefix)) l,
          and_l (lawful_at t gmo i) _ at,
          and_r (lawful_at t gmo i) _ at,
        )
        (ends-spoils witness-kept i l ∙ ap not (none-at (length gmo) spoils_at i none-spoils l))

    witness-ends : ends t (state_of t gmo) ≡ true
    unfolding ends is_memory_event
    witness-ends = at_every t.count _ (λ e l. or-implied (memory t e) _ (λ m.
        mask-has gmo e ∙ witness-kept.each e (rw (lt-ltb e t.count l) m)))

    witness-run : runs t (start t) gmo ≡ true
    witness-run =
        runs-start ∙ runs-back (length gmo) 0 (omega arith) witness-follows (runs-end ∙ witness-ends)

  -- Of a run: it is a clean order, and each entry is lawful, stated and ends well.
  module _ (met : some t.locations (unmet t) ≡ false) (r : runs t (start t) gmo ≡ true) where
    from_start : runs_at 0 ≡ true
    from_start = sym runs-start ∙ r

    run-follows : (i : ℕ) → i < length gmo → follows_at i ≡ true
    run-follows i l = and_l (follows_at i) _ (sym (run-next i l) ∙ runs_on from_start i (omega arith))

    run-distinct : distinct gmo ≡ true
    run-distinct = taken-distinct gmo (λ i l. let h = run-follows i l in not-true _ (search (and_l, and_r)))

    run-events : all (is_memory_event t) gmo ≡ true
    run-events =
        all-every (is_memory_event t) gmo
        ∙ at_every (length gmo) (λ i. is_memory_event t (get_or gmo i 0)) (λ i l. let h = run-follows i l in search (and_l, and_r))

    run-each : (e : ℕ) → has e (memory_events t) ≡ true → has e gmo ≡ true
    unfolding ends
    run-each e h =
        let ended : ends t (state_of t gmo) ≡ true = sym runs-end ∙ runs_on from_start (length gmo) (omega arith) in
        let m : (ltb e t.count && memory t e) ≡ true = sym (memory-has t e) ∙ h in
        sym (mask-has gmo e)
        ∙ implied (memory t e) _
        (every-at t.count (λ e. not (memory t e) || bit (mask_of gmo) e) e ended
        (ltb-true e t.count (and_l _ (memory t e) m)))
        (and_r (ltb e t.count) _ m)

    run-order : is_order t gmo ≡ true
    unfolding is_order
    run-order = and_both _ _ run-events
        (has_all _ (memory_events t) (λ e i. eq-eqb (count e gmo) 1 (distinct-once e gmo run-distinct (run-each e i))))

    run-clean : clean t gmo ≡ true
    unfolding is_prefix ready_at
    run-clean = clean-entries t gmo ∙ and_both _ _ (and_both _ _ run-events run-distinct)
        (at_every (length gmo) (ready_at t gmo) (λ i l. let h = run-follows i l in search (and_l, and_r)))

    run-kept : Kept t gmo
    run-kept = clean-kept fit run-order run-clean

    run-lawful : (i : ℕ) → i < length gmo → lawful_at t gmo i ≡ true
    unfolding lawful_at
    run-lawful i l = let h = run-follows i l in search (and_l, and_r)

    run-stated : (i : ℕ) → i < length gmo → stated_at t gmo i ≡ true
    unfolding stated_at
    run-stated i l = let h = run-follows i l in search (and_l, and_r)

    run-well : (i : ℕ) → i < length gmo → ends_well t (among gmo i) (get_or gmo i 0) ≡ true
    run-well i l = let h = run-follows i l in search (and_l, and_r)

    run-witness : witness t gmo ≡ true
    run-witness =
        witness-entries t gmo fit run-order run-clean
        ∙ and_both _ _
        (at_every (length gmo) (λ i. lawful_at t gmo i && stated_at t gmo i) (λ i l. and_both _ _ (run-lawful i l) (run-stated i l)))
        (final-entries run-kept
        ∙ and_both _ _ (ap not met)
        (ap not (some-none (length gmo) _ (λ i l. not-true _ (sym (ends-spoils run-kept i l) ∙ run-well i l)))))

pub witness-runs : (t : Table) → GoodTable t → some t.locations (unmet t) ≡ false → (gmo : List ℕ) →
    witness t gmo ≡ runs t (start t) gmo
witness-runs t fit met gmo = bool-ext _ _ (witness-run t fit gmo) (run-witness t fit gmo met)

pub unmet-none : (t : Table) → GoodTable t → some t.locations (unmet t) ≡ true → (gmo : List ℕ) → witness t gmo ≡ false
unmet-none t fit h gmo = is_false _ (λ w. not-either _ h (witness-met t fit gmo w))
