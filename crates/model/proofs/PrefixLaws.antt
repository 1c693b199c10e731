-- The list of clean prefixes has each nonempty clean prefix once, ascending; and every witness is one of them.
use Prim.Native.Nat.{ℕ, ◌≤◌, ◌<◌}
use native.Mathlib.Omega.{arith}
use mathlib.Core.Path.{◌≡◌, refl, sym, ap, ◌∙◌}
use mathlib.Core.Bool.{Bool, true, false, not, ◌&&◌, ◌||◌, or-true, and-eq-true_iff}
use mathlib.Core.List.{List, [], ◌∷◌, ◌++◌, Sublistᴰ}
use mathlib.Core.Logic.{◌↔◌, ◌≢◌}
use lib.ListN.{length}
use lib.Dec.{eqb, ltb}
use borrow.Author.Tests.{ltb-true, lt-ltb, eqb-true, eq-eqb, not-true, not-false}
use Rattle.lists.specs.Below.{some, below}
use Rattle.lists.specs.Lists.{◌∈◌, all, any, has, count, distinct, before, keep}
use Rattle.lists.specs.Ascending.{AllAbove, Ascending}
use Rattle.lists.proofs.BoolLaws.{and_l, and_r, or-implied}
use Rattle.lists.proofs.ListLaws.{all-has}
use Rattle.lists.proofs.MemberLaws.{has_all, has_left, has-keep, below-has, keep-only, keep-each}
use Rattle.lists.proofs.DistinctLaws.{distinct-left, distinct_apart, before-left, counted_has, distinct-count, pigeonhole, kept-distinct}
use Rattle.lists.proofs.SomeLaws.{some-found, none-at, every-at, at_every}
use Rattle.prefixes.specs.Listed.{listed}
use Rattle.prefixes.specs.Statements.{PrefixClosed}
use Rattle.prefixes.proofs.ListedLaws.{rising-keep, listed-only, listed-each, listed-ascending, listed-nonempty}
use Rattle.table.specs.declared.Table.{Table}
use Rattle.table.specs.Events.{memory, memory_events, memory_count}
use Rattle.model.specs.Rules.{rules, static_rules, holds, may_order, ppo, static_ppo}
use Rattle.model.specs.Returns.{returns}
use Rattle.model.specs.Axioms.{breaks_ppo, preserved_order}
use Rattle.model.specs.Witness.{is_memory_event, is_order, lawful, witness_for, stated_outcome, witness}
use Rattle.model.specs.Prefixes.{is_prefix, predecessors_listed, clean, prefixes_by, clean_prefixes, orders, witnesses}

-- some test of a list holds, if some test of a sublist does
pub any-sublist : {l m : List Bool} → Sublistᴰ l m → any holds l ≡ true → any holds m ≡ true
any-sublist Sublistᴰ.slnil h = h
any-sublist (Sublistᴰ.cons {a = b} s) h = ap (λ (c : Bool). b || c) (any-sublist s h) ∙ or-true b
any-sublist (Sublistᴰ.cons-cons {a = a} {b = b} {l₁ = l} {l₂ = m} e s) h = go a e h (any-sublist s)
  where
    go : (c : Bool) → c ≡ b → (c || any holds l) ≡ true → (any holds l ≡ true → any holds m ≡ true) → (b || any holds m) ≡ true
    go true e h later = ap (λ (c : Bool). c || any holds m) (sym e)
    go false e h later = ap (λ (c : Bool). b || c) (later h) ∙ or-true b

-- an entry of both lists
pub both : {b : Bool} {l m : List Bool} → Sublistᴰ l m → Sublistᴰ (b ∷ l) (b ∷ m)
both s = Sublistᴰ.cons-cons refl s

module _ (t : Table) where
  -- the steady rules are among the thirteen
  static-rules : (rf : List ℕ) (a b : ℕ) → Sublistᴰ (static_rules t a b) (rules t rf a b)
  unfolding static_rules rules
  static-rules rf a b =
      both (Sublistᴰ.cons (Sublistᴰ.cons (both (both (both (both (both (both (both (both (Sublistᴰ.cons (both Sublistᴰ.slnil))))))))))))

  -- static ppo is part of ppo, whatever was returned
  pub static-ppo : (rf : List ℕ) (a b : ℕ) → static_ppo t a b ≡ true → ppo t rf a b ≡ true
  unfolding static_ppo ppo
  static-ppo rf a b h =
      let r = (and-eq-true_iff (may_order t a b) (any holds (static_rules t a b))).0 h in
      rw r.0 (any-sublist (static-rules rf a b) r.1)

  -- the list of memory events has each
  event-has : (e : ℕ) → is_memory_event t e ≡ true → has e (memory_events t) ≡ true
  unfolding is_memory_event memory_events
  event-has e h =
      let r = (and-eq-true_iff (ltb e t.count) (memory t e)).0 h in
      has-keep (memory t) (below t.count) e (below-has t.count e (ltb-true e t.count r.0)) r.1

  -- what makes a list a clean prefix
  record Clean (p : List ℕ) : Type 0 where
    events : all (is_memory_event t) p ≡ true
    different : distinct p ≡ true
    in_order : (a e : ℕ) → a < t.count → has e p ≡ true → static_ppo t a e ≡ true → before p a e ≡ true

  clean-has : (p : List ℕ) → clean t p ≡ true → Clean p
  unfolding clean is_prefix predecessors_listed
  clean-has p h = record {
    events = q.0;
    different = q.1;
    in_order = λ a e l m s. rw s at (every-at t.count (λ b. not (static_ppo t b e) || before p b e) a
        (all-has (predecessors_listed t p) p e r.1 m) l);
  }
    where
      r : (is_prefix t p ≡ true) × (all (predecessors_listed t p) p ≡ true)
      r = (and-eq-true_iff (is_prefix t p) (all (predecessors_listed t p) p)).0 h

      q : (all (is_memory_event t) p ≡ true) × (distinct p ≡ true)
      q = (and-eq-true_iff (all (is_memory_event t) p) (distinct p)).0 r.0

  has-clean : (p : List ℕ) → Clean p → clean t p ≡ true
  unfolding clean is_prefix predecessors_listed
  has-clean p c = rw (c.events, c.different) (has_all (predecessors_listed t p) p listed)
    where
      listed : (e : ℕ) → has e p ≡ true → predecessors_listed t p e ≡ true
      listed e m = at_every t.count (λ a. not (static_ppo t a e) || before p a e)
          (λ a l. or-implied (static_ppo t a e) (before p a e) (c.in_order a e l m))

  -- a clean prefix without its last entry is clean
  pub clean-closed : PrefixClosed (clean t)
  clean-closed p x h = has-clean p (record {
    events = has_all (is_memory_event t) p (λ e m. all-has (is_memory_event t) q e c.events (has_left e p (x ∷ []) m));
    different = distinct-left p (x ∷ []) c.different;
    in_order = λ a e l m s.
        sym (before-left p (x ∷ []) a e (distinct_apart p (x ∷ []) e c.different m))
        ∙ c.in_order a e l (has_left e p (x ∷ []) m) s;
  })
    where
      q : List ℕ
      q = p ++ (x ∷ [])

      c : Clean (p ++ (x ∷ []))
      c = clean-has q h

  -- Over any test that is prefix-closed and that only clean prefixes pass.
  module _ (passes : List ℕ → Bool) (closed : PrefixClosed passes) (cleanly : (p : List ℕ) → passes p ≡ true → clean t p ≡ true) where
    -- listed are the nonempty prefixes that pass
    pub passing-listed : (p : List ℕ) → (p ∈ prefixes_by t passes) ↔ ((p ≢ []) × (passes p ≡ true))
    unfolding memory_count
    passing-listed p = (
      λ m. let r = listed-only passes (memory_events t) (memory_count t) p m in (r.0, r.1),
      λ h. each h.0 h.1 (clean-has p (cleanly p h.1)),
    )
      where
        each : p ≢ [] → passes p ≡ true → Clean p → p ∈ prefixes_by t passes
        each n h c =
            let m : all (λ e. has e (memory_events t)) p ≡ true =
            has_all (λ e. has e (memory_events t)) p (λ e i. event-has e (all-has (is_memory_event t) p e c.events i)) in
            listed-each passes (memory_events t) (memory_count t) p closed n h m (pigeonhole p (memory_events t) c.different m)

  -- in ascending order, and so each once
  pub passing-ascending : (passes : List ℕ → Bool) → Ascending (prefixes_by t passes)
  unfolding memory_events
  passing-ascending passes = listed-ascending passes (memory_events t) (memory_count t) (rising-keep (memory t) t.count)

  -- none is empty
  pub passing-nonempty : (passes : List ℕ → Bool) → AllAbove [] (prefixes_by t passes)
  passing-nonempty passes = listed-nonempty passes (memory_events t) (memory_count t)

  -- of the clean prefixes
  pub clean-listed : (p : List ℕ) → (p ∈ clean_prefixes t) ↔ ((p ≢ []) × (clean t p ≡ true))
  unfolding clean_prefixes
  clean-listed = passing-listed (clean t) clean-closed (λ p h. h)

  pub clean-ascending : Ascending (clean_prefixes t)
  unfolding clean_prefixes
  clean-ascending = passing-ascending (clean t)

  -- an order has each memory event once
  order-once : (p : List ℕ) → is_order t p ≡ true → (e : ℕ) → is_memory_event t e ≡ true → count e p ≡ 1
  unfolding is_order
  order-once p h e m =
      let r = (and-eq-true_iff (all (is_memory_event t) p) (all (λ e. eqb (count e p) 1) (memory_events t))).0 h in
      eqb-true (count e p) 1 (all-has (λ e. eqb (count e p) 1) (memory_events t) e r.1 (event-has e m))

  -- an order that keeps preserved order is a clean prefix
  order-clean : (p rf : List ℕ) → is_order t p ≡ true → preserved_order t rf p ≡ true → clean t p ≡ true
  unfolding is_order is_memory_event preserved_order breaks_ppo
  order-clean p rf h k = has-clean p (record {
    events = events;
    different = distinct-count p (λ e m. omega (arith, order-once p h e (all-has (is_memory_event t) p e events m)));
    in_order = λ a e l m s.
        let n = none-at t.count (breaks_ppo t rf p a) e
        (none-at t.count (λ a. some t.count (breaks_ppo t rf p a)) a (not-true _ k) l)
        (ltb-true e t.count (and_l _ _ (all-has (is_memory_event t) p e events m))) in
        not-false (before p a e) (rw (static-ppo rf a e s) at n);
  })
    where
      events : all (is_memory_event t) p ≡ true
      events = and_l _ _ h

  -- Over any outcome.
  module _ (outcome : List ℕ → Bool) where
    -- what a witness is, of which the search uses no more
    witness-order : (p : List ℕ) → witness_for t outcome p ≡ true → (is_order t p ≡ true) × (preserved_order t (returns t p) p ≡ true)
    unfolding witness_for lawful
    witness-order p h = (search (and_l, and_r), search (and_l, and_r))

    -- every witness is a clean prefix
    pub witness-clean : (p : List ℕ) → witness_for t outcome p ≡ true → clean t p ≡ true
    witness-clean p h = let r = witness-order p h in order-clean p (returns t p) r.0 r.1

    -- no witness is empty, if there is a memory event
    pub witness-nonempty : (p : List ℕ) → some t.count (memory t) ≡ true → witness_for t outcome p ≡ true → p ≢ []
    unfolding is_memory_event
    witness-nonempty p s h e =
        let r = some-found t.count (memory t) s in
        let c = order-once p (witness-order p h).0 r.0 (rw (lt-ltb r.0 t.count r.1) r.2) in
        let z : ◌≡◌ {A = ℕ} 0 1 = ap (count r.0) (sym e) ∙ c in omega arith

  -- what makes a list an order: every event of the test is in it, once
  record Order (p : List ℕ) : Type 0 where
    events : all (λ e. has e (memory_events t)) p ≡ true
    each : all (λ e. has e p) (memory_events t) ≡ true
    different : distinct p ≡ true

  order-has : (p : List ℕ) → is_order t p ≡ true → Order p
  unfolding is_order
  order-has p h = record {
    events = has_all (λ e. has e (memory_events t)) p (λ e m. event-has e (is e m));
    each = has_all (λ e. has e p) (memory_events t)
        (λ e m. counted_has e p (eqb-true (count e p) 1 (all-has (λ e. eqb (count e p) 1) (memory_events t) e r.1 m)));
    different = distinct-count p (λ e m. omega (arith, order-once p h e (is e m)));
  }
    where
      r : (all (is_memory_event t) p ≡ true) × (all (λ e. eqb (count e p) 1) (memory_events t) ≡ true)
      r = (and-eq-true_iff (all (is_memory_event t) p) (all (λ e. eqb (count e p) 1) (memory_events t))).0 h

      is : (e : ℕ) → has e p ≡ true → is_memory_event t e ≡ true
      is e m = all-has (is_memory_event t) p e r.0 m

  -- a list without its last entry has no entry twice, if it has none with it
  distinct-closed : PrefixClosed distinct
  distinct-closed p x h = distinct-left p (x ∷ []) h

  -- each order is listed, if it isn't empty
  order-listed : (p : List ℕ) → p ≢ [] → Order p → p ∈ orders t
  unfolding orders memory_count memory_events
  order-listed p n o =
      let short : length p ≤ length (memory_events t) = pigeonhole p (memory_events t) o.different o.events in
      let long : length (memory_events t) ≤ length p = pigeonhole (memory_events t) p (kept-distinct (memory t) t.count) o.each in
      keep-each (λ q. eqb (length q) (memory_count t)) (listed distinct (memory_events t) (memory_count t)) p
      (listed-each distinct (memory_events t) (memory_count t) p distinct-closed n o.different o.events short)
      (eq-eqb (length p) (memory_count t) (omega arith))

  -- only nonempty lists are listed as orders
  orders-nonempty : (p : List ℕ) → p ∈ orders t → p ≢ []
  unfolding orders
  orders-nonempty p m =
      let l = keep-only (λ q. eqb (length q) (memory_count t)) (listed distinct (memory_events t) (memory_count t)) p m in
      (listed-only distinct (memory_events t) (memory_count t) p l.0).0

  -- Of a test that only orders pass: those listed are the nonempty ones.
  pub orders-each : (f : List ℕ → Bool) → ((p : List ℕ) → f p ≡ true → is_order t p ≡ true) → (gmo : List ℕ) →
      (gmo ∈ keep f (orders t)) ↔ ((gmo ≢ []) × (f gmo ≡ true))
  orders-each f h gmo = (
    λ m. let r = keep-only f (orders t) gmo m in (orders-nonempty gmo r.0, r.1),
    λ k. keep-each f (orders t) gmo (order-listed gmo k.0 (order-has gmo (h gmo k.1))) k.1,
  )

  -- The list of witnesses, by which the worked cases speak, has the witnesses and no other list.
  pub witnesses-each : (gmo : List ℕ) → (gmo ∈ witnesses t) ↔ ((gmo ≢ []) × (witness t gmo ≡ true))
  unfolding witnesses witness
  witnesses-each = orders-each (witness t) (λ p h. (witness-order (stated_outcome t) p h).0)

  -- The empty order is none, where there is a memory event (line 11).
  pub witnesses-exactly : (gmo : List ℕ) → some t.count (memory t) ≡ true → (gmo ∈ witnesses t) ↔ (witness t gmo ≡ true)
  unfolding witness
  witnesses-exactly gmo s = (
    λ m. ((witnesses-each gmo).0 m).1,
    λ h. (witnesses-each gmo).1 (witness-nonempty (stated_outcome t) gmo s h, h),
  )
