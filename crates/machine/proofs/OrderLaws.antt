-- Lawful orders of model 1 told event by event: what may follow an order so far, and the list of returns with it.
use Prim.Native.Nat.{ℕ, ◌<◌}
use mathlib.Core.Path.{◌≡◌, refl, sym, ap, ◌∙◌, fun_ext}
use mathlib.Core.Bool.{Bool, true, false, not, ◌&&◌, ◌||◌, or_assoc, false≢true}
use mathlib.Core.List.{List, [], ◌∷◌, ◌++◌, append-nil, append_assoc}
use mathlib.Core.Logic.{⊎_elim}
use lib.ListN.{length}
use lib.Dec.{eqb}
use borrow.Author.Tests.{eq-eqb, ltb-true, lt-ltb, not-true}
use Rattle.lists.specs.Lists.{all, has, count, distinct, before}
use Rattle.lists.proofs.BoolLaws.{and_l, and_r, and_both, or_cases, not-either, is_false, implied, or-implied}
use Rattle.lists.proofs.SomeLaws.{some-none, none-at, at_every}
use Rattle.lists.proofs.ListLaws.{all-has}
use Rattle.lists.proofs.MemberLaws.{has_all, has_last, has_here}
use Rattle.lists.proofs.BeforeLaws.{before-has, before-from}
use Rattle.lists.proofs.DistinctLaws.{distinct_apart, distinct-last, distinct-once, before-left, before_last}
use Rattle.table.specs.declared.Table.{Table}
use Rattle.table.specs.Events.{reads, memory, memory_events, po, paired}
use Rattle.table.proofs.MemoryLaws.{memory-has}
use Rattle.model.specs.Rules.{from, rule2, may_order, static_ppo}
use Rattle.model.specs.Returns.{returns}
use Rattle.model.specs.Axioms.{breaks_pair, breaks_atomicity, breaks_load_value, load_value, atomicity}
use Rattle.model.specs.Witness.{is_memory_event, is_order, lawful, witness_for}
use Rattle.model.specs.Prefixes.{is_prefix, predecessors_listed, clean}
use Rattle.model.specs.Settled.{settled}
use Rattle.model.proofs.PrefixLaws.{witness-clean}
use Rattle.model.proofs.VerdictLaws.{EntriesOfReaders, returns-at, returns-only}
use Rattle.placing.specs.Guards.{ready, may_read, may_place}
use Rattle.placing.specs.ReturnedRules.{returned_ppo, breaks_returned}
use Rattle.placing.specs.Entries.{ahead}
use Rattle.placing.proofs.GuardLaws.{within-at, at-within}
use Rattle.placing.proofs.KeptLaws.{Kept, clean-kept, reader-in}
use Rattle.placing.proofs.ReturnedLaws.{static_kept, lawful-left}
use Rattle.placing.proofs.ReadLaws.{late-kept}
use Rattle.placing.proofs.PlacingLaws.{late-reads}
use Rattle.placing.proofs.EntryLaws.{lawful-placed}
use Rattle.pruning.proofs.SettledLaws.{source, settled-last, settled-more, settled-returns}
use Rattle.machine.proofs.TsoLaws.{TsoTable, static-reads}
use Rattle.machine.proofs.PairLaws.{paired-may, pair_same, unpaired}

module _ (t : Table) where
  -- a is placed, where p is the order so far
  abbrev pub placed_in : List ℕ → ℕ → Bool
  placed_in p a = has a p

  -- what holds of the order so far, with the returned list so far
  pub record Sound (rf p : List ℕ) : Type 0 where
    pub different : distinct p ≡ true
    pub events : (e : ℕ) → has e p ≡ true → is_memory_event t e ≡ true
    pub steady : (a b : ℕ) → a < t.count → has b p ≡ true → static_ppo t a b ≡ true → before p a b ≡ true
    pub may-read : (r : ℕ) → has r p ≡ true → reads t r ≡ true → may_read t (ahead p r) r ≡ true
    pub settles : (r : ℕ) → has r p ≡ true → reads t r ≡ true → from rf r ≡ settled t p r
    pub atomic : (l s : ℕ) → l < t.count → has s p ≡ true → breaks_pair t rf p l s ≡ false

  -- e may follow the order so far; the list is that with e
  pub record Follows (rf p : List ℕ) (e : ℕ) : Type 0 where
    pub event : is_memory_event t e ≡ true
    pub new : has e p ≡ false
    pub steady : ready t (placed_in p) e ≡ true
    pub may-read : reads t e ≡ true → may_read t (placed_in p) e ≡ true
    pub settles : reads t e ≡ true → from rf e ≡ source t p e
    pub atomic : (l : ℕ) → l < t.count → breaks_pair t rf (p ++ (e ∷ [])) l e ≡ false

  -- a memory event of the test
  pub event-count : (e : ℕ) → is_memory_event t e ≡ true → e < t.count
  unfolding is_memory_event
  event-count e h = ltb-true e t.count (and_l _ (memory t e) h)

  pub is-event : (e : ℕ) → e < t.count → memory t e ≡ true → is_memory_event t e ≡ true
  unfolding is_memory_event
  is-event e l h = rw (lt-ltb e t.count l) h

  -- a lawful order is an order, and clean
  pub lawful-order : (gmo : List ℕ) → lawful t gmo ≡ true → is_order t gmo ≡ true
  unfolding lawful
  lawful-order gmo law = search (and_l, and_r)

  pub lawful-clean : (gmo : List ℕ) → lawful t gmo ≡ true → clean t gmo ≡ true
  unfolding witness_for
  lawful-clean gmo law = witness-clean t (λ g. true) gmo (rw law)

  pub sound-start : (rf : List ℕ) → Sound rf []
  sound-start rf = record {
    different = refl;
    events = λ e h. absurd (false≢true h);
    steady = λ a b l h. absurd (false≢true h);
    may-read = λ r h. absurd (false≢true h);
    settles = λ r h. absurd (false≢true h);
    atomic = λ l s i h. absurd (false≢true h);
  }

module _ {t : Table} (k : TsoTable t) where
  -- One event more; the list keeps the entries of the others.
  pub extend : (rf rg p : List ℕ) (e : ℕ) → Sound t rf p → Follows t rg p e →
      ((r : ℕ) → has r p ≡ true → from rg r ≡ from rf r) → Sound t rg (p ++ (e ∷ []))
  unfolding ready
  extend rf rg p e s f same = record {
    different = d;
    events = λ x h. ⊎_elim (s.events x) (λ (q : x ≡ e). ap (is_memory_event t) q ∙ f.event) (has_last x e p h);
    steady = λ a b l h g. ⊎_elim (λ i. before-left p (e ∷ []) a b (other b i) ∙ s.steady a b l i g)
        (λ (q : b ≡ e). ap (before (p ++ (e ∷ [])) a) q ∙ before_last p a e
        ∙ within-at t (placed_in t p) (λ x. static_ppo t x e) f.steady a l (ap (static_ppo t a) (sym q) ∙ g)) (has_last b e p h);
    may-read = λ r h g. ⊎_elim
        (λ i. ap (λ (before : ℕ → Bool). may_read t before r) (fun_ext (λ a. before-left p (e ∷ []) a r (other r i)))
        ∙ s.may-read r i g)
        (λ (q : r ≡ e). ap (λ (x : ℕ). may_read t (ahead (p ++ (e ∷ [])) x) x) q
        ∙ ap (λ (before : ℕ → Bool). may_read t before e) (fun_ext (λ a. before_last p a e)) ∙ f.may-read (ap (reads t) (sym q) ∙ g))
        (has_last r e p h);
    settles = λ r h g. ⊎_elim (λ i. same r i ∙ s.settles r i g ∙ sym (settled-more t p (e ∷ []) r d i))
        (λ (q : r ≡ e). ap (from rg) q ∙ f.settles (ap (reads t) (sym q) ∙ g) ∙ sym (settled-last t p e d)
        ∙ ap (settled t (p ++ (e ∷ []))) (sym q)) (has_last r e p h);
    atomic = λ l x i h. ⊎_elim (λ j. pair l x i j (paired t l x) refl)
        (λ (q : x ≡ e). ap (breaks_pair t rg (p ++ (e ∷ [])) l) q ∙ f.atomic l i) (has_last x e p h);
  }
    where
      d : distinct (p ++ (e ∷ [])) ≡ true
      d = distinct-last p e ∙ rw (s.different, f.new)

      other : (x : ℕ) → has x p ≡ true → has x (e ∷ []) ≡ false
      other x i = distinct_apart p (e ∷ []) x d i

      pair : (l x : ℕ) → l < t.count → has x p ≡ true → (b : Bool) → paired t l x ≡ b →
          breaks_pair t rg (p ++ (e ∷ [])) l x ≡ false
      pair l x i j false q = unpaired t rg (p ++ (e ∷ [])) l x q
      pair l x i j true q =
          let m = paired-may t l x q in
          let in_p = (before-has p l x (s.steady l x i j (static-reads k l x m.0 m.1))).0 in
          pair_same t rg rf p (e ∷ []) l x d j (same l in_p) ∙ s.atomic l x i j

  -- A whole order.
  module _ (rf gmo : List ℕ) (s : Sound t rf gmo) (each : (e : ℕ) → is_memory_event t e ≡ true → has e gmo ≡ true) where
    is-order : is_order t gmo ≡ true
    unfolding is_order is_memory_event
    is-order =
        and_both (all (is_memory_event t) gmo) _ (has_all (is_memory_event t) gmo s.events)
        (has_all (λ e. eqb (count e gmo) 1) (memory_events t)
        (λ e h. eq-eqb (count e gmo) 1 (distinct-once e gmo s.different (each e (sym (memory-has t e) ∙ h)))))

    is-clean : clean t gmo ≡ true
    unfolding clean is_prefix predecessors_listed
    is-clean =
        rw (has_all (is_memory_event t) gmo s.events, s.different)
        (has_all (predecessors_listed t gmo) gmo (λ e h. at_every t.count (λ a. not (static_ppo t a e) || before gmo a e)
        (λ a l. or-implied (static_ppo t a e) (before gmo a e) (s.steady a e l h))))

    kept : Kept t gmo
    kept = clean-kept k.good is-order is-clean

    -- its returned list is the one that it determines
    pub returns-are : length rf ≡ t.count → EntriesOfReaders t rf → rf ≡ returns t gmo
    unfolding load_value breaks_load_value
    returns-are long others = (returns-only t rf gmo long others).0 (ap not (some-none t.count _ (λ r l. is_false _ (λ h.
        let g = and_l (reads t r) _ h in
        let i = reader-in kept r l g in
        not-either _
        (eq-eqb _ _ (s.settles r i g ∙ sym (settled-returns k.good gmo gmo [] is-order is-clean (sym (append-nil gmo)) r i)))
        (not-true _ (and_r (reads t r) _ h))))))

    -- the rules that look at what was returned keep the order: rule 2's readers are in order by rule 5
    none-broken : (a b : ℕ) → a < t.count → b < t.count → breaks_returned t (returns t gmo) gmo a b ≡ false
    unfolding breaks_returned returned_ppo rule2
    none-broken a b i j = is_false _ (λ q.
        let m : may_order t a b ≡ true = search (and_l, and_r) in
        let h = and_r (may_order t a b) _ (and_l _ (not (before gmo a b)) q) in
        not-either (before gmo a b)
        (⊎_elim
        (λ (g : rule2 t (returns t gmo) a b ≡ true).
        static_kept t gmo is-order is-clean a b i j (static-reads k a b m (search (and_l, and_r))))
        (λ g. let r = late-reads t (returns t gmo) a b g in late-kept kept b j r (s.may-read b (reader-in kept b j r) r) a i g)
        (or_cases (rule2 t (returns t gmo) a b) _ (sym (or_assoc (rule2 t (returns t gmo) a b) _ _) ∙ h)))
        (not-true _ (and_r (returned_ppo t (returns t gmo) a b) _ q)))

    -- and it is lawful
    pub lawful-is : rf ≡ returns t gmo → lawful t gmo ≡ true
    unfolding atomicity breaks_atomicity may_order
    lawful-is same =
        lawful-left t gmo is-order is-clean
        ∙ and_both _ _
        (ap not (some-none t.count _ (λ a i. some-none t.count _ (λ b j. none-broken a b i j))))
        (ap not (some-none t.count _ (λ l i. some-none t.count _ (λ x j. pair l x i j (paired t l x) refl))))
      where
        pair : (l x : ℕ) → l < t.count → x < t.count → (b : Bool) → paired t l x ≡ b → breaks_pair t (returns t gmo) gmo l x ≡ false
        pair l x i j false q = unpaired t (returns t gmo) gmo l x q
        pair l x i j true q =
            ap (λ (g : List ℕ). breaks_pair t g gmo l x) (sym same)
            ∙ s.atomic l x i (each x (is-event t x j (and_r (po t l x && memory t l) (memory t x) (paired-may t l x q).0)))

  -- An event of a lawful order, behind those before it, with a list that has what these are settled to.
  module _ (p q : List ℕ) (e : ℕ) (law : lawful t (p ++ (e ∷ q)) ≡ true) where
    abbrev gmo : List ℕ
    gmo = p ++ (e ∷ q)

    in_order : is_order t gmo ≡ true
    in_order = lawful-order t gmo law

    cleanly : clean t gmo ≡ true
    cleanly = lawful-clean t gmo law

    kept-law : Kept t gmo
    kept-law = clean-kept k.good in_order cleanly

    ahead-e : (a : ℕ) → before gmo a e ≡ has a p
    ahead-e a = before-from p q e a kept-law.different

    pub e-event : is_memory_event t e ≡ true
    e-event = kept-law.events e (has_here p q e)

    static-placed : (a : ℕ) → a < t.count → static_ppo t a e ≡ true → has a p ≡ true
    static-placed a l h = sym (ahead-e a) ∙ static_kept t gmo in_order cleanly a e l (event-count t e e-event) h

    pub e-new : has e p ≡ false
    e-new = is_false _ (λ h. not-either (has e (e ∷ q)) (has_here [] q e) (distinct_apart p (e ∷ q) e kept-law.different h))

    pub e-ready : ready t (placed_in t p) e ≡ true
    unfolding ready
    e-ready = at-within t (placed_in t p) (λ a. static_ppo t a e) static-placed

    pub e-may-read : reads t e ≡ true → may_read t (placed_in t p) e ≡ true
    unfolding may_place
    e-may-read h =
        let placed = all-has (λ x. may_place t (ahead gmo x) x) gmo e
        (sym (lawful-placed t gmo k.good in_order cleanly) ∙ law) (has_here p q e) in
        ap (λ (before : ℕ → Bool). may_read t before e) (fun_ext (λ a. sym (ahead-e a)))
        ∙ implied (reads t e) _ (and_l (not (reads t e) || may_read t (ahead gmo e) e) _ placed) h

    pub e-atomic : (rf : List ℕ) → ((r : ℕ) → has r p ≡ true → reads t r ≡ true → from rf r ≡ settled t p r) →
        (l : ℕ) → l < t.count → breaks_pair t rf (p ++ (e ∷ [])) l e ≡ false
    unfolding lawful atomicity breaks_atomicity
    e-atomic rf settles l i = go (paired t l e) refl
      where
        whole : p ++ (e ∷ []) ++ q ≡ gmo
        whole = append_assoc p (e ∷ []) q

        atomic : atomicity t (returns t gmo) gmo ≡ true
        atomic = search (and_l, and_r)

        go : (b : Bool) → paired t l e ≡ b → breaks_pair t rf (p ++ (e ∷ [])) l e ≡ false
        go false h = unpaired t rf (p ++ (e ∷ [])) l e h
        go true h =
            let m = paired-may t l e h in
            let in_p = static-placed l i (static-reads k l e m.0 m.1) in
            sym (pair_same t (returns t gmo) rf (p ++ (e ∷ [])) q l e (ap distinct whole ∙ kept-law.different) (has_here p [] e)
            (returns-at t gmo l i m.1 ∙ settled-returns k.good gmo p (e ∷ q) in_order cleanly refl l in_p
            ∙ sym (settles l in_p m.1)))
            ∙ ap (λ (g : List ℕ). breaks_pair t (returns t gmo) g l e) whole
            ∙ none-at t.count (breaks_pair t (returns t gmo) gmo l) e
            (none-at t.count (breaks_atomicity t (returns t gmo) gmo) l (not-true _ atomic) i) (event-count t e e-event)
