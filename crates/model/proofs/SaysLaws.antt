-- The verdict says what is the case: it names the first that is broken, and the lowest.
use Prim.Native.Nat.{ℕ}
use mathlib.Core.Path.{◌≡◌, refl, sym, ap, subst, ◌∙◌}
use mathlib.Core.Bool.{Bool, true, false, cond, not, ◌||◌, true≢false, and-eq-true_iff}
use mathlib.Core.List.{List}
use mathlib.Core.Logic.{◌↔◌, ◌⊎◌, inl, inr}
use Rattle.lists.specs.Below.{lowest, some, IsLowest}
use Rattle.lists.proofs.SomeLaws.{is-lowest, none-at}
use Rattle.table.specs.declared.Table.{Table}
use Rattle.table.specs.Events.{paired}
use Rattle.model.specs.Rules.{from}
use Rattle.model.specs.Axioms.{breaks_ppo, breaks_load_value, write_is_late, intrudes, breaks_pair, breaks_atomicity, atomicity_writer, breaks_value_read, breaks_final_value}
use Rattle.model.specs.Axioms.{preserved_order, load_value, atomicity, values_read, final_values}
use Rattle.model.specs.Verdict.{Verdict, broken_load_value, broken_atomicity, broken_value_read, broken_final_value, allowed, broken, broken_at, ppo_break, verdict}
use Rattle.model.specs.Says.{LowestPair, NamesWriter, LowestAtomicity, OrderHolds, LoadsHold, AxiomsHold, ReadsHold, AllHold, Says}

-- one line of the verdict: it is broken at its lowest number, or what follows says what it says
line : (P : Verdict → Type 0) (n : ℕ) (f : ℕ → Bool) (v : ℕ → Verdict) (rest : Verdict)
    → (some n f ≡ true → P (v (lowest n f))) → (some n f ≡ false → P rest) → P (broken_at n f v rest)
line P n f v rest here later = go (some n f) refl
  where
    go : (b : Bool) → some n f ≡ b → P (broken b (v (lowest n f)) rest)
    go true e = here e
    go false e = later e

-- a line that holds is not broken
clash : (b : Bool) → b ≡ true → not b ≡ true → ⊥
clash b h k = true≢false (sym k ∙ ap not h)

module _ (t : Table) (rf gmo : List ℕ) where
  lowest-pair : (a : ℕ) → IsLowest t.count (λ c. some t.count (breaks_ppo t rf gmo c)) a →
      LowestPair t rf gmo a (lowest t.count (breaks_ppo t rf gmo a))
  lowest-pair a h =
      (h.0, is-lowest t.count (breaks_ppo t rf gmo a) h.1, λ c d l k. none-at t.count (breaks_ppo t rf gmo c) d (h.2 c l) k)

  -- a pair that breaks without the write being late has a foreign writer between
  intruded : (l s : ℕ) → breaks_pair t rf gmo l s ≡ true → write_is_late rf gmo l s ≡ false → some t.count (intrudes t rf gmo l s) ≡ true
  unfolding breaks_pair
  intruded l s h e =
      let i = some t.count (intrudes t rf gmo l s) in
      subst (λ (b : Bool). (b || i) ≡ true) e ((and-eq-true_iff (paired t l s) (write_is_late rf gmo l s || i)).0 h).1

  names-writer : (l s : ℕ) → breaks_pair t rf gmo l s ≡ true →
      NamesWriter t rf gmo l s (cond (write_is_late rf gmo l s) (from rf l) (lowest t.count (intrudes t rf gmo l s)))
  names-writer l s h = go (write_is_late rf gmo l s) refl
    where
      go : (b : Bool) → write_is_late rf gmo l s ≡ b →
          NamesWriter t rf gmo l s (cond b (from rf l) (lowest t.count (intrudes t rf gmo l s)))
      go true e = inl (e, refl)
      go false e = inr (e, is-lowest _ _ (intruded l s h e))

  lowest-atomicity : some t.count (breaks_atomicity t rf gmo) ≡ true →
      let l = lowest t.count (breaks_atomicity t rf gmo) in LowestAtomicity t rf gmo l (atomicity_writer t rf gmo l)
  unfolding breaks_atomicity atomicity_writer
  lowest-atomicity h =
      let l = is-lowest t.count (breaks_atomicity t rf gmo) h in
      let s = is-lowest t.count (breaks_pair t rf gmo (lowest t.count (breaks_atomicity t rf gmo))) l.1 in
      (l, (_, s, names-writer _ _ s.1))

  -- the verdict's lines, each with what follows it
  abbrev orders : ℕ → Bool
  orders a = some t.count (breaks_ppo t rf gmo a)

  abbrev finals : Verdict
  finals = broken_at t.locations (breaks_final_value t gmo) broken_final_value allowed

  abbrev reads : Verdict
  reads = broken_at t.count (breaks_value_read t rf) broken_value_read finals

  abbrev atomic : ℕ → Verdict
  atomic l = broken_atomicity l (atomicity_writer t rf gmo l)

  abbrev pairs : Verdict
  pairs = broken_at t.count (breaks_atomicity t rf gmo) atomic reads

  abbrev loads : Verdict
  loads = broken_at t.count (breaks_load_value t rf gmo) broken_load_value pairs

  -- the verdict has what each of its lines has, told by what was found to hold before it
  by_lines : (P : Verdict → Type 0) →
      (some t.count orders ≡ true → P (ppo_break t rf gmo (lowest t.count orders))) →
      (OrderHolds t rf gmo → some t.count (breaks_load_value t rf gmo) ≡ true → P (broken_load_value (lowest t.count (breaks_load_value t rf gmo)))) →
      (LoadsHold t rf gmo → some t.count (breaks_atomicity t rf gmo) ≡ true → P (atomic (lowest t.count (breaks_atomicity t rf gmo)))) →
      (AxiomsHold t rf gmo → some t.count (breaks_value_read t rf) ≡ true → P (broken_value_read (lowest t.count (breaks_value_read t rf)))) →
      (ReadsHold t rf gmo → some t.locations (breaks_final_value t gmo) ≡ true → P (broken_final_value (lowest t.locations (breaks_final_value t gmo)))) →
      (AllHold t rf gmo → P allowed) → P (verdict t rf gmo)
  unfolding verdict preserved_order load_value atomicity values_read final_values
  by_lines P a b c d e f =
      line P t.count orders (ppo_break t rf gmo) loads a (λ h1.
      let po : OrderHolds t rf gmo = ap not h1 in
      line P t.count (breaks_load_value t rf gmo) broken_load_value pairs (b po) (λ h2.
      let lv : LoadsHold t rf gmo = (po, ap not h2) in
      line P t.count (breaks_atomicity t rf gmo) atomic reads (c lv) (λ h3.
      let at : AxiomsHold t rf gmo = (lv, ap not h3) in
      line P t.count (breaks_value_read t rf) broken_value_read finals (d at) (λ h4.
      let vr : ReadsHold t rf gmo = (at, ap not h4) in
      line P t.locations (breaks_final_value t gmo) broken_final_value allowed (e vr) (λ h5. f (vr, ap not h5))))))

  -- the verdict names the first that is broken, and the lowest
  pub says : Says t rf gmo (verdict t rf gmo)
  says =
      by_lines (Says t rf gmo)
      (λ h. (lowest-pair _ (is-lowest _ _ h), refl))
      (λ o h. (o, is-lowest _ _ h))
      (λ o h. (o, lowest-atomicity h))
      (λ o h. (o, is-lowest _ _ h))
      (λ o h. (o, is-lowest _ _ h))
      (λ o. o)

  holds-allowed : AllHold t rf gmo → verdict t rf gmo ≡ allowed
  unfolding preserved_order load_value atomicity values_read final_values
  holds-allowed h =
      by_lines (λ v. v ≡ allowed)
      (λ e. absurd (clash _ e h.0.0.0.0))
      (λ o e. absurd (clash _ e h.0.0.0.1))
      (λ o e. absurd (clash _ e h.0.0.1))
      (λ o e. absurd (clash _ e h.0.1))
      (λ o e. absurd (clash _ e h.1))
      (λ o. refl)

  -- The verdict is allowed exactly when nothing is broken.
  pub allowed-exactly : (verdict t rf gmo ≡ allowed) ↔ AllHold t rf gmo
  allowed-exactly = (λ e. subst (Says t rf gmo) e says, holds-allowed)
