-- The prefixes that the second engine visits: prefix-closed, clean, and every witness is one.
use Prim.Native.Nat.{ℕ}
use native.Mathlib.Omega.{arith}
use mathlib.Core.Path.{◌≡◌, refl, sym, ap, ◌∙◌}
use mathlib.Core.Bool.{Bool, true, false, not, ◌&&◌}
use mathlib.Core.List.{List, [], ◌∷◌, ◌++◌}
use mathlib.Core.Logic.{◌↔◌, ◌≢◌}
use lib.ListN.{length, take, drop, length-append, length-drop, take-append-drop}
use lib.Seq.{take-append-le, take_at}
use borrow.Author.Tests.{not-true}
use Rattle.lists.specs.Below.{every}
use Rattle.lists.specs.Lists.{distinct}
use Rattle.lists.proofs.BoolLaws.{and_l, and_r, and_both, bool-ext}
use Rattle.lists.proofs.SomeLaws.{every-at, at_every}
use Rattle.table.specs.declared.Table.{Table}
use Rattle.table.specs.Counts.{Small}
use Rattle.prefixes.specs.Statements.{PrefixClosed}
use Rattle.model.specs.Returns.{returns}
use Rattle.model.specs.Axioms.{values_read, final_values}
use Rattle.model.specs.Witness.{is_order, lawful, witness_for, stated_outcome, witness}
use Rattle.model.specs.Prefixes.{is_prefix, clean}
use Rattle.model.specs.Settled.{spoiled, unpruned}
use Rattle.model.proofs.PrefixLaws.{clean-closed, witness-clean}
use Rattle.placing.specs.GoodTable.{GoodTable}
use Rattle.placing.proofs.KeptLaws.{clean-kept}
use Rattle.placing.proofs.EntryLaws.{stated-entries}
use Rattle.pruning.specs.Statements.{Unpruned}
use Rattle.pruning.proofs.SpoiledLaws.{unspoiled-entries, unspoiled-part}

module _ (t : Table) where
  -- no proper prefix of p is spoiled
  abbrev none_spoiled : List ℕ → Bool
  none_spoiled p = every (length p) (λ k. not (spoiled t (take k p)))

  clean-distinct : (p : List ℕ) → clean t p ≡ true → distinct p ≡ true
  unfolding clean is_prefix
  clean-distinct p h = search (and_l, and_r)

  pub unpruned-clean : (p : List ℕ) → unpruned t p ≡ true → clean t p ≡ true
  unfolding unpruned
  unpruned-clean p h = and_l (clean t p) _ h

  -- a prefix that passes passes without its last entry
  pub unpruned-closed : PrefixClosed (unpruned t)
  unfolding unpruned
  unpruned-closed p x h =
      let q = p ++ (x ∷ []) in
      and_both (clean t p) (none_spoiled p) (clean-closed t p x (and_l (clean t q) _ h))
      (at_every (length p) (λ k. not (spoiled t (take k p))) (λ k l.
      ap (λ (a : List ℕ). not (spoiled t a)) (sym (take-append-le k p (x ∷ []) (omega arith)))
      ∙ every-at (length q) (λ k. not (spoiled t (take k q))) k (and_r (clean t q) (none_spoiled q) h)
      (omega (arith, length-append p (x ∷ [])))))

  -- the same of the beginnings of p
  part-unspoiled : (p : List ℕ) → none_spoiled p ≡ true → (a b : List ℕ) → p ≡ a ++ b → b ≢ [] → spoiled t a ≡ false
  part-unspoiled p h a [] e n = absurd (n refl)
  part-unspoiled p h a (x ∷ b) e n =
      sym (ap (spoiled t) (ap (take (length a)) e ∙ take_at a (x ∷ b) (length a) refl))
      ∙ not-true _ (every-at (length p) (λ k. not (spoiled t (take k p))) (length a) h
      (omega (arith, ap length e, length-append a (x ∷ b))))

  -- the test says what the record does
  pub unpruned-exactly : (p : List ℕ) → (unpruned t p ≡ true) ↔ Unpruned t p
  unfolding unpruned
  unpruned-exactly p = (
    λ h. record { is-clean = and_l (clean t p) _ h; unspoiled = part-unspoiled p (and_r (clean t p) _ h) },
    λ u. and_both (clean t p) (none_spoiled p) u.is-clean (at_every (length p) (λ k. not (spoiled t (take k p))) (λ k l.
        ap not (u.unspoiled (take k p) (drop k p) (sym (take-append-drop k p))
        (λ e. absurd (omega (arith, length-drop k p, ap length e)))))),
  )

module _ {t : Table} (small : Small t) where
  -- what isn't spoiled has no beginning that is
  whole-unspoiled : (p : List ℕ) → distinct p ≡ true → spoiled t p ≡ false → (k : ℕ) → spoiled t (take k p) ≡ false
  whole-unspoiled p d h k =
      let e = take-append-drop k p in
      unspoiled-part small (take k p) (drop k p) (ap distinct e ∙ d) (ap (spoiled t) e ∙ h)

  -- One event more: it must leave the prefix clean, and what stands before it must not be spoiled.
  pub unpruned-more : (p : List ℕ) (e : ℕ) → unpruned t (p ++ (e ∷ [])) ≡ (clean t (p ++ (e ∷ [])) && not (spoiled t p))
  unfolding unpruned
  unpruned-more p e = go (clean t q) refl
    where
      q : List ℕ
      q = p ++ (e ∷ [])

      go : (b : Bool) → clean t q ≡ b → (b && none_spoiled t q) ≡ (b && not (spoiled t p))
      go false c = refl
      go true c =
          bool-ext (none_spoiled t q) (not (spoiled t p))
          (λ h. ap not (part-unspoiled t q h p (e ∷ []) refl (λ n. absurd (omega (arith, ap length n)))))
          (λ h. at_every (length q) (λ k. not (spoiled t (take k q))) (λ k l.
          ap not (ap (spoiled t) (take-append-le k p (e ∷ []) (omega (arith, length-append p (e ∷ []))))
          ∙ whole-unspoiled p (clean-distinct t p (clean-closed t p e c)) (not-true _ h) k)))

module _ {t : Table} (good : GoodTable t) where
  -- Of a clean order: it isn't spoiled exactly if each reader returns its stated value.
  module _ (gmo : List ℕ) (o : is_order t gmo ≡ true) (c : clean t gmo ≡ true) where
    pub order-unspoiled : not (spoiled t gmo) ≡ values_read t (returns t gmo)
    order-unspoiled = unspoiled-entries good.small gmo (clean-distinct t gmo c) ∙ sym (stated-entries (clean-kept good o c))

    -- what is left to test where it isn't
    pub witness-left : spoiled t gmo ≡ false → witness t gmo ≡ (lawful t gmo && final_values t gmo)
    unfolding witness witness_for stated_outcome
    witness-left h = rw (sym order-unspoiled ∙ ap not h)

  -- a witness isn't spoiled
  pub witness-unspoiled : (gmo : List ℕ) → witness t gmo ≡ true → spoiled t gmo ≡ false
  unfolding witness witness_for lawful stated_outcome
  witness-unspoiled gmo h =
      not-true _ (order-unspoiled gmo (search (and_l, and_r)) (witness-clean t (stated_outcome t) gmo h) ∙ search (and_l, and_r))

  -- it is visited: none of its beginnings is spoiled
  pub witness-unpruned : (gmo : List ℕ) → witness_for t (stated_outcome t) gmo ≡ true → unpruned t gmo ≡ true
  unfolding unpruned witness
  witness-unpruned gmo h =
      let c = witness-clean t (stated_outcome t) gmo h in
      and_both (clean t gmo) (none_spoiled t gmo) c
      (at_every (length gmo) (λ k. not (spoiled t (take k gmo)))
      (λ k l. ap not (whole-unspoiled good.small gmo (clean-distinct t gmo c) (witness-unspoiled gmo h) k)))
