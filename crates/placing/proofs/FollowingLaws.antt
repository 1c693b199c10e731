-- The values that follow from a clean order, without a bound: what a writer returns from stands before it, if it isn't the
-- initial write.
use Prim.Native.Nat.{ℕ, zero, suc, ◌≤◌, ◌<◌}
use native.Mathlib.Omega.{arith}
use mathlib.Core.Path.{◌≡◌, refl, sym, ap, ◌∙◌}
use mathlib.Core.Bool.{Bool, true, false, cond, or-false, false≢true}
use mathlib.Core.List.{List, [], ◌∷◌}
use mathlib.Core.Logic.{◌⊎◌, inl, inr, ⊎_elim}
use lib.ListN.{length, get_or, take}
use lib.Seq.{take-suc, take_all}
use lib.Dec.{eqb}
use borrow.Author.Tests.{eqb-true, ltb-true}
use Rattle.lists.specs.Lists.{has, before}
use Rattle.lists.proofs.BoolLaws.{or_cases, not-either, is_false}
use Rattle.lists.proofs.MemberLaws.{has-append}
use Rattle.lists.proofs.BeforeLaws.{before-taken}
use Rattle.lists.proofs.LatestLaws.{last-either}
use Rattle.operation.specs.Operation.{no_operation, applied}
use Rattle.table.specs.declared.Table.{Table}
use Rattle.table.specs.Events.{event, location, reads, writes, same_location}
use Rattle.model.specs.Rules.{initially}
use Rattle.model.specs.Returns.{visible, return_of, initial_value, last_write}
use Rattle.model.specs.Following.{leaves_within, leaves, returned_value}
use Rattle.model.proofs.VerdictLaws.{returns-at}
use Rattle.placing.specs.Guards.{forwarder}
use Rattle.placing.specs.Entries.{among}
use Rattle.placing.proofs.GuardLaws.{own-parts, forwards}
use Rattle.placing.proofs.KeptLaws.{Kept, not-initial, writer_in, overlap}
use Rattle.placing.proofs.SourceLaws.{seen, seen_parts}
use Rattle.placing.proofs.EntryLaws.{entry_in, entry-returns}

-- the initial write leaves the initial value, whatever the bound
within-initial : (t : Table) (gmo : List ℕ) (n x : ℕ) → 0 < n → leaves_within n t gmo x initially ≡ initial_value t x
unfolding leaves_within
within-initial t gmo zero x l = absurd (omega arith)
within-initial t gmo (suc n) x l = refl

pub leaves-initial : (t : Table) (gmo : List ℕ) (x : ℕ) → leaves t gmo x initially ≡ initial_value t x
unfolding leaves
leaves-initial t gmo x = within-initial t gmo (suc (length gmo)) x (omega arith)

-- the value that a reader returns
pub returned-is : (t : Table) (gmo : List ℕ) (e : ℕ) → e < t.count → reads t e ≡ true →
    returned_value t gmo e ≡ leaves t gmo (location t e) (return_of t gmo e)
unfolding returned_value
returned-is t gmo e l h = ap (leaves t gmo (location t e)) (returns-at t gmo e l h)

module _ {t : Table} {gmo : List ℕ} (k : Kept t gmo) where
  -- A writer returns from the initial write, or from one to its location that stands before it: rule 1 puts its own earlier ones
  -- there.
  pub return-before : (w : ℕ) → has w gmo ≡ true → writes t w ≡ true → (return_of t gmo w ≡ initially)
      ⊎ ((writes t (return_of t gmo w) ≡ true) × (location t (return_of t gmo w) ≡ location t w)
      × (before gmo (return_of t gmo w) w ≡ true))
  unfolding return_of same_location
  return-before w i h =
      ⊎_elim inl (λ q. let s = seen_parts k w _ q.1 in inr (
        s.0,
        eqb-true _ _ s.1,
        ⊎_elim (λ b. b) (λ o.
            let p = own-parts t w _ o in overlap k _ w q.0 i p.2 p.1 h) (seen k w _ q.1),
      ))
      (last-either (visible t gmo w) initially gmo)

  -- entry i, if it writes, returns from the last write to its location before it
  pub writer-returns : (i : ℕ) → i < length gmo → writes t (get_or gmo i 0) ≡ true →
      return_of t gmo (get_or gmo i 0) ≡ last_write t (take i gmo) (location t (get_or gmo i 0))
  writer-returns i l h =
      entry-returns k i l ∙ ap (λ (b : Bool). cond b f (last_write t (take i gmo) (location t e))) (is_false _ (λ n.
      let o = forwards t (among gmo i) e n in
      let p = own-parts t e f o.0 in
      not-either _
      (sym (before-taken gmo i f k.different l)
      ∙ overlap k f e (writer_in k f (ltb-true f t.count n) p.0) (entry_in k i l) p.2 p.1 h) o.1))
    where
      e : ℕ
      e = get_or gmo i 0

      f : ℕ
      f = forwarder t (among gmo i) e

  -- for a write among the first i entries every bound above i does
  abbrev Enough : ℕ → Type 0
  Enough i = (w : ℕ) → has w (take i gmo) ≡ true → writes t w ≡ true → (n m x : ℕ) → i < n → i < m →
      leaves_within n t gmo x w ≡ leaves_within m t gmo x w

  -- it does for one that returns from these
  enough-after : (i : ℕ) → Enough i → (w : ℕ) → has w gmo ≡ true → writes t w ≡ true →
      (before gmo (return_of t gmo w) w ≡ has (return_of t gmo w) (take i gmo)) → (n m x : ℕ) → i < n → i < m →
      leaves_within n t gmo x (return_of t gmo w) ≡ leaves_within m t gmo x (return_of t gmo w)
  enough-after i later w j h e n m x a b =
      ⊎_elim
      (λ (q : return_of t gmo w ≡ initially).
      ap (leaves_within n t gmo x) q ∙ within-initial t gmo n x (omega arith) ∙ sym (within-initial t gmo m x (omega arith))
      ∙ ap (leaves_within m t gmo x) (sym q))
      (λ q. later (return_of t gmo w) (sym e ∙ q.2) q.0 n m x a b) (return-before w j h)

  enough : (i : ℕ) → i ≤ length gmo → Enough i
  unfolding leaves_within
  enough zero l w j h n m x a b = absurd (false≢true j)
  enough (suc i) l w j h zero m x a b = absurd (omega arith)
  enough (suc i) l w j h (suc n) zero x a b = absurd (omega arith)
  enough (suc i) l w j h (suc n) (suc m) x a b =
      go (enough i (omega arith))
      (or_cases (has w (take i gmo)) _ (sym (ap (has w) (take-suc gmo i 0 l) ∙ has-append w (take i gmo) _) ∙ j))
    where
      last : eqb w (get_or gmo i 0) ≡ true → w ≡ get_or gmo i 0
      last q = eqb-true w (get_or gmo i 0) q

      go : Enough i → (has w (take i gmo) ≡ true) ⊎ (has w (get_or gmo i 0 ∷ []) ≡ true) →
          leaves_within (suc n) t gmo x w ≡ leaves_within (suc m) t gmo x w
      go later (inl q) = later w q h (suc n) (suc m) x (omega arith) (omega arith)
      go later (inr q) =
          let e = last (sym (or-false (eqb w (get_or gmo i 0))) ∙ q) in
          ap (λ (y : ℕ). cond (eqb w initially) (initial_value t x) (cond (eqb (event t w).operation no_operation)
          (event t w).written (applied (event t w).operation y (event t w).operand)))
          (enough-after i later w (ap (λ (v : ℕ). has v gmo) e ∙ entry_in k i l) h
          (ap (before gmo (return_of t gmo w)) e ∙ before-taken gmo i (return_of t gmo w) k.different l) n m x (omega arith)
          (omega arith))

  -- What a write leaves: what it states, or with an operation what follows from what it returns.
  pub leaves-write : (w x : ℕ) → has w gmo ≡ true → writes t w ≡ true → leaves t gmo x w
      ≡ cond (eqb (event t w).operation no_operation) (event t w).written
      (applied (event t w).operation (leaves t gmo x (return_of t gmo w)) (event t w).operand)
  unfolding leaves leaves_within
  leaves-write w x i h =
      enough (length gmo) (omega arith) w (ap (has w) (take_all (length gmo) gmo (omega arith)) ∙ i) h
      (suc (length gmo)) (suc (suc (length gmo))) x (omega arith) (omega arith)
      ∙ rw (not-initial k w i) refl
