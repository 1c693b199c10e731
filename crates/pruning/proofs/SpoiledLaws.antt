-- A prefix is spoiled exactly if some entry, placed behind those before it, doesn't read its stated value.
use Prim.Native.Nat.{ℕ, ◌+◌, ◌<◌}
use native.Mathlib.Omega.{arith}
use mathlib.Core.Path.{◌≡◌, refl, sym, ap, ap₂, ◌∙◌}
use mathlib.Core.Bool.{Bool, true, false, not, ◌&&◌, ◌||◌, not-not}
use mathlib.Core.List.{List, [], ◌∷◌, ◌++◌}
use lib.ListN.{length, get_or, length-append, get_or-append}
use lib.Seq.{take-append-le, take_at, get_or_at}
use lib.Dec.{eqb}
use borrow.Author.Tests.{not-true}
use Rattle.lists.specs.Below.{some, every}
use Rattle.lists.specs.Lists.{all, any, has, distinct}
use Rattle.lists.proofs.BoolLaws.{not-both, neither}
use Rattle.lists.proofs.SomeLaws.{some_more, some_same, every-same, every-at, at_every}
use Rattle.lists.proofs.TakeLaws.{all-every}
use Rattle.lists.proofs.DistinctLaws.{distinct-left}
use Rattle.table.specs.declared.Table.{Table}
use Rattle.table.specs.Events.{event, reads}
use Rattle.table.specs.Counts.{Small}
use Rattle.model.specs.Returns.{final_value}
use Rattle.model.specs.Settled.{misreads, spoiled}
use Rattle.placing.specs.Guards.{reads_stated}
use Rattle.placing.specs.Entries.{stated_at}
use Rattle.pruning.proofs.SettledLaws.{settled-value}

-- no entry passes: each fails
none_any : (f : ℕ → Bool) (l : List ℕ) → not (any f l) ≡ all (λ x. not (f x)) l
none_any f [] = refl
none_any f (x ∷ l) = sym (neither (f x) (any f l)) ∙ ap (λ (b : Bool). not (f x) && b) (none_any f l)

module _ {t : Table} (small : Small t) where
  -- entry i reads its stated value
  entry-stated : (p : List ℕ) → distinct p ≡ true → (i : ℕ) → i < length p → not (misreads t p (get_or p i 0)) ≡ stated_at t p i
  unfolding misreads stated_at reads_stated
  entry-stated p d i l =
      let e = get_or p i 0 in
      sym (not-both (reads t e) _)
      ∙ ap (λ (v : ℕ). not (reads t e) || eqb v (event t e).read) (settled-value t p d i l small)

  pub unspoiled-entries : (p : List ℕ) → distinct p ≡ true → not (spoiled t p) ≡ every (length p) (stated_at t p)
  unfolding spoiled
  unspoiled-entries p d =
      none_any (misreads t p) p ∙ all-every (λ r. not (misreads t p r)) p
      ∙ every-same (length p) (λ i. not (misreads t p (get_or p i 0))) (stated_at t p) (entry-stated p d)

  pub spoiled-entries : (p : List ℕ) → distinct p ≡ true → spoiled t p ≡ some (length p) (λ i. not (stated_at t p i))
  spoiled-entries p d =
      sym (not-not (spoiled t p)) ∙ ap not (unspoiled-entries p d)
      ∙ not-not (some (length p) (λ i. not (stated_at t p i)))

  -- entries behind those of p change nothing for p's
  stated-before : (p q : List ℕ) (i : ℕ) → i < length p → stated_at t (p ++ q) i ≡ stated_at t p i
  unfolding stated_at
  stated-before p q i l =
      ap₂ (λ (a : List ℕ) (e : ℕ). reads_stated t (λ x. has x a) (final_value t a) e)
      (take-append-le i p q (omega arith)) (get_or-append p q 0 i l)

  -- the last entry stands behind p
  stated-last : (p : List ℕ) (e : ℕ) → stated_at t (p ++ (e ∷ [])) (length p) ≡ reads_stated t (λ a. has a p) (final_value t p) e
  unfolding stated_at
  stated-last p e =
      ap₂ (λ (a : List ℕ) (x : ℕ). reads_stated t (λ y. has y a) (final_value t a) x)
      (take_at p (e ∷ []) (length p) refl) (get_or_at p e [] 0 (length p) refl)

  -- One event more: it spoils the prefix if it doesn't read its stated value.
  pub spoiled-more : (p : List ℕ) (e : ℕ) → distinct (p ++ (e ∷ [])) ≡ true →
      spoiled t (p ++ (e ∷ [])) ≡ (spoiled t p || not (reads_stated t (λ a. has a p) (final_value t p) e))
  spoiled-more p e d =
      spoiled-entries q d ∙ ap (λ (n : ℕ). some n (λ i. not (stated_at t q i))) (length-append p (e ∷ []))
      ∙ some_more (length p) (λ i. not (stated_at t q i))
      ∙ ap₂ (λ (a b : Bool). a || not b)
      (some_same (length p) (λ i. not (stated_at t q i)) (λ i. not (stated_at t p i)) (λ i l. ap not (stated-before p (e ∷ []) i l))
      ∙ sym (spoiled-entries p (distinct-left p (e ∷ []) d)))
      (stated-last p e)
    where
      q : List ℕ
      q = p ++ (e ∷ [])

  -- where the whole isn't spoiled, no part is
  pub unspoiled-part : (p q : List ℕ) → distinct (p ++ q) ≡ true → spoiled t (p ++ q) ≡ false → spoiled t p ≡ false
  unspoiled-part p q d h =
      not-true _ (unspoiled-entries p (distinct-left p q d) ∙ at_every (length p) (stated_at t p) (λ i l.
      sym (stated-before p q i l)
      ∙ every-at (length (p ++ q)) (stated_at t (p ++ q)) i (sym (unspoiled-entries (p ++ q) d) ∙ ap not h)
      (omega (arith, length-append p q))))
