-- What the guards say.
use Prim.Native.Nat.{ℕ, ◌≤◌, ◌<◌}
use native.Mathlib.Omega.{arith}
use mathlib.Core.Path.{◌≡◌, refl}
use mathlib.Core.Bool.{Bool, true, false, not, ◌&&◌, ◌||◌}
use mathlib.Core.Logic.{⊎_elim}
use lib.Dec.{eqb, ltb}
use borrow.Author.Tests.{eqb-true, le-ltb, not-true}
use Rattle.lists.specs.Below.{below}
use Rattle.lists.proofs.BoolLaws.{and_l, and_r, not-either, or-implied, implied}
use Rattle.lists.proofs.SomeLaws.{some_at, some-found, every-at, at_every}
use Rattle.lists.proofs.LatestLaws.{last-either, last-highest}
use Rattle.table.specs.declared.Table.{Table}
use Rattle.table.specs.Events.{kind, writes, same_location, po, paired, store, amo, sc}
use Rattle.placing.specs.Guards.{own, rereads, within, forwarder, open_read, open_pair}

module _ (t : Table) where
  -- what an own writer is
  pub own-parts : (r w : ℕ) → own t r w ≡ true → (writes t w ≡ true) × (same_location t w r ≡ true) × (po t w r ≡ true)
  unfolding own
  own-parts r w h = (search (and_l, and_r), search (and_l, and_r), search (and_l, and_r))

  pub is-own : (r w : ℕ) → writes t w ≡ true → same_location t w r ≡ true → po t w r ≡ true → own t r w ≡ true
  unfolding own
  is-own r w h s p = rw (h, s) p

  -- a writer is a plain store, or an AMO or SC
  pub not_plain : (w : ℕ) → writes t w ≡ true → (eqb (kind t w) amo || eqb (kind t w) sc) ≡ not (eqb (kind t w) store)
  unfolding writes
  not_plain w h = go (eqb (kind t w) store) refl
    where
      go : (b : Bool) → eqb (kind t w) store ≡ b → (eqb (kind t w) amo || eqb (kind t w) sc) ≡ not b
      go true e = rw (eqb-true (kind t w) store e)
      go false e = rw e at h

module _ (t : Table) (placed : ℕ → Bool) where
  pub within-at : (f : ℕ → Bool) → within t placed f ≡ true → (a : ℕ) → a < t.count → f a ≡ true → placed a ≡ true
  unfolding within
  within-at f h a l q = implied (f a) (placed a) (every-at t.count (λ x. not (f x) || placed x) a h l) q

  pub at-within : (f : ℕ → Bool) → ((a : ℕ) → a < t.count → f a ≡ true → placed a ≡ true) → within t placed f ≡ true
  unfolding within
  at-within f h = at_every t.count (λ x. not (f x) || placed x) (λ a l. or-implied (f a) (placed a) (h a l))

  -- a forwarder is an own writer that isn't placed
  pub forwards : (r : ℕ) → ltb (forwarder t placed r) t.count ≡ true →
      (own t r (forwarder t placed r) ≡ true) × (placed (forwarder t placed r) ≡ false)
  unfolding forwarder
  forwards r h =
      ⊎_elim (λ q. absurd (not-either _ h (rw q (le-ltb t.count t.count (omega arith)))))
      (λ q. (and_l _ _ q.1, not-true _ (and_r (own t r (forwarder t placed r)) _ q.1)))
      (last-either (λ w. own t r w && not (placed w)) t.count (below t.count))

  -- the latest of them: there is one where an own writer isn't placed
  pub forwarder-latest : (r w : ℕ) → w < t.count → own t r w ≡ true → placed w ≡ false →
      (w ≤ forwarder t placed r) × (forwarder t placed r < t.count)
  unfolding forwarder
  forwarder-latest r w l h n = last-highest (λ x. own t r x && not (placed x)) t.count t.count w l (rw (h, n))

  -- rule 2's window at a, seen from b
  pub is-open-read : (a b : ℕ) → writes t a ≡ false → placed a ≡ false → b < t.count → rereads t a b ≡ true → placed b ≡ true →
      within t placed (own t a) ≡ true → open_read t placed a ≡ true
  unfolding open_read
  is-open-read a b n m l h p w = rw (n, m, some_at t.count (λ x. rereads t a x && placed x) b l (rw (h, p))) w

  pub open-read : (a : ℕ) → open_read t placed a ≡ true →
      (writes t a ≡ false) × (placed a ≡ false) × (within t placed (own t a) ≡ true)
      × ((b : ℕ) × (b < t.count) × (rereads t a b ≡ true) × (placed b ≡ true))
  unfolding open_read
  open-read a h =
      let f = some-found t.count (λ x. rereads t a x && placed x) (search (and_l, and_r)) in
      let q = f.2 in (
        not-true _ (search (and_l, and_r)),
        not-true _ (search (and_l, and_r)),
        search (and_l, and_r),
        (f.0, f.1, and_l (rereads t a f.0) _ q, and_r (rereads t a f.0) _ q),
      )

  -- atomicity's window at the LR l, seen from its SC s
  pub is-open-pair : (l s : ℕ) → placed l ≡ true → s < t.count → paired t l s ≡ true → placed s ≡ false →
      within t placed (own t l) ≡ true → open_pair t placed l ≡ true
  unfolding open_pair
  is-open-pair l s p j h n w = rw (p, some_at t.count (λ x. paired t l x && not (placed x)) s j (rw (h, n))) w

  pub open-pair : (l : ℕ) → open_pair t placed l ≡ true → (placed l ≡ true) × (within t placed (own t l) ≡ true)
      × ((s : ℕ) × (s < t.count) × (paired t l s ≡ true) × (placed s ≡ false))
  unfolding open_pair
  open-pair l h =
      let f = some-found t.count (λ x. paired t l x && not (placed x)) (search (and_l, and_r)) in
      let q = f.2 in (
        search (and_l, and_r),
        search (and_l, and_r),
        (f.0, f.1, and_l (paired t l f.0) _ q, not-true _ (and_r (paired t l f.0) _ q)),
      )
