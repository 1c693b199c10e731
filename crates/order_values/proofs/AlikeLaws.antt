-- Clean orders of a table that begin alike: what their first entries leave, what a reader among these returns, and where a
-- location ends that no later entry writes.
use Prim.Native.Nat.{ℕ, zero, suc, ◌≤◌, ◌<◌}
use native.Mathlib.Omega.{arith}
use mathlib.Core.Path.{◌≡◌, sym, ap, ap₂, ◌∙◌}
use mathlib.Core.Bool.{Bool, true, false, cond, ◌&&◌, ◌||◌, or-true, or-false, false≢true}
use mathlib.Core.List.{List, [], ◌∷◌, ◌++◌}
use mathlib.Core.Logic.{◌⊎◌, inl, inr, ⊎_elim}
use lib.ListN.{length, get_or, take, drop, take-append-drop}
use lib.Seq.{take-suc, take_all, take-take, get_or-take}
use lib.Dec.{eqb, ltb}
use borrow.Author.Tests.{eqb-true, eq-eqb}
use Rattle.lists.specs.Lists.{has, distinct, before, last_or}
use Rattle.lists.proofs.BoolLaws.{and_l, and_both, or_cases, not-either}
use Rattle.lists.proofs.MemberLaws.{has_all, has-append}
use Rattle.lists.proofs.DistinctLaws.{distinct_apart, before-left, pigeonhole}
use Rattle.lists.proofs.BeforeLaws.{before-has}
use Rattle.lists.proofs.LastLaws.{last-append}
use Rattle.lists.proofs.LatestLaws.{last-either, last-latest}
use Rattle.operation.specs.Operation.{no_operation, applied}
use Rattle.table.specs.declared.Table.{Table}
use Rattle.table.specs.Events.{event, location, reads, writes, same_location}
use Rattle.model.specs.Rules.{initially}
use Rattle.model.specs.Returns.{visible, return_of, initial_value, last_write}
use Rattle.model.specs.Following.{leaves, returned_value, end_value}
use Rattle.placing.specs.Guards.{forwarder}
use Rattle.placing.proofs.KeptLaws.{Kept, counted, not-initial}
use Rattle.placing.proofs.SourceLaws.{seen_parts}
use Rattle.placing.proofs.EntryLaws.{entry_in, entry-returns}
use Rattle.placing.proofs.FollowingLaws.{leaves-initial, leaves-write, writer-returns, returned-is}

-- one has no more entries than the other
no_longer : {t : Table} {p q : List ℕ} → Kept t p → Kept t q → length p ≤ length q
no_longer {t} {p} {q} a b = pigeonhole p q a.different (has_all (λ x. has x q) p (λ x i. b.each x (a.events x i)))

-- where nothing writes a reader's location, it returns the initial value
pub unwritten-returns : {t : Table} {gmo : List ℕ} → Kept t gmo → (e : ℕ) → e < t.count → reads t e ≡ true →
    ((w : ℕ) → w < t.count → (writes t w && eqb (location t w) (location t e)) ≡ false) →
    returned_value t gmo e ≡ initial_value t (location t e)
unfolding return_of same_location
unwritten-returns {t} {gmo} k e l h none =
    returned-is t gmo e l h
    ∙ ap (leaves t gmo (location t e)) (⊎_elim (λ q. q)
    (λ q.
    let s = seen_parts k e _ q.1 in
    absurd (not-either _ (and_both _ _ s.0 s.1) (none _ (counted k _ q.0))))
    (last-either (visible t gmo e) initially gmo))
    ∙ leaves-initial t gmo (location t e)

module _ {t : Table} {gmo other : List ℕ} (k : Kept t gmo) (m : Kept t other) where
  pub as_long : length other ≡ length gmo
  as_long = omega (arith, no_longer k m, no_longer m k)

  -- orders that are alike to the end are the same
  pub whole-alike : (d : ℕ) → length gmo ≤ d → take d other ≡ take d gmo → other ≡ gmo
  whole-alike d l s = sym (take_all d other (omega (arith, as_long))) ∙ s ∙ take_all d gmo l

  -- The first d entries are the same.
  module _ (d : ℕ) (inside : d ≤ length gmo) (alike : take d other ≡ take d gmo) where
    first : (i : ℕ) → i ≤ d → take i other ≡ take i gmo
    first i l = sym (take-take i d other l) ∙ ap (take i) alike ∙ take-take i d gmo l

    here : (i : ℕ) → i < d → get_or other i 0 ≡ get_or gmo i 0
    here i l = sym (get_or-take d other i 0 l) ∙ ap (λ (p : List ℕ). get_or p i 0) alike ∙ get_or-take d gmo i 0 l

    few : (i : ℕ) → i < d → i < length other
    few i l = omega (arith, as_long)

    -- what the writes among the first i leave
    abbrev Leaving : ℕ → Type 0
    Leaving i = (w x : ℕ) → has w (take i gmo) ≡ true → writes t w ≡ true → leaves t other x w ≡ leaves t gmo x w

    -- what the last of them to a location does
    last-leaves : (i : ℕ) → Leaving i → (x y : ℕ) →
        leaves t other x (last_write t (take i gmo) y) ≡ leaves t gmo x (last_write t (take i gmo) y)
    last-leaves i later x y =
        ⊎_elim
        (λ (q : last_write t (take i gmo) y ≡ initially).
        ap (leaves t other x) q ∙ leaves-initial t other x ∙ sym (leaves-initial t gmo x) ∙ ap (leaves t gmo x) (sym q))
        (λ q. later _ x q.0 (and_l (writes t (last_write t (take i gmo) y)) _ q.1))
        (last-either (λ w. writes t w && eqb (location t w) y) initially (take i gmo))

    -- Entry i.
    module _ (i : ℕ) (l : i < d) where
      abbrev e : ℕ
      e = get_or gmo i 0

      -- it returns from the same write
      entry-alike : return_of t other e ≡ return_of t gmo e
      entry-alike =
          ap (return_of t other) (sym (here i l)) ∙ entry-returns m i (few i l)
          ∙ ap₂ (λ (p : List ℕ) (a : ℕ). cond (ltb (forwarder t (λ b. has b p) a) t.count) (forwarder t (λ b. has b p) a)
          (last_write t p (location t a))) (first i (omega arith)) (here i l)
          ∙ sym (entry-returns k i (omega arith))

      entry-leaves : Leaving i → (x : ℕ) → writes t e ≡ true → leaves t other x e ≡ leaves t gmo x e
      entry-leaves later x u =
          leaves-write m e x (ap (λ (a : ℕ). has a other) (sym (here i l)) ∙ entry_in m i (few i l)) u
          ∙ ap (λ (y : ℕ). cond (eqb (event t e).operation no_operation) (event t e).written
          (applied (event t e).operation y (event t e).operand))
          (ap (leaves t other x) (entry-alike ∙ from) ∙ last-leaves i later x (location t e) ∙ ap (leaves t gmo x) (sym from))
          ∙ sym (leaves-write k e x (entry_in k i (omega arith)) u)
        where
          from : return_of t gmo e ≡ last_write t (take i gmo) (location t e)
          from = writer-returns k i (omega arith) u

    pub leaves_alike : (i : ℕ) → i ≤ d → Leaving i
    leaves_alike zero l w x h u = absurd (false≢true h)
    leaves_alike (suc i) l w x h u =
        go (leaves_alike i (omega arith))
        (or_cases (has w (take i gmo)) _
        (sym (ap (has w) (take-suc gmo i 0 (omega arith)) ∙ has-append w (take i gmo) (get_or gmo i 0 ∷ [])) ∙ h))
      where
        go : Leaving i → (has w (take i gmo) ≡ true) ⊎ (has w (get_or gmo i 0 ∷ []) ≡ true) →
            leaves t other x w ≡ leaves t gmo x w
        go later (inl q) = later w x q u
        go later (inr q) =
            let p : w ≡ get_or gmo i 0 = eqb-true w (get_or gmo i 0) (sym (or-false (eqb w (get_or gmo i 0))) ∙ q) in
            ap (leaves t other x) p ∙ entry-leaves i (omega arith) later x (ap (writes t) (sym p) ∙ u)
            ∙ ap (leaves t gmo x) (sym p)

    -- a reader among them that returns from the last write before it returns the same
    pub read_alike : (j : ℕ) → j < d → (e : ℕ) → get_or gmo j 0 ≡ e → e < t.count → reads t e ≡ true →
        return_of t gmo e ≡ last_write t (take j gmo) (location t e) → returned_value t other e ≡ returned_value t gmo e
    read_alike j l e q n h from =
        returned-is t other e n h
        ∙ ap (leaves t other (location t e))
        (ap (return_of t other) (sym q) ∙ entry-alike j l ∙ ap (return_of t gmo) q ∙ from)
        ∙ last-leaves j (leaves_alike j (omega arith)) (location t e) (location t e)
        ∙ ap (leaves t gmo (location t e)) (sym from) ∙ sym (returned-is t gmo e n h)

    -- A location whose last write is among them.
    module _ (x : ℕ) (q : last_write t gmo x ≡ last_write t (take d gmo) x) where
      abbrev writes_here : ℕ → Bool
      writes_here w = writes t w && eqb (location t w) x

      abbrev z : ℕ
      z = last_write t (take d gmo) x

      -- no later entry of either writes it
      none-behind : (y : ℕ) → has y (drop d other) ≡ true → writes_here y ≡ true → ⊥
      none-behind y i h =
          ⊎_elim
          (λ (s : z ≡ initially).
          ⊎_elim (λ (r : y ≡ last_write t gmo x). not-either _ (eq-eqb y initially (r ∙ q ∙ s)) (not-initial m y there))
          (λ b. not-either _ (eq-eqb (last_write t gmo x) initially (q ∙ s))
          (not-initial k (last_write t gmo x) (before-has gmo y _ b).1)) late)
          (λ s.
          ⊎_elim (λ (r : y ≡ last_write t gmo x). outside (ap (λ (a : ℕ). has a (take d gmo)) (r ∙ q) ∙ s.0))
          (λ b. outside (before-has (take d gmo) y z (sym (before-left (take d gmo) (drop d gmo) y z
          (distinct_apart (take d gmo) (drop d gmo) z (parted gmo k) s.0))
          ∙ ap₂ (λ (p : List ℕ) (a : ℕ). before p y a) (take-append-drop d gmo) (sym q) ∙ b)).0) late)
          (last-either writes_here initially (take d gmo))
        where
          parted : (p : List ℕ) → Kept t p → distinct (take d p ++ drop d p) ≡ true
          parted p a = ap distinct (take-append-drop d p) ∙ a.different

          there : has y other ≡ true
          there =
              ap (has y) (sym (take-append-drop d other)) ∙ has-append y (take d other) (drop d other)
              ∙ ap (λ (b : Bool). has y (take d other) || b) i ∙ or-true (has y (take d other))

          outside : has y (take d gmo) ≡ true → ⊥
          outside a =
              not-either _ i (distinct_apart (take d other) (drop d other) y (parted other m) (ap (has y) alike ∙ a))

          late : (y ≡ last_write t gmo x) ⊎ (before gmo y (last_write t gmo x) ≡ true)
          late = last-latest writes_here initially gmo y (k.each y (m.events y there)) h

      pub end-alike : end_value t other x ≡ end_value t gmo x
      unfolding end_value
      end-alike =
          ap (leaves t other x)
          (ap (last_or writes_here initially) (sym (take-append-drop d other))
          ∙ last-append writes_here initially (take d other) (drop d other)
          ∙ ⊎_elim (λ s. s) (λ s. absurd (none-behind _ s.0 s.1))
          (last-either writes_here (last_or writes_here initially (take d other)) (drop d other))
          ∙ ap (last_or writes_here initially) alike)
          ∙ last-leaves d (leaves_alike d (omega arith)) x x ∙ ap (leaves t gmo x) (sym q)
