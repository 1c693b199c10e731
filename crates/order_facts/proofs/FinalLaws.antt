-- The stated final values are left exactly if no wrong writer is the last of its location, and those of locations that nothing
-- writes are the initial ones.
use Prim.Native.Nat.{ℕ, suc, ◌<◌}
use mathlib.Core.Path.{◌≡◌, refl, sym, ap, subst, ◌∙◌}
use mathlib.Core.Bool.{Bool, true, false, not, ◌&&◌, and_assoc, and_comm, or-true}
use mathlib.Core.List.{List, ◌∷◌, ◌++◌}
use mathlib.Core.Logic.{⊎_elim}
use lib.ListN.{length, get_or, take, drop}
use lib.Seq.{split_at}
use lib.Dec.{eqb}
use borrow.Author.Tests.{eq-eqb, eqb-true, ne_eqb, not-true, not-false}
use Rattle.lists.specs.Below.{some}
use Rattle.lists.specs.Lists.{all, has, distinct, before}
use Rattle.lists.proofs.BoolLaws.{and_l, and_r, and_both, bool-ext, not-either, is_false, is_true, eqb_comm}
use Rattle.lists.proofs.SomeLaws.{some-found, some-none, none-at}
use Rattle.lists.proofs.ListLaws.{all-has}
use Rattle.lists.proofs.TakeLaws.{all-every}
use Rattle.lists.proofs.MemberLaws.{has_all, has-append, has_here}
use Rattle.lists.proofs.BeforeLaws.{before-has}
use Rattle.lists.proofs.DistinctLaws.{before_at}
use Rattle.lists.proofs.LatestLaws.{last-either, last-latest}
use Rattle.masks.specs.Bit.{bit}
use Rattle.table.specs.declared.Table.{Table}
use Rattle.table.specs.Events.{event, location, writes, same_location}
use Rattle.model.specs.Rules.{initially}
use Rattle.model.specs.Returns.{initial_value, written_value, last_write, final_value}
use Rattle.model.specs.Axioms.{breaks_final_value, final_values}
use Rattle.placing.proofs.KeptLaws.{Kept, self, trans, counted, not-initial, writer_in}
use Rattle.order_facts.specs.Facts.{peers, wrong, unmet}

-- w is wrong, and none of those behind it writes to its location
unfoldable pub spoils : Table → List ℕ → ℕ → Bool
spoils t behind w = wrong t w && all (λ v. not (peers t v w)) behind

-- with one more behind it
pub spoils-more : (t : Table) (v : ℕ) (behind : List ℕ) (w : ℕ) →
    (spoils t behind w && not (peers t v w)) ≡ spoils t (v ∷ behind) w
unfolding spoils
spoils-more t v behind w = and_assoc (wrong t w) _ _ ∙ ap (λ (b : Bool). wrong t w && b) (and_comm _ (not (peers t v w)))

-- with fewer
pub spoils-fewer : (t : Table) (l behind : List ℕ) (w : ℕ) → spoils t (l ++ behind) w ≡ true → spoils t behind w ≡ true
unfolding spoils
spoils-fewer t l behind w h =
    and_both (wrong t w) _ (and_l (wrong t w) _ h)
    (has_all _ behind (λ v i. all-has (λ v. not (peers t v w)) (l ++ behind) v (and_r (wrong t w) _ h)
    (has-append v l behind ∙ rw i (or-true (has v l)))))

-- an entry has a place
place-of : (x : ℕ) (l : List ℕ) → has x l ≡ true → (i : ℕ) × (i < length l) × (x ≡ get_or l i 0)
place-of x l h =
    let none = is_false (all (λ y. not (eqb x y)) l) (λ q.
    not-either _ (eq-eqb x x refl) (not-true _ (all-has (λ y. not (eqb x y)) l x q h))) in
    let r = some-found (length l) (λ i. not (not (eqb x (get_or l i 0)))) (not-false _ (sym (all-every _ l) ∙ none)) in
    (r.0, r.1, eqb-true x _ (not-false _ (not-true _ r.2)))

module _ {t : Table} {gmo : List ℕ} (k : Kept t gmo) where
  -- w writes to location x
  abbrev to : ℕ → ℕ → Bool
  to x w = writes t w && eqb (location t w) x

  abbrev last : ℕ → ℕ
  last x = last_write t gmo x

  initial-out : has initially gmo ≡ true → ⊥
  initial-out h = not-either _ (eq-eqb initially initially refl) (not-initial k initially h)

  -- a writer to x is the last one or stands before it, and then there is a last one
  write-last : (x w : ℕ) → has w gmo ≡ true → to x w ≡ true → eqb w (last x) ≡ false → before gmo w (last x) ≡ true
  write-last x w i h n =
      ⊎_elim (λ q. absurd (not-either _ (eq-eqb w (last x) q) n)) (λ b. b) (last-latest (to x) initially gmo w i h)

  -- where nothing writes to x, the initial value is left
  unwritten-left : (x : ℕ) → some t.count (to x) ≡ false → final_value t gmo x ≡ initial_value t x
  unfolding final_value written_value
  unwritten-left x n = ap (written_value t x) none
    where
      none : last x ≡ initially
      none =
          ⊎_elim (λ (q : last x ≡ initially). q)
          (λ q. absurd (not-either _ q.1 (none-at t.count (to x) (last x) n (counted k (last x) q.0))))
          (last-either (to x) initially gmo)

  -- an entry that is the last leaves what it writes
  last-left : (x w : ℕ) → has w gmo ≡ true → w ≡ last x → final_value t gmo x ≡ (event t w).written
  unfolding final_value written_value
  last-left x w i q = ap (written_value t x) (sym q) ∙ rw (not-initial k w i)

  -- entry i, which is in the list, and those behind it
  module _ (i : ℕ) (l : i < length gmo) where
    abbrev entry : ℕ
    entry = get_or gmo i 0

    abbrev behind : List ℕ
    behind = drop (suc i) gmo

    entry_in : has entry gmo ≡ true
    entry_in = ap (has entry) (split_at gmo i 0 l) ∙ has_here (take i gmo) behind entry

    stands-behind : (v : ℕ) → before gmo entry v ≡ has v behind
    stands-behind v =
        let q = split_at gmo i 0 l in
        ap (λ (m : List ℕ). before m entry v) q ∙ before_at (take i gmo) behind entry v (sym (ap distinct q) ∙ k.different)

    -- if none of them writes to its location, it is the last writer
    is_last : writes t entry ≡ true → all (λ v. not (peers t v entry)) behind ≡ true → entry ≡ last (location t entry)
    unfolding peers same_location
    is_last h w = go (eqb entry z) refl
      where
        z : ℕ
        z = last (location t entry)

        later : before gmo entry z ≡ true → ⊥
        later b =
            ⊎_elim (λ q. initial-out (ap (λ (x : ℕ). has x gmo) (sym q) ∙ (before-has gmo entry z b).1))
            (λ q. not-either (peers t z entry)
            (rw (
              h,
              and_l (writes t z) _ q.1,
              eqb_comm (location t entry) (location t z) ∙ and_r (writes t z) _ q.1,
              ne_eqb entry z (λ p. self k entry (ap (before gmo entry) p ∙ b)),
            ))
            (not-true _ (all-has (λ v. not (peers t v entry)) behind z w (sym (stands-behind z) ∙ b))))
            (last-either (to (location t entry)) initially gmo)

        go : (b : Bool) → eqb entry z ≡ b → entry ≡ z
        go true q = eqb-true entry z q
        go false q =
            absurd (later (write-last (location t entry) entry entry_in (rw (h, eq-eqb (location t entry) _ refl)) q))

    last-is : writes t entry ≡ true → entry ≡ last (location t entry) → all (λ v. not (peers t v entry)) behind ≡ true
    unfolding peers same_location
    last-is h w = has_all _ behind (λ v s. ap not (is_false (peers t v entry) (λ q.
        let b = stands-behind v ∙ s in
        let u : writes t v ≡ true = search (and_l, and_r) in
        let at : eqb (location t v) (location t entry) ≡ true = eqb_comm (location t v) _ ∙ search (and_l, and_r) in
        let n : eqb v entry ≡ false = eqb_comm v entry ∙ not-true _ (search (and_l, and_r)) in
        self k entry (trans k entry v entry b
        (ap (before gmo v) w
        ∙ write-last (location t entry) v (before-has gmo entry v b).1 (and_both (writes t v) _ u at)
        (ap (eqb v) (sym w) ∙ n))))))

    left-ends : final_values t gmo ≡ true → spoils t behind entry ≡ false
    unfolding spoils wrong final_values breaks_final_value
    left-ends h = is_false _ (λ q.
        let n = none-at t.locations (breaks_final_value t gmo) (location t entry) (not-true _ h)
        (k.table.located entry (counted k entry entry_in)) in
        let u : writes t entry ≡ true = search (and_l, and_r) in
        let stated : bit t.stated (location t entry) ≡ true = search (and_l, and_r) in
        let differs = and_r (writes t entry && bit t.stated (location t entry)) _ (and_l (wrong t entry) _ q) in
        not-either _ differs
        (rw (stated, last-left (location t entry) entry entry_in (is_last u (and_r (wrong t entry) _ q))) at n))

  left-met : final_values t gmo ≡ true → (x : ℕ) → x < t.locations → unmet t x ≡ false
  unfolding unmet final_values breaks_final_value
  left-met h x l = is_false _ (λ q.
      let n = none-at t.locations (breaks_final_value t gmo) x (not-true _ h) l in
      let stated : bit t.stated x ≡ true = search (and_l, and_r) in
      let none : some t.count (to x) ≡ false = not-true _ (search (and_l, and_r)) in
      let differs = and_r (bit t.stated x && not (some t.count (to x))) _ q in
      not-either _ differs (rw (stated, unwritten-left x none) at n))

  -- a location that something writes has a last writer
  has_last : (x : ℕ) → some t.count (to x) ≡ true → (has (last x) gmo ≡ true) × (to x (last x) ≡ true)
  has_last x h = ⊎_elim (λ q. absurd (none q)) (λ q. q) (last-either (to x) initially gmo)
    where
      w : (w : ℕ) × (w < t.count) × (to x w ≡ true)
      w = some-found t.count (to x) h

      w-in : has w.0 gmo ≡ true
      w-in = writer_in k w.0 w.1 (and_l (writes t w.0) _ w.2)

      none : last x ≡ initially → ⊥
      none q =
          ⊎_elim (λ p. not-either _ (eq-eqb w.0 initially (p ∙ q)) (not-initial k w.0 w-in))
          (λ b. initial-out (ap (λ (x : ℕ). has x gmo) (sym q) ∙ (before-has gmo w.0 (last x) b).1))
          (last-latest (to x) initially gmo w.0 w-in w.2)

  module _ (none : some (length gmo) (λ i. spoils t (drop (suc i) gmo) (get_or gmo i 0)) ≡ false)
      (met : (x : ℕ) → x < t.locations → unmet t x ≡ false) where
    -- the last writer of a location leaves its final value, if it is stated
    last-ends : (x w : ℕ) → w ≡ last x → has w gmo ≡ true → to x w ≡ true → bit t.stated x ≡ true →
        eqb (final_value t gmo x) (get_or t.finals x 0) ≡ true
    unfolding spoils wrong
    last-ends x w q i h s = is_true _ (λ n.
        let r = place-of w gmo i in
        let u = and_l (writes t w) _ h in
        let at : location t w ≡ x = eqb-true (location t w) x (and_r (writes t w) _ h) in
        not-either _
        (and_both _ _
        (subst (λ (y : ℕ). (writes t y && bit t.stated (location t y)
        && not (eqb (event t y).written (get_or t.finals (location t y) 0))) ≡ true) r.2
        (rw (u, at, s, sym (last-left x w i q)) (ap not n)))
        (last-is r.0 r.1 (ap (writes t) (sym r.2) ∙ u) (sym r.2 ∙ q ∙ ap last (sym at ∙ ap (location t) r.2))))
        (none-at (length gmo) (λ i. spoils t (drop (suc i) gmo) (get_or gmo i 0)) r.0 none r.1))

    ends-left : (x : ℕ) → x < t.locations → breaks_final_value t gmo x ≡ false
    unfolding unmet breaks_final_value
    ends-left x l = is_false _ (λ q.
        wrong (some t.count (to x)) refl (and_l (bit t.stated x) _ q) (and_r (bit t.stated x) _ q))
      where
        wrong : (b : Bool) → some t.count (to x) ≡ b → bit t.stated x ≡ true →
            not (eqb (final_value t gmo x) (get_or t.finals x 0)) ≡ true → ⊥
        wrong true h s d = let z = has_last x h in not-either _ (last-ends x (last x) refl z.0 z.1 s) (not-true _ d)
        wrong false h s d = not-either _ (rw (unwritten-left x h) at d) (rw (s, h) at (met x l))

  -- by the entries
  pub final-entries : final_values t gmo
      ≡ (not (some t.locations (unmet t)) && not (some (length gmo) (λ i. spoils t (drop (suc i) gmo) (get_or gmo i 0))))
  unfolding final_values
  final-entries =
      bool-ext _ _
      (λ h. and_both _ _ (ap not (some-none t.locations (unmet t) (left-met h)))
      (ap not (some-none (length gmo) _ (λ i l. left-ends i l h))))
      (λ h. ap not (some-none t.locations (breaks_final_value t gmo)
      (ends-left (not-true _ (and_r (not (some t.locations (unmet t))) _ h))
      (λ x l. none-at t.locations (unmet t) x (not-true _ (and_l _ _ h)) l))))
