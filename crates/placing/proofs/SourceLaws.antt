-- What a reader returns from, at its place in an order: its forwarder, else the last write to its location that stands before it.
use Prim.Native.Nat.{ℕ}
use native.Mathlib.Omega.{arith}
use native.Mathlib.Nat.{eq-or-lt_of_le}
use mathlib.Core.Path.{◌≡◌, refl, sym, ap, ◌∙◌}
use mathlib.Core.Bool.{Bool, true, false, cond, not, ◌&&◌, or-true}
use mathlib.Core.List.{List}
use mathlib.Core.Logic.{◌⊎◌, inl, inr, ⊎_elim}
use lib.Dec.{eqb, ltb}
use borrow.Author.Tests.{eq-eqb, ne_eqb, ltb-true, lt-ltb}
use Rattle.lists.specs.Lists.{has, before, last_or}
use Rattle.lists.proofs.BoolLaws.{and_l, and_r, bool-ext, or_cases, not-either, is_false, is_true}
use Rattle.lists.proofs.BeforeLaws.{before-has}
use Rattle.lists.proofs.MemberLaws.{has_all}
use Rattle.lists.proofs.LastLaws.{last-same}
use Rattle.lists.proofs.LatestLaws.{last-either, last-latest}
use Rattle.table.specs.declared.Table.{Table}
use Rattle.table.specs.Events.{writes, same_location, po}
use Rattle.table.proofs.ProgramOrderLaws.{po-less, po-hart, is-po, same-trans, same-sym}
use Rattle.model.specs.Rules.{initially}
use Rattle.model.specs.Returns.{visible, return_of}
use Rattle.placing.specs.Guards.{own, forwarder}
use Rattle.placing.specs.Entries.{ahead}
use Rattle.placing.proofs.GuardLaws.{own-parts, is-own, forwards, forwarder-latest}
use Rattle.placing.proofs.KeptLaws.{Kept, self, trans, counted, not-initial, writer_in, overlap}

-- the last write to r's location that stands before r
abbrev pub last_before : Table → List ℕ → ℕ → ℕ
last_before t gmo r = last_or (λ w. writes t w && same_location t w r && before gmo w r) initially gmo

module _ {t : Table} {gmo : List ℕ} (k : Kept t gmo) where
  -- what a reader sees: writers to its location that stand before it, and its own
  pub seen : (r u : ℕ) → visible t gmo r u ≡ true → (before gmo u r ≡ true) ⊎ (own t r u ≡ true)
  unfolding visible
  seen r u h =
      ⊎_elim inl (λ p. inr (is-own t r u (search (and_l, and_r)) (search (and_l, and_r)) p))
      (or_cases (before gmo u r) (po t u r) (and_r (writes t u && same_location t u r && not (eqb u r)) _ h))

  pub seen_parts : (r u : ℕ) → visible t gmo r u ≡ true → (writes t u ≡ true) × (same_location t u r ≡ true)
  unfolding visible
  seen_parts r u h = (search (and_l, and_r), search (and_l, and_r))

  pub sees-before : (r u : ℕ) → writes t u ≡ true → same_location t u r ≡ true → before gmo u r ≡ true → visible t gmo r u ≡ true
  unfolding visible
  sees-before r u w s b = rw (w, s, ne_eqb u r (λ q. self k r (ap (λ (x : ℕ). before gmo x r) (sym q) ∙ b)), b)

  pub sees-own : (r u : ℕ) → own t r u ≡ true → visible t gmo r u ≡ true
  unfolding visible
  sees-own r u h =
      let o = own-parts t r u h in
      rw (o.0, o.1, ne_eqb u r (λ q. absurd (omega (arith, po-less t u r o.2))), o.2) (or-true (before gmo u r))

  module _ (r : ℕ) where
    abbrev source : ℕ
    source = return_of t gmo r

    abbrev f : ℕ
    f = forwarder t (ahead gmo r) r

    -- of the own writers that stand behind the reader the latest in program order is the last: rule 1
    forwarded : ltb f t.count ≡ true → source ≡ f
    unfolding return_of
    forwarded h =
        ⊎_elim (λ (q : f ≡ source). sym q) (λ b. absurd (later b))
        (last-latest (visible t gmo r) initially gmo f f-in (sees-own r f f-own))
      where
        f-own : own t r f ≡ true
        f-own = (forwards t (ahead gmo r) r h).0

        f-in : has f gmo ≡ true
        f-in = writer_in k f (ltb-true f t.count h) (own-parts t r f f-own).0

        later : before gmo f source ≡ true → ⊥
        later b =
            ⊎_elim (λ q. not-either _ (eq-eqb source initially q) (not-initial k source s-in))
            (λ q. ⊎_elim early (λ o. wrong o (is_false _ early)) (seen r source q.1))
            (last-either (visible t gmo r) initially gmo)
          where
            s-in : has source gmo ≡ true
            s-in = (before-has gmo f source b).1

            early : before gmo source r ≡ true → ⊥
            early c = not-either _ (trans k f source r b c) (forwards t (ahead gmo r) r h).1

            wrong : own t r source ≡ true → before gmo source r ≡ false → ⊥
            wrong o n =
                let p = own-parts t r source o in
                let q = own-parts t r f f-own in
                ⊎_elim (λ (e : source ≡ f). self k f (rw e at b))
                (λ l. self k f (trans k f source f b (overlap k source f s-in f-in
                (is-po t source f l (po-hart t source r p.2 ∙ sym (po-hart t f r q.2)))
                (same-trans t source r f p.1 (same-sym t f r q.1)) q.0)))
                (eq-or-lt_of_le (forwarder-latest t (ahead gmo r) r source (counted k source s-in) o n).0)

    -- where all own writers stand before the reader, it sees what stands before it
    from-memory : ltb f t.count ≡ false → source ≡ last_before t gmo r
    unfolding return_of
    from-memory h =
        last-same (λ w. has w gmo) (visible t gmo r) (λ w. writes t w && same_location t w r && before gmo w r) initially gmo
        (has_all (λ w. has w gmo) gmo (λ w j. j)) same
      where
        own-before : (w : ℕ) → has w gmo ≡ true → own t r w ≡ true → before gmo w r ≡ true
        own-before w j o =
            is_true _ (λ n. not-either _ (lt-ltb f t.count (forwarder-latest t (ahead gmo r) r w (counted k w j) o n).1) h)

        same : (w : ℕ) → has w gmo ≡ true → visible t gmo r w ≡ (writes t w && same_location t w r && before gmo w r)
        same w j =
            bool-ext _ _
            (λ v. let p = seen_parts r w v in rw (p.0, p.1) (⊎_elim (λ b. b) (own-before w j) (seen r w v)))
            (λ v. sees-before r w (search (and_l, and_r)) (search (and_l, and_r)) (and_r (writes t w && same_location t w r) _ v))

    -- what it returns from
    pub return-is : source ≡ cond (ltb f t.count) f (last_before t gmo r)
    return-is = go (ltb f t.count) refl
      where
        go : (b : Bool) → ltb f t.count ≡ b → source ≡ cond b f (last_before t gmo r)
        go true h = forwarded h
        go false h = from-memory h
