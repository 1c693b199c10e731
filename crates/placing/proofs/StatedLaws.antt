-- Of a table that line 7 lets pass the stated outcome is the one that follows from the order: a block asks for what it states.
use Prim.Native.Nat.{ℕ, zero, suc, ◌≤◌, ◌<◌}
use native.Mathlib.Omega.{arith}
use mathlib.Core.Path.{◌≡◌, refl, sym, ap, ap₂, ◌∙◌}
use mathlib.Core.Bool.{Bool, true, false, cond, not, ◌&&◌, ◌||◌, and-true, or-false, false≢true}
use mathlib.Core.List.{List, [], ◌∷◌}
use mathlib.Core.Logic.{◌⊎◌, inl, inr, ⊎_elim}
use lib.ListN.{length, get_or, take}
use lib.Seq.{take-suc, take_all}
use lib.Dec.{eqb, ltb}
use borrow.Author.Tests.{eqb-true, not-false}
use Rattle.lists.specs.Below.{some, every}
use Rattle.lists.specs.Lists.{has, before}
use Rattle.lists.proofs.BoolLaws.{or_l, or_r, and_l, and_r, or_cases, bool-ext, implied}
use Rattle.lists.proofs.SomeLaws.{none-at, some_same, every-at, every-same}
use Rattle.lists.proofs.MemberLaws.{has-append}
use Rattle.lists.proofs.BeforeLaws.{before-has, before-taken}
use Rattle.lists.proofs.LatestLaws.{last-either}
use Rattle.masks.specs.Bit.{bit}
use Rattle.operation.specs.Operation.{no_operation, amominu, applied}
use Rattle.table.specs.declared.Table.{Table}
use Rattle.table.specs.Events.{event, kind, location, reads, writes, same_location, reading_kind, amo}
use Rattle.refusals.specs.TableLines.{operation_out_of_range, not_applied, shape_wrong, fields_wrong, line7}
use Rattle.model.specs.Rules.{initially}
use Rattle.model.specs.Returns.{visible, return_of, returns, written_value, value_read, last_write, final_value}
use Rattle.model.specs.Axioms.{breaks_value_read, breaks_final_value, values_read, final_values}
use Rattle.model.specs.Witness.{is_order, stated_outcome}
use Rattle.model.specs.Prefixes.{clean}
use Rattle.model.specs.Following.{leaves, returned_value, end_value}
use Rattle.model.proofs.VerdictLaws.{returns-at}
use Rattle.placing.specs.GoodTable.{GoodTable}
use Rattle.placing.proofs.KeptLaws.{Kept, clean-kept, counted, not-initial}
use Rattle.placing.proofs.SourceLaws.{seen_parts}
use Rattle.placing.proofs.EntryLaws.{entry_in}
use Rattle.placing.proofs.FollowingLaws.{leaves-initial, leaves-write, return-before, returned-is}

-- nothing breaks exactly if each that is asked is met
none-breaks : (n : ℕ) (asked met : ℕ → Bool) → not (some n (λ k. asked k && not (met k))) ≡ every n (λ k. not (asked k) || met k)
none-breaks n asked met = ap not (some_same n _ _ (λ k l. turned (asked k) (met k)))
  where
    turned : (a b : Bool) → (a && not b) ≡ not (not a || b)
    turned true b = refl
    turned false b = refl

module _ {t : Table} {gmo : List ℕ} (k : Kept t gmo) (fields : some t.count (line7 t) ≡ false) where
  -- only an AMO has an operation, and it states to write what follows from the value read that it states
  operated : (w : ℕ) → w < t.count → eqb (event t w).operation no_operation ≡ false →
      (reads t w ≡ true) × ((event t w).written ≡ applied (event t w).operation (event t w).read (event t w).operand)
  unfolding line7 fields_wrong shape_wrong operation_out_of_range not_applied reads kind
  operated w l n =
      let h = none-at t.count (line7 t) w fields l in
      let off : operation_out_of_range (event t w) ≡ false = search (or_l, or_r) in
      let on : not_applied (event t w) ≡ false = search (or_l, or_r) in
      let plain = rw n at (or_r (ltb amominu (event t w).operation) _ off) in (
        ap reading_kind (eqb-true (event t w).kind amo (not-false _ (sym (and-true _) ∙ plain))),
        eqb-true _ _ (not-false _ (rw n at on)),
      )

  -- the write w leaves what it states
  abbrev Stated : ℕ → Type 0
  Stated w = leaves t gmo (location t w) w ≡ (event t w).written

  -- it does, if it states to read what follows
  stated-if : (w : ℕ) → has w gmo ≡ true → writes t w ≡ true →
      (reads t w ≡ true → leaves t gmo (location t w) (return_of t gmo w) ≡ (event t w).read) → Stated w
  stated-if w i u h = leaves-write k w (location t w) i u ∙ go (eqb (event t w).operation no_operation) refl
    where
      go : (b : Bool) → eqb (event t w).operation no_operation ≡ b →
          cond b (event t w).written
          (applied (event t w).operation (leaves t gmo (location t w) (return_of t gmo w)) (event t w).operand)
          ≡ (event t w).written
      go true n = refl
      go false n =
          let o = operated w (counted k w i) n in
          ap (λ (v : ℕ). applied (event t w).operation v (event t w).operand) (h o.0) ∙ sym o.1

  -- z is the initial write, or writes to location x and leaves what it states: what is there then
  as-stated : (x z : ℕ) → (z ≡ initially) ⊎ ((has z gmo ≡ true) × (location t z ≡ x) × Stated z) →
      leaves t gmo x z ≡ written_value t x z
  unfolding written_value
  as-stated x z (inl q) = ap (leaves t gmo x) q ∙ leaves-initial t gmo x ∙ sym (ap (written_value t x) q)
  as-stated x z (inr q) = rw (not-initial k z q.0) (ap (λ (y : ℕ). leaves t gmo y z) (sym q.1) ∙ q.2)

  -- Along the order: each write leaves what it states, if each reader returns its stated value.
  module _ (right : (r : ℕ) → r < t.count → reads t r ≡ true →
      written_value t (location t r) (return_of t gmo r) ≡ (event t r).read) where
    along : (i : ℕ) → i ≤ length gmo → (w : ℕ) → has w (take i gmo) ≡ true → writes t w ≡ true → Stated w
    along zero l w j u = absurd (false≢true j)
    along (suc i) l w j u =
        go (along i (omega arith))
        (or_cases (has w (take i gmo)) _ (sym (ap (has w) (take-suc gmo i 0 l) ∙ has-append w (take i gmo) _) ∙ j))
      where
        go : ((w : ℕ) → has w (take i gmo) ≡ true → writes t w ≡ true → Stated w) →
            (has w (take i gmo) ≡ true) ⊎ (has w (get_or gmo i 0 ∷ []) ≡ true) → Stated w
        go later (inl q) = later w q u
        go later (inr q) =
            let e = eqb-true w (get_or gmo i 0) (sym (or-false (eqb w (get_or gmo i 0))) ∙ q) in
            let w-in = ap (λ (v : ℕ). has v gmo) e ∙ entry_in k i l in
            stated-if w w-in u (λ m.
            as-stated (location t w) (return_of t gmo w) (⊎_elim inl (λ p. inr (
              (before-has gmo _ w p.2).0,
              p.1,
              later _ (sym (ap (before gmo _) e ∙ before-taken gmo i _ k.different l) ∙ p.2) p.0,
            )) (return-before k w w-in u))
            ∙ right w (counted k w w-in) m)

    pub by-stated : (w : ℕ) → has w gmo ≡ true → writes t w ≡ true → Stated w
    by-stated w i u = along (length gmo) (omega arith) w (ap (has w) (take_all (length gmo) gmo (omega arith)) ∙ i) u

  -- Where each write leaves what it states, the values read and those at the end are the stated ones.
  module _ (same : (w : ℕ) → has w gmo ≡ true → writes t w ≡ true → Stated w) where
    read_same : (r : ℕ) → r < t.count → reads t r ≡ true →
        value_read t (written_value t) (returns t gmo) r ≡ returned_value t gmo r
    unfolding return_of same_location
    read_same r l h =
        ap (written_value t (location t r)) (returns-at t gmo r l h)
        ∙ sym (as-stated (location t r) (return_of t gmo r) (⊎_elim inl (λ q.
        let p = seen_parts k r _ q.1 in inr (q.0, eqb-true _ _ p.1, same _ q.0 p.0))
        (last-either (visible t gmo r) initially gmo)))
        ∙ sym (returned-is t gmo r l h)

    end_same : (x : ℕ) → final_value t gmo x ≡ end_value t gmo x
    unfolding final_value end_value
    end_same x =
        let w = last_write t gmo x in
        sym (as-stated x w (⊎_elim inl (λ q.
        inr (q.0, eqb-true _ x (and_r (writes t w) _ q.1), same w q.0 (and_l (writes t w) _ q.1)))
        (last-either (λ w. writes t w && eqb (location t w) x) initially gmo)))

-- Each reader that returns its stated value, each location that ends at its stated one, by what follows from the order.
module _ (t : Table) (gmo : List ℕ) where
  abbrev pub reads_right : ℕ → Bool
  reads_right r = not (reads t r) || eqb (returned_value t gmo r) (event t r).read

  abbrev pub ends_right : ℕ → Bool
  ends_right x = not (bit t.stated x) || eqb (end_value t gmo x) (get_or t.finals x 0)

  -- the same by what the writes state
  abbrev reads_stated : ℕ → Bool
  reads_stated r = not (reads t r) || eqb (value_read t (written_value t) (returns t gmo) r) (event t r).read

  abbrev ends_stated : ℕ → Bool
  ends_stated x = not (bit t.stated x) || eqb (final_value t gmo x) (get_or t.finals x 0)

  stated-each : stated_outcome t gmo ≡ (every t.count reads_stated && every t.locations ends_stated)
  unfolding stated_outcome values_read breaks_value_read final_values breaks_final_value
  stated-each =
      ap₂ (λ (a b : Bool). a && b)
      (none-breaks t.count (reads t) (λ r. eqb (value_read t (written_value t) (returns t gmo) r) (event t r).read))
      (none-breaks t.locations (bit t.stated) (λ x. eqb (final_value t gmo x) (get_or t.finals x 0)))

  -- what all readers do
  each_read : (value : ℕ → ℕ) → every t.count (λ r. not (reads t r) || eqb (value r) (event t r).read) ≡ true →
      (r : ℕ) → r < t.count → reads t r ≡ true → value r ≡ (event t r).read
  each_read value h r l m =
      eqb-true _ _ (implied (reads t r) _ (every-at t.count (λ r. not (reads t r) || eqb (value r) (event t r).read) r h l) m)

  pub stated-follows : GoodTable t → some t.count (line7 t) ≡ false → is_order t gmo ≡ true → clean t gmo ≡ true →
      stated_outcome t gmo ≡ (every t.count reads_right && every t.locations ends_right)
  stated-follows good fields o c =
      stated-each ∙ bool-ext _ _
      (λ h. sym (equal (by-stated k fields (λ r l m.
      sym (ap (written_value t (location t r)) (returns-at t gmo r l m))
      ∙ each_read (value_read t (written_value t) (returns t gmo)) (and_l (every t.count reads_stated) _ h) r l m))) ∙ h)
      (λ h. equal (λ w i u. stated-if k fields w i u (λ m.
      let l = counted k w i in
      sym (returned-is t gmo w l m) ∙ each_read (returned_value t gmo) (and_l (every t.count reads_right) _ h) w l m)) ∙ h)
    where
      k : Kept t gmo
      k = clean-kept good o c

      equal : ((w : ℕ) → has w gmo ≡ true → writes t w ≡ true → leaves t gmo (location t w) w ≡ (event t w).written) →
          (every t.count reads_stated && every t.locations ends_stated)
          ≡ (every t.count reads_right && every t.locations ends_right)
      equal same =
          ap₂ (λ (a b : Bool). a && b) (every-same t.count reads_stated reads_right (λ r l. reading r l (reads t r) refl))
          (every-same t.locations ends_stated ends_right (λ x l.
          ap (λ (v : ℕ). not (bit t.stated x) || eqb v (get_or t.finals x 0)) (end_same k fields same x)))
        where
          reading : (r : ℕ) → r < t.count → (b : Bool) → reads t r ≡ b →
              (not b || eqb (value_read t (written_value t) (returns t gmo) r) (event t r).read)
              ≡ (not b || eqb (returned_value t gmo r) (event t r).read)
          reading r l true h = ap (λ (v : ℕ). eqb v (event t r).read) (read_same k fields same r l h)
          reading r l false h = refl
