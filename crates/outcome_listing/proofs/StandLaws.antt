-- Where a walk from one lawful order to the next stands: what holds of its masks, its order and its rows.
use Prim.Native.Nat.{ℕ, ◌-◌, ◌≤◌, ◌<◌}
use native.Mathlib.Omega.{arith}
use mathlib.Core.Path.{◌≡◌, refl, sym, ap, ap₂, ◌∙◌, subst}
use mathlib.Core.Bool.{Bool, true, false, cond, not, ◌&&◌, and-true}
use mathlib.Core.List.{List, []}
use lib.ListN.{length, take}
use lib.Seq.{length-take-le}
use lib.Count.{ones}
use Rattle.lists.specs.Ascending.{less}
use Rattle.lists.proofs.BoolLaws.{and_l, and_r}
use Rattle.masks.specs.Bit.{bit}
use Rattle.masks.specs.MaskOf.{mask_of}
use Rattle.masks.proofs.BitLaws.{bit-zero}
use Rattle.sorted_rows.specs.Sorted.{insert, rows}
use Rattle.table.specs.declared.Table.{Table}
use Rattle.table.specs.Events.{memory_count, memory_mask}
use Rattle.table.proofs.MemoryLaws.{memory-mask-ones}
use Rattle.prefixes.specs.Listed.{after}
use Rattle.prefixes.specs.Answer.{Answer, found, none_left, spent}
use Rattle.prefixes.specs.Statements.{seek}
use Rattle.model.specs.Witness.{is_order, lawful, witness_for}
use Rattle.model.specs.Prefixes.{clean, clean_prefixes}
use Rattle.model.proofs.PrefixLaws.{witness-clean}
use Rattle.successors.specs.CleanMasks.{slots, ready, clean_from, clean_by}
use Rattle.ready_events.specs.Current.{Current}
use Rattle.engine.specs.State.{Holds}
use Rattle.precedence.proofs.PrecedenceLaws.{clean-same, whole-mask, order-length}
use Rattle.event_sets.specs.Sets.{sets_of}
use Rattle.condition_test.specs.Wanted.{any_order}
use Rattle.witness_walk.specs.declared.Path.{Path}
use Rattle.witness_walk.specs.declared.Ending.{Ending}
use Rattle.witness_walk.specs.declared.Ending.TheVariants.{Found, NoneLeft, Spent}
use Rattle.witness_walk.specs.Ending.{answer_of}
use Rattle.outcomes.specs.Outcomes.{readers, outcome_of, outcome_length, outcomes}
use Rattle.outcome_listing.specs.declared.Asked.{Asked}
use Rattle.outcome_listing.specs.Gathering.{Walks, NextLawful, Notes}
use Rattle.outcome_listing.proofs.GatherLaws.{Gathering, gather-start, gathered-ascend, gather-found, gather-end, gather-over, found-lawful, found-counts}

-- the set of the readers is the mask of their list
pub readers-mask : (t : Table) → (sets_of t).readers ≡ mask_of (readers t)
unfolding sets_of readers
readers-mask t = refl

-- at first what is ready may follow
pub first-current : (preds : List ℕ) (mem can : ℕ) → ((k : ℕ) → bit can k ≡ (bit mem k && ready preds 0 k)) → Current preds mem 0 can
first-current preds mem can h k =
    h k ∙ ap (λ (b : Bool). b && ready preds 0 k) (sym (and-true (bit mem k)) ∙ ap (λ (b : Bool). bit mem k && not b) (sym (bit-zero k)))

-- nothing may follow where all are placed
whole-current : (preds : List ℕ) (mem : ℕ) → Current preds mem mem 0
whole-current preds mem k = bit-zero k ∙ go (bit mem k) (ready preds mem k)
  where
    go : (b c : Bool) → false ≡ (b && not b && c)
    go true c = refl
    go false c = refl

module _ {t : Table} {facts : List (List ℕ)} {preds : List ℕ} {mem : ℕ} (w : Walks t facts preds) (m : mem ≡ memory_mask t) where
  few : t.count < slots
  few = w.known.table.small.events

  clean-by : (p : List ℕ) → clean_by preds mem p ≡ clean t p
  clean-by p =
      ap₂ (λ (l : List ℕ) (m : ℕ). clean_by l m p) w.predecessors (m) ∙ clean-same t few p

  -- behind a whole order
  whole-holds : {order : List ℕ} {len : ℕ} → length order ≡ slots → len ≤ slots → clean t (take len order) ≡ true →
      is_order t (take len order) ≡ true → Holds preds mem order len mem 0
  whole-holds {order} {len} long small c o = record {
    long = long;
    clean = clean-by (take len order) ∙ c;
    mask = m ∙ sym ((whole-mask t few (take len order) c).1 entries);
    counted = sym (length-take-le len order (omega arith)) ∙ entries ∙ sym (memory-mask-ones t) ∙ ap ones (sym (m));
    current = whole-current preds mem;
  }
    where
      entries : length (take len order) ≡ memory_count t
      entries = order-length t (take len order) o

  module _ (previous : List ℕ) (room b : ℕ) where
    -- the walk stands behind the path's entries, with so much of its budget left, and has kept n rows
    pub record Stands (order : List ℕ) (from : Path) (left n : ℕ) (kept : List ℕ) : Type 0 where
      pub holds : Holds preds mem order from.keep from.masks.placed from.masks.can
      pub later : from.later ≡ from.masks.can
      pub within : left ≤ b
      pub gathered : Gathering t previous room (take from.keep order) (b - left) (rows (outcome_length t) n kept)

    -- before the first prefix
    pub stands-first : (order : List ℕ) (from : Path) (kept : List ℕ) → length order ≡ slots → from.keep ≡ 0 → from.masks.placed ≡ 0 →
        Current preds mem 0 from.masks.can → from.later ≡ from.masks.can → Stands order from b 0 kept
    unfolding rows clean_by clean_from mask_of ones
    stands-first order from kept long k p c l = record {
      holds = record {
        long = long;
        clean = ap (λ (x : ℕ). clean_by preds mem (take x order)) k;
        mask = p ∙ ap (λ (x : ℕ). mask_of (take x order)) (sym k);
        counted = k ∙ ap ones (sym p);
        current = subst (λ (x : ℕ). Current preds mem x from.masks.can) (sym p) c;
      };
      later = l;
      within = omega arith;
      gathered = subst (λ (q : List ℕ). Gathering t previous room q (b - b) []) (ap (λ (x : ℕ). take x order) (sym k))
          (subst (λ (x : ℕ). Gathering t previous room [] x []) (omega arith) (gather-start t previous room));
    }

    module _ {order : List ℕ} {from : Path} {left n : ℕ} {kept : List ℕ} (s : Stands order from left n kept) where
      next-is : (o : Ending) (order' : List ℕ) → NextLawful facts preds mem (take from.keep order) left order' o → (a : Answer) →
          answer_of o order' ≡ a → seek (witness_for t any_order) (after (take from.keep order) (clean_prefixes t)) (take from.keep order) left 0 ≡ a
      next-is o order' h a e = sym (h t w m (sym (clean-by (take from.keep order)) ∙ s.holds.clean)) ∙ e

      -- an order is found
      module _ (len v : ℕ) (order' : List ℕ) (h : NextLawful facts preds mem (take from.keep order) left order' (Found len v))
          (long : length order' ≡ slots) (small : len ≤ slots) where
        is-next : seek (witness_for t any_order) (after (take from.keep order) (clean_prefixes t)) (take from.keep order) left 0 ≡ found (take len order') v
        is-next = next-is (Found len v) order' h (found (take len order') v) refl

        pub found-order : is_order t (take len order') ≡ true
        unfolding witness_for lawful
        found-order = let r = found-lawful t previous room s.gathered left _ _ is-next in search (and_l, and_r)

        pub found-clean : clean t (take len order') ≡ true
        found-clean = witness-clean t any_order (take len order') (found-lawful t previous room s.gathered left _ _ is-next)

        pub found-holds : Holds preds mem order' len mem 0
        found-holds = whole-holds long small found-clean found-order

        pub found_left : (0 < v) × (v ≤ left)
        found_left = found-counts t previous room s.gathered left _ _ is-next

        pub stands-found : (n' : ℕ) (kept' : List ℕ) (asked : Asked) → asked.room ≡ room → asked.readers ≡ mask_of (readers t) →
            Notes facts (take len order') t.locations asked previous n kept n' kept' → (from' : Path) →
            from'.keep ≡ len → from'.masks.placed ≡ mem → from'.masks.can ≡ 0 → from'.later ≡ 0 →
            Stands order' from' (left - v) n' kept'
        stands-found n' kept' asked e r notes from' k p c l = record {
          holds = rw (k, p, c) found-holds;
          later = l ∙ sym c;
          within = omega (arith, s.within);
          gathered = rw k (subst (λ (x : ℕ). Gathering t previous room (take len order') x (rows (outcome_length t) n' kept'))
              (omega (arith, found_left, s.within))
              (gather-found t previous room s.gathered left _ _ is-next _
              (notes-room (notes t w.known w.values found-order found-clean r refl (gathered-ascend t previous room s.gathered)))));
        }
          where
            o : List ℕ
            o = outcome_of t (take len order')

            notes-room : (rows (outcome_length t) n' kept' ≡ cond (less previous o)
                (take asked.room (insert o (rows (outcome_length t) n kept))) (rows (outcome_length t) n kept)) →
                rows (outcome_length t) n' kept' ≡ cond (less previous o) (take room (insert o (rows (outcome_length t) n kept))) (rows (outcome_length t) n kept)
            notes-room h = subst (λ (k : ℕ). rows (outcome_length t) n' kept' ≡ cond (less previous o) (take k (insert o (rows (outcome_length t) n kept))) (rows (outcome_length t) n kept)) e h

      -- no other is
      pub stands-end : (v : ℕ) (order' : List ℕ) → NextLawful facts preds mem (take from.keep order) left order' (NoneLeft v) →
          (length (clean_prefixes t) ≤ b) × (rows (outcome_length t) n kept ≡ take room (after previous (outcomes t)))
      stands-end v order' h =
          let r = gather-end t previous room s.gathered left v (next-is (NoneLeft v) order' h (none_left v) refl) in
          (omega (arith, r.0, s.within), r.1)

      -- there are more prefixes than the allowance
      pub stands-over : (len v : ℕ) (order' : List ℕ) → NextLawful facts preds mem (take from.keep order) left order' (Spent len v) →
          b < length (clean_prefixes t)
      stands-over len v order' h =
          let r = gather-over t previous room s.gathered left _ v (next-is (Spent len v) order' h (spent (take len order') v) refl) in
          omega (arith, r, s.within)
