-- The first line that holds, told by masks of the records.
use Prim.Native.Nat.{ℕ, ◌≤◌, ◌<◌}
use mathlib.Core.Path.{◌≡◌, refl, sym, ap, ◌∙◌}
use mathlib.Core.Bool.{Bool, true, false, not, ◌&&◌}
use mathlib.Core.List.{List, ◌∷◌}
use native.Mathlib.Omega.{arith}
use native.Mathlib.Nat.{le_antisymm}
use lib.Dec.{ltb}
use lib.Count.{count_trailing_zeros}
use borrow.Author.Tests.{ltb-true, ltb-false, eq-eqb, ne_eqb}
use Rattle.lists.specs.Below.{below, lowest, some}
use Rattle.lists.specs.Lists.{keep}
use Rattle.lists.proofs.BoolLaws.{and_l, and_r, not-either}
use Rattle.lists.proofs.SomeLaws.{lowest-hit, lowest-least}
use Rattle.masks.specs.Bit.{bit}
use Rattle.masks.specs.MaskOf.{mask_of}
use Rattle.masks.proofs.PowerLaws.{trailing-lowest}
use Rattle.masks.proofs.PartLaws.{lowest-room}
use Rattle.masks.proofs.MaskOfLaws.{mask_below, mask-below-lt}
use Rattle.masks.proofs.BelowLaws.{mask_at, mask-some}
use Rattle.table.specs.declared.Table.{Table}
use Rattle.table.specs.Events.{memory, memory_events, memory_mask}
use Rattle.refusals.specs.Lines.{Refused, by_record, Line, record_of, first_line}
use Rattle.refusals.specs.TableLines.{line11}
use Rattle.refusals.proofs.LineLaws.{record-here, record-next}

-- a line that holds of no record: the next line decides
pub none-next : (n k : ℕ) (f : ℕ → Bool) (ls : List Line) (r : Refused) → some n f ≡ false → r ≡ first_line n ls → r ≡ first_line n (record_of k f ∷ ls)
none-next n k f ls r e h = record-next n k f ls (lowest n f) r refl (ltb-false _ _ e) h

-- m is the mask of the records that f holds of
module _ (n : ℕ) (f : ℕ → Bool) (m : ℕ) (marks : m ≡ mask_of (keep f (below n))) where
  -- it holds of none
  none-marked : m ≡ 0 → some n f ≡ false
  none-marked z = mask-some f n ∙ ap not (eq-eqb _ 0 (sym marks ∙ z))

  pub marked_next : (k : ℕ) (ls : List Line) (r : Refused) → m ≡ 0 → r ≡ first_line n ls → r ≡ first_line n (record_of k f ∷ ls)
  marked_next k ls r z h = none-next n k f ls r (none-marked z) h

  -- the lowest fits a byte
  pub marked-room : n ≤ 32 → (m ≡ 0 → ⊥) → count_trailing_zeros 32 m < 32
  marked-room room z = lowest-room m z (rw marks (mask-below-lt f n 32 room))

  -- it holds of some: the lowest is named
  pub marked-here : n ≤ 32 → (k : ℕ) (ls : List Line) (i : ℕ) → (m ≡ 0 → ⊥) → i ≡ count_trailing_zeros 32 m → by_record k i ≡ first_line n (record_of k f ∷ ls)
  marked-here room k ls i z e = record-here n k f ls i (le_antisymm upper lower) in_table
    where
      set : (count_trailing_zeros 32 m < 32) × (bit m (count_trailing_zeros 32 m) ≡ true) × ((j : ℕ) → j < count_trailing_zeros 32 m → bit m j ≡ false)
      set = trailing-lowest 32 m (omega (arith, z)) (rw marks (mask-below-lt f n 32 room))

      found : (ltb i n && f i) ≡ true
      found = sym (mask_below f n i) ∙ ap (λ (x : ℕ). bit x i) (sym marks) ∙ ap (bit m) e ∙ set.1

      in_table : i < n
      in_table = ltb-true i n (and_l (ltb i n) (f i) found)

      upper : i ≤ lowest n f
      upper = go (ltb (lowest n f) i) refl
        where
          go : (b : Bool) → ltb (lowest n f) i ≡ b → i ≤ lowest n f
          go true q =
              let l : lowest n f < i = ltb-true (lowest n f) i q in
              let l' : lowest n f < n = omega (arith, in_table) in
              absurd
              (not-either _ (ap (λ (x : ℕ). bit x (lowest n f)) marks ∙ mask_at f n (lowest n f) l' ∙ lowest-hit n f l')
              (set.2 (lowest n f) (omega (arith, e))))
          go false q = ltb-false (lowest n f) i q

      lower : lowest n f ≤ i
      lower = go (ltb i (lowest n f)) refl
        where
          go : (b : Bool) → ltb i (lowest n f) ≡ b → lowest n f ≤ i
          go true q = absurd (not-either _ (and_r (ltb i n) (f i) found) (lowest-least n f i (ltb-true i (lowest n f) q)))
          go false q = ltb-false i (lowest n f) q

-- line 11 by the mask of the memory events
pub no-memory : (t : Table) (m : ℕ) → m ≡ memory_mask t → m ≡ 0 → line11 t ≡ true
unfolding line11 memory_mask memory_events
no-memory t m q z = ap not (none-marked t.count (memory t) m q z)

pub some-memory : (t : Table) (m : ℕ) → m ≡ memory_mask t → (m ≡ 0 → ⊥) → line11 t ≡ false
unfolding line11 memory_mask memory_events
some-memory t m q z = ap not (mask-some (memory t) t.count ∙ ap not (ne_eqb _ 0 (λ (e : memory_mask t ≡ 0). z (q ∙ e))))
