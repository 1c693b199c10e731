-- The sets of a table's events in the rows; the memory events at each event's location.
use Prim.Native.Nat.{ℕ, ◌<◌}
use native.Mathlib.Omega.{arith}
use mathlib.Core.Path.{◌≡◌, ap, ap₂, ◌∙◌}
use mathlib.Core.Bool.{◌&&◌}
use mathlib.Core.List.{List}
use lib.ListN.{get_or}
use lib.Bits.{bit_and}
use Rattle.lists.specs.Filled.{padded}
use Rattle.lists.proofs.PaddedLaws.{padded-at}
use Rattle.masks.proofs.SetLaws.{marks-set, set-within}
use Rattle.table.specs.declared.Table.{Table}
use Rattle.table.specs.Events.{location, reads, writes, memory, memory_mask, memory_events, same_location}
use Rattle.table.specs.Counts.{Small}
use Rattle.event_sets.specs.declared.Sets.{Sets}
use Rattle.event_sets.specs.Sets.{sets_of}
use Rattle.event_sets.proofs.SetsLaws.{location-at}
use Rattle.order_facts.specs.Facts.{mask_by}
use Rattle.successors.specs.CleanMasks.{slots}

-- the memory events at e's location
abbrev pub around : Table → ℕ → ℕ
around t e = mask_by t (λ a. memory t a && same_location t a e)

module _ (t : Table) (s : Sets) (q : s ≡ sets_of t) (small : Small t) where
  pub around-is : (e : ℕ) → e < t.count → (m : ℕ) → m ≡ memory_mask t → bit_and m (get_or s.locations (location t e) 0) ≡ around t e
  unfolding mask_by memory_mask memory_events same_location
  around-is e l m h =
      ap₂ bit_and h (location-at t s q (location t e) (small.each-location e l))
      ∙ set-within t.count (memory t) (marks-set t.count (λ a. same_location t a e))

  pub readers-are : s.readers ≡ mask_by t (reads t)
  unfolding sets_of mask_by
  readers-are = ap (λ (x : Sets). x.readers) q

  pub writers-are : s.writers ≡ mask_by t (writes t)
  unfolding sets_of mask_by
  writers-are = ap (λ (x : Sets). x.writers) q

  pub around-at : (r : List ℕ) → r ≡ padded slots t.count (around t) → (e : ℕ) → e < t.count → get_or r e 0 ≡ around t e
  around-at r h e l =
      ap (λ (x : List ℕ). get_or x e 0) h ∙ padded-at (around t) slots t.count e (omega (arith, small.events)) l
