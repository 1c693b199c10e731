-- Each row of an event of the table, and the words of the last row.
use Prim.Native.Nat.{ℕ, ◌≤◌, ◌<◌}
use native.Mathlib.Omega.{arith}
use mathlib.Core.Path.{◌≡◌, refl, sym, ap, ap₂, subst, ◌∙◌}
use mathlib.Core.Bool.{Bool, true, false, not, ◌&&◌}
use mathlib.Core.List.{List}
use lib.Bits.{bit_and}
use lib.Dec.{eqb, ltb}
use lib.ListN.{get_or}
use borrow.Author.Tests.{ltb-true}
use Rattle.lists.specs.Below.{below, some}
use Rattle.lists.specs.Lists.{keep}
use Rattle.lists.proofs.BoolLaws.{eqb_comm}
use Rattle.lists.proofs.PaddedLaws.{padded-at}
use Rattle.masks.specs.Bit.{bit}
use Rattle.masks.specs.MaskOf.{mask_of}
use Rattle.masks.proofs.BelowLaws.{mask-some}
use Rattle.edition.specs.Limits.{max_locations}
use Rattle.table.specs.declared.Table.{Table}
use Rattle.table.specs.Events.{capacity, event, hart, location, writes, same_location}
use Rattle.model.specs.Returns.{initial_value}
use Rattle.placing.specs.GoodTable.{GoodTable}
use Rattle.order_facts.specs.Facts.{mask_by, opens, grounds, guards, here, right, unmet}
use Rattle.order_facts.proofs.RowLaws.{bits_of, mask-same, mask-both, right-row}
use Rattle.fact_rows.specs.declared.Around.{Around}
use Rattle.fact_rows.specs.Around.{Known, Row, GuardRow, WindowRow, GroundRow, Stating}
use Rattle.fact_rows.specs.FactRows.{masks_by}
use Rattle.event_sets.specs.declared.Sets.{Sets}
use Rattle.event_sets.specs.Sets.{sets_of}
use Rattle.event_sets.proofs.SetsLaws.{hart-at, location-at}
use Rattle.facts.specs.Rows.{around_of, stated_values}

-- an event of a table
module _ (t : Table) (s : Sets) (q : s ≡ sets_of t) (good : GoodTable t) (e : ℕ) (l : e < t.count) (a : Around)
    (h : a ≡ around_of s t.count e (event t e)) where
  sets-known : Known t (around_of s t.count e (event t e))
  unfolding mask_by sets_of same_location location hart
  sets-known =
      record {
        small = good.small.events;
        total = refl;
        counted = l;
        here = refl;
        readers = ap (λ (x : Sets). x.readers) q;
        writers = ap (λ (x : Sets). x.writers) q;
        place = location-at t s q (location t e) (good.small.each-location e l);
        hart = hart-at t s q (hart t e) (good.small.each-hart e l);
      }

  known : Known t a
  known = subst (Known t) (sym h) sets-known

  number_is : a.number ≡ e
  number_is = ap (λ (x : Around). x.number) h

  pub row_at : (f : Table → ℕ → ℕ → Bool) (r : ℕ) → Row f a r → r ≡ mask_by t (f t e)
  row_at f r p = p t known ∙ ap (λ (k : ℕ). mask_by t (f t k)) number_is

  pub window-at : (r : ℕ) → WindowRow s.reserving a r → r ≡ mask_by t (opens t e)
  unfolding sets_of mask_by
  window-at r p = p t known (ap (λ (x : Sets). x.reserving) q) ∙ ap (λ (k : ℕ). mask_by t (opens t k)) number_is

  pub ground-at : (rows : List ℕ) (r : ℕ) → rows ≡ masks_by t (opens t) → GroundRow (get_or rows e 0) a r →
      r ≡ mask_by t (grounds t e)
  ground-at rows r w p =
      p t good known
      (ap (λ (x : List ℕ). get_or x e 0) w
      ∙ padded-at (λ k. mask_by t (opens t k)) capacity t.count e (omega (arith, good.small.events)) l
      ∙ ap (λ (k : ℕ). mask_by t (opens t k)) (sym number_is))
      ∙ ap (λ (k : ℕ). mask_by t (grounds t k)) number_is

  pub guards-at : (windows r : ℕ) → windows ≡ mask_by t (λ v. some t.count (opens t v)) → GuardRow windows a r →
      r ≡ mask_by t (guards t e)
  guards-at windows r w p = p t known w ∙ ap (λ (k : ℕ). mask_by t (guards t k)) number_is

module _ (t : Table) (room : t.count ≤ capacity) where
  -- the events that have a window
  pub windows-are : (rows : List ℕ) (m : ℕ) → rows ≡ masks_by t (opens t) →
      m ≡ mask_of (keep (λ e. not (eqb (get_or rows e 0) 0)) (below t.count)) → m ≡ mask_by t (λ v. some t.count (opens t v))
  unfolding mask_by
  windows-are rows m q h =
      h ∙ mask-same t (λ e. not (eqb (get_or rows e 0) 0)) (λ v. some t.count (opens t v)) (λ v l.
      ap (λ (x : ℕ). not (eqb x 0))
      (ap (λ (x : List ℕ). get_or x v 0) q ∙ padded-at (λ e. mask_by t (opens t e)) capacity t.count v room l)
      ∙ sym (mask-some (opens t v) t.count))

  -- of the readers at the location that e writes those that state its value
  pub right-at : (e : ℕ) (stated : List ℕ) (readers m : ℕ) → stated ≡ stated_values t → readers ≡ mask_by t (here t e) →
      Stating stated readers (event t e).written m → m ≡ mask_by t (right t e)
  right-at e stated readers m q i h = right-row t e m (λ k.
      h k ∙ ap (λ (x : ℕ). bit x k && eqb (get_or stated k 0) (event t e).written) i ∙ go k (ltb k t.count) refl)
    where
      go : (k : ℕ) (b : Bool) → ltb k t.count ≡ b →
          (bit (mask_by t (here t e)) k && eqb (get_or stated k 0) (event t e).written)
          ≡ (bit (mask_by t (here t e)) k && eqb (event t e).written (event t k).read)
      go k true z =
          ap (λ (x : Bool). bit (mask_by t (here t e)) k && x)
          (ap (λ (x : ℕ). eqb x (event t e).written)
          (ap (λ (x : List ℕ). get_or x k 0) q
          ∙ padded-at (λ e. (event t e).read) capacity t.count k room (ltb-true k t.count z))
          ∙ eqb_comm (event t k).read (event t e).written)
      go k false z =
          let none : bit (mask_by t (here t e)) k ≡ false = bits_of t (here t e) k ∙ ap (λ (b : Bool). b && here t e k) z in
          rw none

module _ (t : Table) where
  -- the writers to location x
  pub writers-at : (s : Sets) → s ≡ sets_of t → (x : ℕ) → x < max_locations →
      bit_and s.writers (get_or s.locations x 0) ≡ mask_by t (λ w. writes t w && eqb (location t w) x)
  unfolding sets_of mask_by
  writers-at s q x l =
      ap₂ bit_and (ap (λ (y : Sets). y.writers) q) (location-at t s q x l)
      ∙ sym (mask-both t (writes t) (λ w. eqb (location t w) x))

  -- there is none
  unwritten-is : (s : Sets) → s ≡ sets_of t → (x : ℕ) → x < max_locations →
      eqb (bit_and s.writers (get_or s.locations x 0)) 0 ≡ not (some t.count (λ w. writes t w && eqb (location t w) x))
  unfolding mask_by
  unwritten-is s q x l =
      ap (λ (m : ℕ). eqb m 0) (writers-at s q x l)
      ∙ sym (ap not (mask-some (λ w. writes t w && eqb (location t w) x) t.count) ∙ twice _)
    where
      twice : (b : Bool) → not (not b) ≡ b
      twice true = refl
      twice false = refl

  pub unmet-is : (s : Sets) → s ≡ sets_of t → (x : ℕ) → x < max_locations → (stated : Bool) → stated ≡ bit t.stated x →
      (stated && eqb (bit_and s.writers (get_or s.locations x 0)) 0
      && not (eqb (get_or t.initial x 0) (get_or t.finals x 0))) ≡ unmet t x
  unfolding unmet initial_value
  unmet-is s q x l stated h =
      ap₂ (λ (a b : Bool). a && b && not (eqb (get_or t.initial x 0) (get_or t.finals x 0))) h (unwritten-is s q x l)
