-- What could disturb an event, and what it waits for, by masks.
use Prim.Native.Nat.{ℕ, ◌≤◌, ◌<◌}
use native.Mathlib.Omega.{arith}
use mathlib.Core.Path.{◌≡◌, refl, sym, ap, ap₂, subst, ◌∙◌}
use mathlib.Core.Bool.{Bool, true, false, not, ◌&&◌, ◌||◌, not-not, or-false}
use mathlib.Core.List.{List}
use lib.ListN.{get_or}
use lib.Bits.{bit_and, bit_or}
use lib.Dec.{eqb}
use borrow.Author.Tests.{lt-ltb, ne_eqb}
use Rattle.lists.proofs.SomeLaws.{some_same}
use Rattle.lists.proofs.PaddedLaws.{padded-at}
use Rattle.masks.specs.Bit.{bit}
use Rattle.masks.specs.Parts.{highest}
use Rattle.masks.proofs.GatherLaws.{mask-none}
use Rattle.masks.proofs.BelowLaws.{mask-within, mask-some, mask-meets, mask-less}
use Rattle.masks.proofs.SetLaws.{set-or}
use Rattle.table.specs.declared.Table.{Table}
use Rattle.table.specs.Events.{capacity, reads, memory, same_location}
use Rattle.model.specs.Rules.{static_ppo}
use Rattle.placing.specs.Guards.{ready, within, forwarder}
use Rattle.order_facts.specs.Facts.{mask_by, own_writer, needed}
use Rattle.order_facts.proofs.ReadLaws.{missing, none-forwards, w-counted, reader, forwarder-w}
use Rattle.order_facts.proofs.RowLaws.{mask-same}
use Rattle.fact_rows.specs.FactRows.{mask, Facts, own_row, needs_row}
use Rattle.precedence.specs.Precedence.{predecessor_mask, predecessor_masks}
use Rattle.successors.specs.CleanMasks.{slots}
use Rattle.order_test.proofs.TellLaws.{mask_is}
use Rattle.states.specs.States.{without}
use Rattle.states.specs.Choices.{beside, lacks, waits_inside, closed_at}
use Rattle.state_test.specs.Board.{Board, Lacking, place_row, before_row}

-- there is a slot for each event
pub room : {t : Table} {facts : List (List ℕ)} → Facts t facts → t.count ≤ capacity
room f = omega (arith, f.table.small.events)

module _ (facts : List (List ℕ)) (placed e : ℕ) where
  -- no own writer is missing
  pub lack-none : (m : ℕ) → m ≡ without (mask facts own_row e) placed → m ≡ 0 → Lacking facts placed e 0
  unfolding lacks mask_by
  lack-none m q z t f l =
      sym (mask-none (lacks t (bit placed) e) t.count (λ a. go a (reads t e) refl))
    where
      none : missing t (room f) placed e ≡ 0
      none = ap (λ (x : ℕ). without x placed) (sym (mask_is f own_row (own_writer t) f.own e l)) ∙ sym q ∙ z

      go : (a : ℕ) (b : Bool) → reads t e ≡ b → lacks t (bit placed) e a ≡ false
      go a true h = rw (h, none-forwards t (room f) placed e h none)
      go a false h = rw h

  -- some is: the highest of them forwards
  pub lack-some : (m w r : ℕ) → m ≡ without (mask facts own_row e) placed → (m ≡ 0 → ⊥) → w ≡ highest m →
      r ≡ without (mask facts needs_row w) placed → Lacking facts placed e r
  unfolding lacks mask_by
  lack-some m w r q n h p t f l =
      p ∙ ap (λ (x : ℕ). without x placed) (mask_is f needs_row (needed t) f.needs w counted)
      ∙ mask-less (needed t w) t.count placed
      ∙ mask-same t (λ a. needed t w a && not (bit placed a)) (lacks t (bit placed) e) same
    where
      is : m ≡ missing t (room f) placed e
      is = q ∙ ap (λ (x : ℕ). without x placed) (mask_is f own_row (own_writer t) f.own e l)

      one : missing t (room f) placed e ≡ 0 → ⊥
      one z = n (is ∙ z)

      forwards : forwarder t (bit placed) e ≡ w
      forwards = forwarder-w t (room f) placed e one ∙ sym (h ∙ ap highest is)

      counted : w < t.count
      counted = subst (λ (x : ℕ). x < t.count) (sym (h ∙ ap highest is)) (w-counted t (room f) placed e one)

      same : (a : ℕ) → a < t.count → (needed t w a && not (bit placed a)) ≡ lacks t (bit placed) e a
      same a i = sym (rw (reader t (room f) placed e one, forwards, lt-ltb w t.count counted))

-- e waits for another of the set, or is ready and nothing outside could disturb it
abbrev pub keeps : Table → (placed set e : ℕ) → Bool
keeps t placed set e =
    waits_inside t (bit placed) (bit set) e || ready t (bit placed) e && closed_at t (bit placed) (bit set) e

module _ {t : Table} {facts ties : List (List ℕ)} (b : Board t facts ties) (placed e : ℕ) (l : e < t.count) where
  -- what could disturb e
  abbrev disturbing : ℕ → Bool
  disturbing a = beside t (bit placed) e a || lacks t (bit placed) e a

  pub disturb : (p k : ℕ) → p ≡ without (mask ties place_row e) placed → k ≡ mask_by t (lacks t (bit placed) e) →
      bit_or p k ≡ mask_by t disturbing
  unfolding beside mask_by
  disturb p k q h =
      ap₂ bit_or
      (q ∙ ap (λ (x : ℕ). without x placed) (b.place e l)
      ∙ mask-less (λ a. memory t a && same_location t a e) t.count placed) h
      ∙ set-or t.count (beside t (bit placed) e) (lacks t (bit placed) e)

  -- the steady predecessors that e waits for
  abbrev waited : ℕ → Bool
  waited a = static_ppo t a e && not (bit placed a)

  waits : (m : ℕ) → m ≡ without (mask ties before_row e) placed → m ≡ mask_by t waited
  unfolding predecessor_mask predecessor_masks mask_by
  waits m q =
      q ∙ ap (λ (x : ℕ). without x placed)
      (ap (λ (x : List ℕ). get_or x e 0) b.before
      ∙ padded-at (predecessor_mask t) slots t.count e (room b.known) l)
      ∙ mask-less (λ a. static_ppo t a e) t.count placed

  -- e is ready if there are none
  ready-is : ready t (bit placed) e ≡ eqb (mask_by t waited) 0
  unfolding ready within mask_by
  ready-is =
      ap not (some_same t.count (λ a. not (not (static_ppo t a e) || bit placed a)) waited
      (λ a i. turned (static_ppo t a e) (bit placed a))
      ∙ mask-some waited t.count)
      ∙ not-not (eqb (mask_by t waited) 0)
    where
      turned : (p q : Bool) → not (not p || q) ≡ (p && not q)
      turned true q = refl
      turned false q = refl

  module _ (set : ℕ) where
    inside : (m : ℕ) → m ≡ without (mask ties before_row e) placed →
        waits_inside t (bit placed) (bit set) e ≡ not (eqb (bit_and m set) 0)
    unfolding waits_inside mask_by
    inside m q = mask-meets waited t.count set ∙ ap (λ (x : ℕ). not (eqb (bit_and x set) 0)) (sym (waits m q))

    -- it waits
    pub kept-waits : (m : ℕ) → m ≡ without (mask ties before_row e) placed → (m ≡ 0 → ⊥) →
        not (eqb (bit_and m set) 0) ≡ keeps t placed set e
    kept-waits m q n =
        sym (rw (ready-is ∙ ap (λ (x : ℕ). eqb x 0) (sym (waits m q)) ∙ ne_eqb m 0 n)
        (or-false (waits_inside t (bit placed) (bit set) e) ∙ inside m q))

    -- it is ready
    pub kept-ready : (m d : ℕ) → m ≡ without (mask ties before_row e) placed → m ≡ 0 → d ≡ mask_by t disturbing →
        eqb (bit_and d set) d ≡ keeps t placed set e
    unfolding closed_at mask_by
    kept-ready m d q z p =
        ap (λ (x : ℕ). eqb (bit_and x set) x) p ∙ sym (mask-within disturbing t.count set)
        ∙ sym (rw (
          inside m q ∙ ap (λ (x : ℕ). not (eqb (bit_and x set) 0)) z,
          ready-is ∙ ap (λ (x : ℕ). eqb x 0) (sym (waits m q) ∙ z),
        ))
