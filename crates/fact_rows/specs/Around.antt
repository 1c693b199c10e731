-- What the rows of an event are made from.
use Rattle.std.specs.Prelude.{ℕ, ◌<◌, ◌≡◌, Bool, true, false, ◌&&◌, ◌||◌, List, get_or, eqb}
use Rattle.lists.specs.Below.{some}
use Rattle.masks.specs.Bit.{bit}
use Rattle.table.specs.declared.Table.{Table}
use Rattle.table.specs.Events.{capacity, event, kind, hart, reads, writes, same_location, lr, sc}
use Rattle.placing.specs.GoodTable.{GoodTable}
use Rattle.order_facts.specs.Facts.{mask_by, opens, grounds, guards}
use Rattle.fact_rows.specs.declared.Around.{Around}

-- an event of the table, with sets of events: the readers, the writers, those at its location and those of its hart
pub record Known (t : Table) (a : Around) : Type 0 where
  pub small : t.count < capacity
  pub total : a.count ≡ t.count
  pub counted : a.number < t.count
  pub here : a.event ≡ event t a.number
  pub readers : a.readers ≡ mask_by t (reads t)
  pub writers : a.writers ≡ mask_by t (writes t)
  pub place : a.place ≡ mask_by t (λ k. same_location t k a.number)
  pub hart : a.hart ≡ mask_by t (λ k. eqb (hart t k) (hart t a.number))

-- r is the mask of the events that pass with it
abbrev pub Row : (Table → ℕ → ℕ → Bool) → Around → ℕ → Type 0
Row test a r = (t : Table) → Known t a → r ≡ mask_by t (test t a.number)

-- the same where the windows are known
abbrev pub GuardRow : ℕ → Around → ℕ → Type 0
GuardRow windows a r =
    (t : Table) → Known t a → windows ≡ mask_by t (λ v. some t.count (opens t v)) → r ≡ mask_by t (guards t a.number)

-- the window of an event that doesn't write
abbrev pub RereadRow : Around → ℕ → Type 0
RereadRow a r = (t : Table) → Known t a → writes t a.number ≡ false → r ≡ mask_by t (opens t a.number)

-- the window of a writer, where the LRs and SCs, and the LRs, are known
abbrev pub PairRow : ℕ → ℕ → Around → ℕ → Type 0
PairRow reserving lrs a r =
    (t : Table) → Known t a → reserving ≡ mask_by t (λ k. eqb (kind t k) lr || eqb (kind t k) sc) →
    lrs ≡ mask_by t (λ k. eqb (kind t k) lr) → writes t a.number ≡ true → r ≡ mask_by t (opens t a.number)

-- the window of any event, where the LRs and SCs are known
abbrev pub WindowRow : ℕ → Around → ℕ → Type 0
WindowRow reserving a r =
    (t : Table) → Known t a → reserving ≡ mask_by t (λ k. eqb (kind t k) lr || eqb (kind t k) sc) →
    r ≡ mask_by t (opens t a.number)

-- its ground, where the window is known
abbrev pub GroundRow : ℕ → Around → ℕ → Type 0
GroundRow window a r =
    (t : Table) → GoodTable t → Known t a → window ≡ mask_by t (opens t a.number) → r ≡ mask_by t (grounds t a.number)

-- r is the mask of the readers that state the value; stated: what each states
abbrev pub Stating : List ℕ → ℕ → ℕ → ℕ → Type 0
Stating stated readers value r = (k : ℕ) → bit r k ≡ (bit readers k && eqb (get_or stated k 0) value)
