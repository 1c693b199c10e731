-- Two tables that differ in flags, dependency masks and model only: what doesn't look at these is the same. Each law is the
-- definition's text along the path from the one table to the other.
use Prim.Native.Nat.{ℕ, zero, suc}
use mathlib.Core.Path.{◌≡◌, refl}
use mathlib.Core.Bool.{not, cond, ◌&&◌, ◌||◌}
use lib.ListN.{length, get_or}
use lib.Dec.{eqb, ltb}
use Rattle.lists.specs.Below.{below, some}
use Rattle.lists.specs.Filled.{up_to}
use Rattle.lists.specs.Lists.{all, keep, count, before, last_or}
use Rattle.masks.specs.Bit.{bit}
use Rattle.operation.specs.Operation.{no_operation, applied}
use Rattle.table.specs.declared.Table.{Table}
use Rattle.table.specs.Events.{reading_kind, writing_kind, amo, lr, sc, fencetso}
use Rattle.table.specs.Events.{event, kind, hart, location, reads, writes, memory, same_location, po, between, reserves, paired, memory_events}
use Rattle.text_format.specs.Condition.{Condition, returns as returning, ends, negated, both, either}
use Rattle.model.specs.Rules.{nothing, initially, from, rule1, rule2, rule3, tso_orders, rule8, may_order}
use Rattle.model.specs.Returns.{visible, return_of, return_entry, returns, initial_value, written_value, last_write, final_value}
use Rattle.model.specs.Axioms.{write_is_late, intrudes, breaks_pair, breaks_atomicity, breaks_value_read, breaks_final_value, atomicity, values_read, final_values}
use Rattle.model.specs.Witness.{is_memory_event, is_order, stated_outcome}
use Rattle.model.specs.Following.{leaves_within, leaves, returned_value, end_value, meets}

pub record Same (t u : Table) : Type 0 where
  pub count : t.count ≡ u.count
  pub locations : t.locations ≡ u.locations
  pub stated : t.stated ≡ u.stated
  pub initial : initial_value t ≡ initial_value u
  pub finals : (x : ℕ) → get_or t.finals x 0 ≡ get_or u.finals x 0
  pub kind : kind t ≡ kind u
  pub hart : hart t ≡ hart u
  pub location : location t ≡ location u
  pub read : (e : ℕ) → (event t e).read ≡ (event u e).read
  pub written : (e : ℕ) → (event t e).written ≡ (event u e).written
  pub operation : (e : ℕ) → (event t e).operation ≡ (event u e).operation
  pub operand : (e : ℕ) → (event t e).operand ≡ (event u e).operand

module _ {t u : Table} (s : Same t u) where
  pub reads_same : reads t ≡ reads u
  unfolding reads
  reads_same = λ i e. reading_kind (s.kind i e)

  pub writes-same : writes t ≡ writes u
  unfolding writes
  writes-same = λ i e. writing_kind (s.kind i e)

  pub memory-same : memory t ≡ memory u
  unfolding memory
  memory-same = λ i e. reads_same i e || writes-same i e

  location-same : same_location t ≡ same_location u
  unfolding same_location
  location-same = λ i a b. eqb (s.location i a) (s.location i b)

  po-same : po t ≡ po u
  unfolding po
  po-same = λ i a b. ltb a b && eqb (s.hart i a) (s.hart i b)

  pub between-same : between t ≡ between u
  unfolding between
  between-same = λ i a m b. po-same i a m && po-same i m b

  pub may-same : may_order t ≡ may_order u
  unfolding may_order
  may-same = λ i a b. po-same i a b && memory-same i a && memory-same i b

  -- rules 1, 2, 3 and 8, and what a fence.tso orders
  pub rule1-same : rule1 t ≡ rule1 u
  unfolding rule1
  rule1-same = λ i a b. writes-same i b && location-same i a b

  pub rule2-same : rule2 t ≡ rule2 u
  unfolding rule2
  rule2-same = λ i rf a b.
      reads_same i a && reads_same i b && location-same i a b
      && not (some (s.count i) (λ m. between-same i a m b && writes-same i m && location-same i m a))
      && not (eqb (from rf a) (from rf b))

  pub rule3-same : rule3 t ≡ rule3 u
  unfolding rule3
  rule3-same = λ i rf a b. (eqb (s.kind i a) amo || eqb (s.kind i a) sc) && reads_same i b && eqb (from rf b) a

  pub tso-same : tso_orders t ≡ tso_orders u
  unfolding tso_orders
  tso-same = λ i a f b. eqb (s.kind i f) fencetso && (reads_same i a || writes-same i a && writes-same i b)

  pub rule8-same : rule8 t ≡ rule8 u
  unfolding rule8 paired reserves
  rule8-same = λ i a b.
      po-same i a b && eqb (s.kind i a) lr && eqb (s.kind i b) sc
      && not (some (s.count i) (λ m. between-same i a m b && (eqb (s.kind i m) lr || eqb (s.kind i m) sc)))

  -- what an order makes each reader return
  return-same : return_of t ≡ return_of u
  unfolding return_of visible
  return-same = λ i gmo r.
      last_or (λ w. writes-same i w && location-same i w r && not (eqb w r) && (before gmo w r || po-same i w r)) initially gmo

  pub returns-same : returns t ≡ returns u
  unfolding returns return_entry
  returns-same = λ i gmo. up_to (s.count i) (λ e. cond (reads_same i e) (return-same i gmo e) nothing)

  pub order_same : is_order t ≡ is_order u
  unfolding is_order is_memory_event memory_events
  order_same = λ i gmo.
      all (λ e. ltb e (s.count i) && memory-same i e) gmo
      && all (λ e. eqb (count e gmo) 1) (keep (memory-same i) (below (s.count i)))

  pub atomicity-same : atomicity t ≡ atomicity u
  unfolding atomicity breaks_atomicity breaks_pair intrudes rule8
  atomicity-same = λ i rf gmo.
      not (some (s.count i) (λ l. some (s.count i) (λ c. rule8-same i l c && (write_is_late rf gmo l c || some (s.count i) (λ w.
      writes-same i w && location-same i w l && not (eqb (s.hart i w) (s.hart i l))
      && (eqb (from rf l) initially || before gmo (from rf l) w) && before gmo w c)))))

  -- the last write to a location
  last-same : last_write t ≡ last_write u
  last-same = λ i gmo x. last_or (λ w. writes-same i w && eqb (s.location i w) x) initially gmo

  -- the stated values, and whether an order gives them
  written_same : written_value t ≡ written_value u
  unfolding written_value
  written_same = λ i x w. cond (eqb w initially) (s.initial i x) (s.written w i)

  pub outcome-same : stated_outcome t ≡ stated_outcome u
  unfolding stated_outcome values_read breaks_value_read final_values breaks_final_value final_value
  outcome-same = λ i gmo.
      not (some (s.count i) (λ r.
      reads_same i r && not (eqb (written_same i (s.location i r) (from (returns-same i gmo) r)) (s.read r i))))
      && not (some (s.locations i) (λ x.
      bit (s.stated i) x && not (eqb (written_same i x (last-same i gmo x)) (s.finals x i))))

  -- the values that follow from an order (T-08), and so whether it makes a condition true
  within_same : (n : ℕ) → leaves_within n t ≡ leaves_within n u
  unfolding leaves_within
  within_same zero = refl
  within_same (suc n) = λ i gmo x w.
      cond (eqb w initially) (s.initial i x)
      (cond (eqb (s.operation w i) no_operation) (s.written w i)
      (applied (s.operation w i) (within_same n i gmo x (return-same i gmo w)) (s.operand w i)))

  pub returned-same : returned_value t ≡ returned_value u
  unfolding returned_value leaves
  returned-same = λ i gmo e. within_same (suc (length gmo)) i gmo (s.location i e) (from (returns-same i gmo) e)

  pub end_same : end_value t ≡ end_value u
  unfolding end_value leaves
  end_same = λ i gmo x. within_same (suc (length gmo)) i gmo x (last-same i gmo x)

  pub meets-same : (c : Condition) → meets t c ≡ meets u c
  unfolding meets
  meets-same (returning e v) = λ i gmo. eqb (returned-same i gmo e) v
  meets-same (ends x v) = λ i gmo. eqb (end_same i gmo x) v
  meets-same (negated c) = λ i gmo. not (meets-same c i gmo)
  meets-same (both l r) = λ i gmo. meets-same l i gmo && meets-same r i gmo
  meets-same (either l r) = λ i gmo. meets-same l i gmo || meets-same r i gmo
