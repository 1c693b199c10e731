-- The values that follow from an order have room in 16 bits.
use Prim.Native.Nat.{ℕ, zero, suc, ◌+◌, ◌%◌, ◌^◌, ◌<◌}
use native.Mathlib.Omega.{arith}
use mathlib.Core.Path.{◌≡◌, sym, subst}
use mathlib.Core.Bool.{Bool, true, false, cond, ◌&&◌, ◌||◌, xor}
use mathlib.Core.List.{List}
use mathlib.Core.Logic.{◌⊎◌, inl, inr, ⊎_elim}
use lib.ListN.{length}
use lib.Dec.{eqb, ltb}
use borrow.Author.Tests.{ltb-true}
use Rattle.lists.specs.Lists.{has}
use Rattle.lists.proofs.ListLaws.{all-has}
use Rattle.lists.proofs.LatestLaws.{last-either}
use Rattle.masks.specs.Bit.{bit}
use Rattle.masks.proofs.MaskOfLaws.{mask-below-lt}
use Rattle.operation.specs.Operation.{no_operation, amoadd, amoand, amoor, amoxor, amomaxu, amominu, width, bitwise}
use Rattle.operation.specs.Operation.{anded, ored, xored, larger, smaller, applied}
use Rattle.table.specs.declared.Table.{Table}
use Rattle.table.specs.Events.{event, location, reads, writes}
use Rattle.model.specs.Rules.{initially}
use Rattle.model.specs.Returns.{visible, return_of, last_write}
use Rattle.model.specs.Following.{leaves_within, leaves, returned_value, end_value}
use Rattle.model.specs.Witness.{is_order}
use Rattle.placing.proofs.FollowingLaws.{returned-is}
use Rattle.fact_rows.specs.FactRows.{Facts}
use Rattle.fact_rows.specs.ValueRows.{Values}
use Rattle.order_values.proofs.WordLaws.{order-events}

-- one of two values
pub either-narrow : (b : Bool) (x y : ℕ) → x < 2 ^ 16 → y < 2 ^ 16 → cond b x y < 2 ^ 16
either-narrow true x y h k = h
either-narrow false x y h k = k

-- what an operation gives
pub applied-narrow : (operation value operand : ℕ) → value < 2 ^ 16 → operand < 2 ^ 8 → applied operation value operand < 2 ^ 16
unfolding applied anded ored xored larger smaller
applied-narrow operation value operand v o =
    let sum : (value + operand) % 65536 < 2 ^ 16 = omega arith in
    let wide : operand < 2 ^ 16 = omega arith in
    let none : 0 < 2 ^ 16 = omega arith in
    either-narrow (eqb operation amoadd) _ _ sum
    (either-narrow (eqb operation amoand) _ _ (bits (λ k. bit value k && bit operand k))
    (either-narrow (eqb operation amoor) _ _ (bits (λ k. bit value k || bit operand k))
    (either-narrow (eqb operation amoxor) _ _ (bits (λ k. xor (bit value k) (bit operand k)))
    (either-narrow (eqb operation amomaxu) _ _ (either-narrow (ltb value operand) _ _ wide v)
    (either-narrow (eqb operation amominu) _ _ (either-narrow (ltb operand value) _ _ wide v) none)))))
  where
    bits : (f : ℕ → Bool) → bitwise f < 2 ^ 16
    bits f = mask-below-lt f width width (omega arith)

-- An order of a table that has these facts.
module _ {t : Table} {facts : List (List ℕ)} (f : Facts t facts) (v : Values t facts) (gmo : List ℕ)
    (o : is_order t gmo ≡ true) where
  -- the initial write, or an event
  abbrev Write : ℕ → Type 0
  Write w = (w ≡ initially) ⊎ (w < t.count)

  -- the last entry that passes is one
  last-write : (p : ℕ → Bool) (w : ℕ) → (w ≡ initially) ⊎ ((has w gmo ≡ true) × (p w ≡ true)) → Write w
  last-write p w h =
      ⊎_elim inl
      (λ (q : (has w gmo ≡ true) × (p w ≡ true)).
      inr (ltb-true w t.count (all-has (λ e. ltb e t.count) gmo w (order-events t gmo o) q.0))) h

  -- what a write leaves
  within-narrow : (x : ℕ) → x < t.locations → (n w : ℕ) → Write w → leaves_within n t gmo x w < 2 ^ 16
  unfolding leaves_within return_of
  within-narrow x l zero w h = omega arith
  within-narrow x l (suc n) w (inl q) =
      subst (λ (y : ℕ). leaves_within (suc n) t gmo x y < 2 ^ 16) (sym q) (v.narrow.initial x l)
  within-narrow x l (suc n) w (inr q) =
      either-narrow (eqb w initially) _ _ (v.narrow.initial x l)
      (either-narrow (eqb (event t w).operation no_operation) _ _ (v.narrow.written w q)
      (applied-narrow (event t w).operation _ (event t w).operand
      (within-narrow x l n (return_of t gmo w) (last-write (visible t gmo w) _ (last-either (visible t gmo w) initially gmo)))
      (v.narrow.operand w q)))

  leaves-narrow : (x : ℕ) → x < t.locations → (w : ℕ) → Write w → leaves t gmo x w < 2 ^ 16
  unfolding leaves
  leaves-narrow x l w h = within-narrow x l (suc (length gmo)) w h

  -- what a reader returns
  pub returned-narrow : (e : ℕ) → e < t.count → reads t e ≡ true → returned_value t gmo e < 2 ^ 16
  unfolding return_of
  returned-narrow e l h =
      subst (λ (y : ℕ). y < 2 ^ 16) (sym (returned-is t gmo e l h))
      (leaves-narrow (location t e) (f.table.located e l) (return_of t gmo e)
      (last-write (visible t gmo e) _ (last-either (visible t gmo e) initially gmo)))

  -- the value of a location at the end
  pub end-narrow : (x : ℕ) → x < t.locations → end_value t gmo x < 2 ^ 16
  unfolding end_value
  end-narrow x l =
      let p : ℕ → Bool = λ w. writes t w && eqb (location t w) x in
      leaves-narrow x l (last_write t gmo x) (last-write p _ (last-either p initially gmo))
