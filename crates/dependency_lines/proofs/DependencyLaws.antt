-- Line 9 holds of no event that depends on none.
use Prim.Native.Nat.{ℕ, ◌<◌}
use mathlib.Core.Path.{◌≡◌, sym, ap, ◌∙◌}
use mathlib.Core.Bool.{Bool, true, false, ◌&&◌, ◌||◌, not}
use lib.Bits.{bit_or}
use lib.Dec.{eqb}
use borrow.Author.Tests.{eqb-true}
use Rattle.lists.proofs.BoolLaws.{and_left, and_right, and_l, and_r}
use Rattle.lists.specs.Below.{some}
use Rattle.lists.proofs.SomeLaws.{some-none, some_same}
use Rattle.masks.specs.Bit.{bit}
use Rattle.masks.proofs.BitLaws.{bit-or, bit-zero}
use Rattle.table.specs.declared.Table.{Table}
use Rattle.table.specs.Events.{capacity, event, kind, po, writes, memory, fencing_kind, store}
use Rattle.refusals.specs.TableLines.{names, names_wrongly, data_of_non_writer, lacks_control, line9}

names-none : (t : Table) (k m : ℕ) → (event t k).addr ≡ 0 → (event t k).«data» ≡ 0 → (event t k).ctrl ≡ 0 → names t k m ≡ false
unfolding names
names-none t k m ea ed ec = rw (ea, ed, ec, bit-zero m)

pub lacks-none : (t : Table) (k j : ℕ) → (event t k).ctrl ≡ 0 → lacks_control t k j ≡ false
unfolding lacks_control
lacks-none t k j ec =
    and_right (po t k j && memory t j) _
    (some-none capacity (λ m. bit (event t k).ctrl m && not (bit (event t j).ctrl m))
    (λ m l. sym (and_left _ _ (ap (λ (c : ℕ). bit c m) ec ∙ bit-zero m))))

-- the events that one of k's three masks names, as one mask; what makes one of them wrong
named-mask : (t : Table) (k m : ℕ) → names t k m ≡ bit (bit_or (bit_or (event t k).addr (event t k).«data») (event t k).ctrl) m
unfolding names
named-mask t k m =
    sym (bit-or (bit_or (event t k).addr (event t k).«data») (event t k).ctrl m
    ∙ ap (λ (b : Bool). b || bit (event t k).ctrl m) (bit-or (event t k).addr (event t k).«data» m))

abbrev pub wrongly : Table → ℕ → ℕ → Bool
wrongly t k m = not (po t m k) || eqb (kind t m) store || fencing_kind (kind t m)

pub wrong-named : (t : Table) (k : ℕ) → some capacity (names_wrongly t k)
    ≡ some capacity (λ m. bit (bit_or (bit_or (event t k).addr (event t k).«data») (event t k).ctrl) m && wrongly t k m)
unfolding names_wrongly
wrong-named t k =
    some_same capacity (names_wrongly t k) _ (λ m l. ap (λ (b : Bool). b && wrongly t k m) (named-mask t k m))

-- none of k's three masks names an event
abbrev pub depends_on_none : Table → ℕ → Bool
depends_on_none t k = eqb (event t k).addr 0 && eqb (event t k).«data» 0 && eqb (event t k).ctrl 0

wrong-none : (t : Table) (k : ℕ) → (event t k).addr ≡ 0 → (event t k).«data» ≡ 0 → (event t k).ctrl ≡ 0 → line9 t k ≡ false
unfolding line9 data_of_non_writer names_wrongly
wrong-none t k ea ed ec =
    rw (
      some-none capacity (names_wrongly t k) named,
      and_right (not (writes t k)) (not (eqb (event t k).«data» 0)) nothing,
      some-none t.count (lacks_control t k) (λ j l. lacks-none t k j ec),
    )
  where
    named : (m : ℕ) → m < capacity → names_wrongly t k m ≡ false
    named m l = sym (and_left _ _ (names-none t k m ea ed ec))

    nothing : not (eqb (event t k).«data» 0) ≡ false
    nothing = ap (λ (d : ℕ). not (eqb d 0)) ed

pub none-wrong : (t : Table) (k : ℕ) → depends_on_none t k ≡ true → line9 t k ≡ false
none-wrong t k h =
    let a = eqb (event t k).addr 0 in
    let d = eqb (event t k).«data» 0 in
    let c = eqb (event t k).ctrl 0 in
    let ad : (a && d) ≡ true = and_l (a && d) c h in
    wrong-none t k (eqb-true _ _ (and_l a d ad)) (eqb-true _ _ (and_r a d ad)) (eqb-true _ _ (and_r (a && d) c h))
