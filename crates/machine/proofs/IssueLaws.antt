-- A reader that is next issues exactly if it may be placed behind the order so far, and returns what it is settled to there.
use Prim.Native.Nat.{ℕ, ◌<◌}
use mathlib.Core.Path.{◌≡◌, refl, sym, ap, ap₂, ◌∙◌, fun_ext}
use mathlib.Core.Bool.{Bool, true, false, cond, not, ◌&&◌, ◌||◌, and-true, and-false}
use lib.Dec.{eqb, ltb}
use borrow.Author.Tests.{eqb-true, eq-eqb, ltb-true}
use Rattle.lists.specs.Below.{below}
use Rattle.lists.specs.Lists.{last_or}
use Rattle.lists.proofs.BoolLaws.{and_l, and_r, bool-ext, neither, is_false, not-either}
use Rattle.lists.proofs.SomeLaws.{some_same}
use Rattle.table.specs.declared.Table.{Table}
use Rattle.table.specs.Events.{kind, hart, location, reads, writes, memory, same_location, po, writing_kind, store, amo, sc}
use Rattle.table.proofs.ProgramOrderLaws.{po-hart}
use Rattle.model.specs.Rules.{may_order, static_ppo}
use Rattle.model.specs.Returns.{last_write}
use Rattle.placing.specs.Guards.{own, depends, within, ready, forwarder, may_forward, may_read}
use Rattle.placing.proofs.GuardLaws.{own-parts, is-own, within-at, forwards as forwarder-own}
use Rattle.pruning.proofs.SettledLaws.{source}
use Rattle.machine.specs.Machine.{State, buffered, waits, forwards, newest, unsure, may_issue, returned}
use Rattle.machine.proofs.TsoLaws.{TsoTable, static-writes}
use Rattle.machine.proofs.OrderLaws.{placed_in}
use Rattle.machine.proofs.StateLaws.{Reached, Next, Buffered, store_writes, reads-memory, writes_memory, held-is, buffered-is, issued-earlier}

module _ {t : Table} {s : State} (k : TsoTable t) (r : Reached t s) (e : ℕ) (n : Next t s e) where
  abbrev placed : ℕ → Bool
  placed = placed_in t s.gmo

  -- an earlier memory event of the hart is buffered where it isn't placed
  earlier-held : (a : ℕ) → memory t a ≡ true → po t a e ≡ true → buffered t s a ≡ not (placed a)
  earlier-held a m o = held-is t s r a m (n.down a o)

  -- e waits for no store where no steady predecessor is missing
  pub ready-is : ready t placed e ≡ not (waits t s e)
  unfolding ready within waits static_ppo may_order
  ready-is = ap not (some_same t.count _ _ (λ a l. go a (static_ppo t a e) refl))
    where
      go : (a : ℕ) (b : Bool) → static_ppo t a e ≡ b → not (not b || placed a) ≡ (buffered t s a && b)
      go a true h = sym (earlier-held a (search (and_l, and_r)) (search (and_l, and_r))) ∙ sym (and-true (buffered t s a))
      go a false h = sym (and-false (buffered t s a))

  -- what is forwarded to e: its hart's earlier writers to its location that aren't placed
  forwards-is : (w : ℕ) → forwards t s e w ≡ (own t e w && not (placed w))
  unfolding forwards
  forwards-is w = bool-ext _ _ out back
    where
      out : (buffered t s w && eqb (hart t w) (hart t e) && same_location t w e) ≡ true → (own t e w && not (placed w)) ≡ true
      out h =
          let b = buffered-is t s w (search (and_l, and_r)) in
          let o = issued-earlier t s r w e n b.issued (eqb-true (hart t w) (hart t e) (search (and_l, and_r))) in
          rw (is-own t e w (store_writes t w b.stored) (search (and_l, and_r)) o, b.away)

      back : (own t e w && not (placed w)) ≡ true → (buffered t s w && eqb (hart t w) (hart t e) && same_location t w e) ≡ true
      back h =
          let o = own-parts t e w (and_l (own t e w) _ h) in
          rw (
            earlier-held w (writes_memory t w o.0) o.2 ∙ and_r (own t e w) _ h,
            eq-eqb (hart t w) (hart t e) (po-hart t w e o.2),
          ) o.1

  newest-is : newest t s e ≡ forwarder t placed e
  unfolding newest forwarder
  newest-is = ap (λ (f : ℕ → Bool). last_or f t.count (below t.count)) (fun_ext forwards-is)

  -- a store that is forwarded to e may be so exactly if it isn't unsure
  module _ (w : ℕ) (l : w < t.count) (b : Buffered t s w) where
    is_plain : eqb (kind t w) store ≡ not (eqb (kind t w) sc)
    is_plain = go (eqb (kind t w) store) refl (eqb (kind t w) sc) refl b.stored
      where
        go : (c : Bool) → eqb (kind t w) store ≡ c → (d : Bool) → eqb (kind t w) sc ≡ d → (c || d) ≡ true → c ≡ not d
        go true p true q h = sym q ∙ ap (λ (x : ℕ). eqb x sc) (eqb-true (kind t w) store p)
        go true p false q h = refl
        go false p true q h = refl
        go false p false q h = h

    -- what it depends on is a buffered SC where it isn't placed: masks name no plain store
    needs-held : (a : ℕ) → a < t.count → depends t w a ≡ true → (buffered t s a && eqb (kind t a) sc) ≡ not (placed a)
    needs-held a j h = go (placed a) refl
      where
        named : (po t a w ≡ true) × (memory t a ≡ true)
        named = k.good.named w a l j h

        held : buffered t s a ≡ not (placed a)
        held = held-is t s r a named.1 (r.down a w b.issued named.0)

        go : (c : Bool) → placed a ≡ c → (buffered t s a && eqb (kind t a) sc) ≡ not c
        go true q = rw (held, q)
        go false q =
            let x : buffered t s a ≡ true = held ∙ ap not q in
            rw x (rw (k.plain w a l j h) at (buffered-is t s a x).stored)

    sure-is : may_forward t placed w ≡ not (unsure t s w)
    unfolding may_forward within unsure
    sure-is =
        ap₂ (λ (c d : Bool). c && not d) is_plain (some_same t.count _ _ (λ a j. go a j (depends t w a) refl))
        ∙ neither (eqb (kind t w) sc) _
      where
        go : (a : ℕ) → a < t.count → (c : Bool) → depends t w a ≡ c →
            not (not c || placed a) ≡ (buffered t s a && eqb (kind t a) sc && c)
        go a j true h = sym (needs-held a j h) ∙ sym (and-true (buffered t s a && eqb (kind t a) sc))
        go a j false h = sym (and-false (buffered t s a && eqb (kind t a) sc))

  -- The reader e is accepted exactly if it may be placed now.
  pub issue-is : reads t e ≡ true → may_issue t s e ≡ (ready t placed e && may_read t placed e)
  unfolding may_issue may_read forwards
  issue-is h = rw (h, ready-is) (ap (λ (b : Bool). not (waits t s e) && b) (go (ltb (newest t s e) t.count) refl))
    where
      f : ℕ
      f = forwarder t placed e

      go : (b : Bool) → ltb (newest t s e) t.count ≡ b →
          not (b && unsure t s (newest t s e)) ≡ (not (ltb f t.count) || may_forward t placed f)
      go true q =
          let i : ltb f t.count ≡ true = ap (λ (x : ℕ). ltb x t.count) (sym newest-is) ∙ q in
          let o = forwarder-own t placed e i in
          let w = own-parts t e f o.0 in
          let held = earlier-held f (writes_memory t f w.0) w.2 ∙ ap not o.1 in
          rw (i, newest-is) (sym (sure-is f (ltb-true f t.count i) (buffered-is t s f held)))
      go false q =
          let i : ltb f t.count ≡ false = ap (λ (x : ℕ). ltb x t.count) (sym newest-is) ∙ q in
          rw i

  -- and then returns from what it is settled to
  pub returned-is : reads t e ≡ true → ready t placed e ≡ true → returned t s e ≡ source t s.gmo e
  unfolding returned ready may_order writes
  returned-is h steady = rw newest-is (go (eqb (kind t e) amo) refl)
    where
      f : ℕ
      f = forwarder t placed e

      memory-now : ℕ
      memory-now = last_write t s.gmo (location t e)

      -- to an AMO nothing is forwarded: rule 6
      none : eqb (kind t e) amo ≡ true → ltb f t.count ≡ false
      none a = is_false _ (λ i.
          let o = forwarder-own t placed e i in
          let w = own-parts t e f o.0 in
          not-either _ (within-at t placed (λ x. static_ppo t x e) steady f (ltb-true f t.count i)
          (static-writes k f e (rw (w.2, writes_memory t f w.0) (reads-memory t e h)) (ap writing_kind (eqb-true (kind t e) amo a))))
          o.1)

      go : (b : Bool) → eqb (kind t e) amo ≡ b →
          cond (ltb f t.count && not b) f memory-now ≡ cond (ltb f t.count) f memory-now
      go true a = rw (none a)
      go false a = ap (λ (b : Bool). cond b f memory-now) (and-true (ltb f t.count))
