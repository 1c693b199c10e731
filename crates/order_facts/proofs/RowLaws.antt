-- Each row by sets of events: readers, writers, those of a location, those of a hart that are earlier or later.
use Prim.Native.Nat.{ℕ, suc, ◌^◌, ◌<◌}
use mathlib.Core.Path.{◌≡◌, refl, sym, ap, ap₂, ◌∙◌}
use mathlib.Core.Bool.{Bool, true, false, cond, not, ◌&&◌, ◌||◌, and_assoc, and-false}
use lib.Bits.{bit_and, bit_or, bit_xor}
use lib.Dec.{eqb, ltb}
use borrow.Author.Tests.{lt-ltb, ltb-true, eqb-true}
use Rattle.lists.specs.Below.{some}
use Rattle.lists.proofs.BoolLaws.{eqb_comm}
use Rattle.masks.specs.Bit.{bit}
use Rattle.masks.specs.Parts.{from, under}
use Rattle.masks.proofs.BitLaws.{bit-and, bit-or, bit-pow}
use Rattle.masks.proofs.PowerLaws.{bits-same, bit_high}
use Rattle.masks.proofs.MaskOfLaws.{mask_below}
use Rattle.masks.proofs.GatherLaws.{mask-none}
use Rattle.masks.proofs.SetLaws.{bit-without}
use Rattle.masks.proofs.PartLaws.{bit-under}
use Rattle.table.specs.declared.Table.{Table}
use Rattle.table.specs.Events.{event, kind, hart, location, reads, writes, same_location, po, store}
use Rattle.table.specs.Annotations.{address_depends, data_depends}
use Rattle.placing.specs.Guards.{own, depends}
use Rattle.order_facts.specs.Facts.{mask_by, own_writer, needed, opens, guards, here, right, peers}

-- a test of three at once
and-spread : (n a b : Bool) → (n && (a && b)) ≡ ((n && a) && (n && b))
and-spread true a b = refl
and-spread false a b = refl

and-or : (a b c : Bool) → (a && (b || c)) ≡ (a && b || a && c)
and-or true b c = refl
and-or false b c = refl

regroup : (a b c d : Bool) → (a && b && c && d) ≡ (a && (b && c && d))
regroup true b c d = refl
regroup false b c d = refl

module _ (t : Table) where
  abbrev n : ℕ
  n = t.count

  -- the bits of a mask of events
  pub bits_of : (f : ℕ → Bool) (k : ℕ) → bit (mask_by t f) k ≡ (ltb k n && f k)
  unfolding mask_by
  bits_of f k = mask_below f n k

  -- tests that agree on the events
  pub mask-same : (f g : ℕ → Bool) → ((k : ℕ) → k < n → f k ≡ g k) → mask_by t f ≡ mask_by t g
  mask-same f g h = bits-same _ _ (λ k. bits_of f k ∙ go k (ltb k n) refl ∙ sym (bits_of g k))
    where
      go : (k : ℕ) (b : Bool) → ltb k n ≡ b → (b && f k) ≡ (b && g k)
      go k true q = h k (ltb-true k n q)
      go k false q = refl

  -- a test of two
  pub mask-both : (f g : ℕ → Bool) → mask_by t (λ k. f k && g k) ≡ bit_and (mask_by t f) (mask_by t g)
  mask-both f g = bits-same _ _ (λ k.
      bits_of (λ k. f k && g k) k ∙ and-spread (ltb k n) (f k) (g k)
      ∙ ap₂ (λ (a b : Bool). a && b) (sym (bits_of f k)) (sym (bits_of g k)) ∙ sym (bit-and (mask_by t f) (mask_by t g) k))

  -- a test that is the same of all events
  pub mask-if : (b : Bool) (f : ℕ → Bool) → mask_by t (λ k. b && f k) ≡ cond b (mask_by t f) 0
  unfolding mask_by
  mask-if true f = refl
  mask-if false f = mask-none (λ k. false) n (λ k. refl)

  -- the events of e's hart that are earlier, and those that are later
  abbrev pub hart_of : ℕ → ℕ
  hart_of e = mask_by t (λ k. eqb (hart t k) (hart t e))

  pub earlier-set : (e : ℕ) → mask_by t (λ k. po t k e) ≡ under e (hart_of e)
  unfolding po
  earlier-set e = bits-same _ _ (λ k.
      bits_of (λ k. po t k e) k ∙ swap (ltb k n) (ltb k e) (eqb (hart t k) (hart t e))
      ∙ ap (λ (b : Bool). ltb k e && b) (sym (bits_of (λ k. eqb (hart t k) (hart t e)) k)) ∙ sym (bit-under e (hart_of e) k))
    where
      swap : (a b c : Bool) → (a && (b && c)) ≡ (b && (a && c))
      swap true b c = refl
      swap false true c = refl
      swap false false c = refl

  pub later-set : (e : ℕ) → mask_by t (λ k. po t e k) ≡ from (suc e) (hart_of e)
  unfolding po
  later-set e = bits-same _ _ (λ k.
      bits_of (λ k. po t e k) k ∙ ap (λ (b : Bool). ltb k n && (ltb e k && b)) (eqb_comm (hart t e) (hart t k))
      ∙ swap (ltb k n) (ltb e k) (eqb (hart t k) (hart t e))
      ∙ ap (λ (b : Bool). ltb e k && b) (sym (bits_of (λ k. eqb (hart t k) (hart t e)) k)) ∙ sym (bit_high (hart_of e) (suc e) k))
    where
      swap : (a b c : Bool) → (a && (b && c)) ≡ (b && (a && c))
      swap true b c = refl
      swap false true c = refl
      swap false false c = refl

  -- the events at e's location
  abbrev pub place_of : ℕ → ℕ
  place_of e = mask_by t (λ k. same_location t k e)

  -- own: of a reader the writers at its location that are earlier
  pub own_row : (e : ℕ) → mask_by t (own_writer t e)
      ≡ cond (reads t e) (bit_and (bit_and (mask_by t (writes t)) (place_of e)) (under e (hart_of e))) 0
  unfolding own_writer own
  own_row e =
      mask-if (reads t e) (own t e)
      ∙ ap (λ (m : ℕ). cond (reads t e) m 0)
      (mask-both (λ w. writes t w && same_location t w e) (λ w. po t w e)
      ∙ ap₂ bit_and (mask-both (writes t) (λ w. same_location t w e)) (earlier-set e))

  place-turned : (e : ℕ) → mask_by t (same_location t e) ≡ place_of e
  unfolding same_location
  place-turned e = mask-same (same_location t e) (λ k. same_location t k e) (λ k l. eqb_comm (location t e) (location t k))

  -- here: of a writer the readers at its location
  pub here-row : (e : ℕ) → mask_by t (here t e) ≡ cond (writes t e) (bit_and (mask_by t (reads t)) (place_of e)) 0
  unfolding here
  here-row e =
      mask-same (here t e) (λ r. writes t e && (reads t r && same_location t e r)) (λ k l. and_assoc (writes t e) (reads t k) _)
      ∙ mask-if (writes t e) (λ r. reads t r && same_location t e r)
      ∙ ap (λ (m : ℕ). cond (writes t e) m 0)
      (mask-both (reads t) (same_location t e) ∙ ap (bit_and (mask_by t (reads t))) (place-turned e))

  -- right: of those the ones that state its value
  pub right-row : (e m : ℕ) → ((k : ℕ) → bit m k ≡ (bit (mask_by t (here t e)) k && eqb (event t e).written (event t k).read)) →
      m ≡ mask_by t (right t e)
  unfolding right
  right-row e m h = bits-same m _ (λ k.
      h k ∙ ap (λ (b : Bool). b && eqb (event t e).written (event t k).read) (bits_of (here t e) k)
      ∙ and_assoc (ltb k n) (here t e k) _ ∙ sym (bits_of (right t e) k))

  -- a test of one and not of another
  pub mask-but : (f g : ℕ → Bool) →
      mask_by t (λ k. f k && not (g k)) ≡ bit_xor (mask_by t f) (bit_and (mask_by t f) (mask_by t g))
  mask-but f g = bits-same _ _ (λ k.
      bits_of (λ k. f k && not (g k)) k ∙ spread (ltb k n) (f k) (g k)
      ∙ ap₂ (λ (a b : Bool). a && not b) (sym (bits_of f k)) (sym (bits_of g k)) ∙ sym (bit-without (mask_by t f) (mask_by t g) k))
    where
      spread : (a b c : Bool) → (a && (b && not c)) ≡ ((a && b) && not (a && c))
      spread true b c = refl
      spread false b c = refl

  -- the mask of one event
  pub mask_one : (e : ℕ) → e < n → mask_by t (λ k. eqb k e) ≡ 2 ^ e
  mask_one e l = bits-same _ _ (λ k. bits_of (λ k. eqb k e) k ∙ go k (eqb k e) refl ∙ eqb_comm k e ∙ sym (bit-pow e k))
    where
      go : (k : ℕ) (b : Bool) → eqb k e ≡ b → (ltb k n && b) ≡ b
      go k true q = rw (eqb-true k e q, lt-ltb e n l)
      go k false q = and-false (ltb k n)

  -- peers: of a writer the other writers at its location
  pub peer-row : (e others : ℕ) → e < n → others ≡ bit_and (mask_by t (writes t)) (place_of e) →
      mask_by t (peers t e) ≡ cond (writes t e) (bit_xor others (bit_and others (2 ^ e))) 0
  unfolding peers
  peer-row e others l q =
      mask-same (peers t e) (λ v. writes t e && (to v && not (eqb v e)))
      (λ k i. regroup (writes t e) (writes t k) (same_location t k e) (not (eqb k e)))
      ∙ mask-if (writes t e) (λ v. to v && not (eqb v e))
      ∙ ap (λ (m : ℕ). cond (writes t e) m 0)
      (mask-but to (λ v. eqb v e)
      ∙ ap₂ (λ (a b : ℕ). bit_xor a (bit_and a b)) (mask-both (writes t) (λ v. same_location t v e) ∙ sym q) (mask_one e l))
    where
      to : ℕ → Bool
      to v = writes t v && same_location t v e

  -- guards: of a writer those at its location, of other harts, that have a window
  pub guard-row : (e windows : ℕ) → windows ≡ mask_by t (λ v. some n (opens t v)) →
      mask_by t (guards t e) ≡ cond (writes t e) (bit_and (bit_xor (place_of e) (bit_and (place_of e) (hart_of e))) windows) 0
  unfolding guards
  guard-row e windows q =
      mask-same (guards t e) (λ v. writes t e && (same_location t e v && not (eqb (hart t e) (hart t v)) && some n (opens t v)))
      (λ k i. regroup (writes t e) (same_location t e k) (not (eqb (hart t e) (hart t k))) (some n (opens t k)))
      ∙ mask-if (writes t e) (λ v. same_location t e v && not (eqb (hart t e) (hart t v)) && some n (opens t v))
      ∙ ap (λ (m : ℕ). cond (writes t e) m 0)
      (mask-both (λ v. same_location t e v && not (eqb (hart t e) (hart t v))) (λ v. some n (opens t v))
      ∙ ap₂ bit_and
      (mask-but (same_location t e) (λ v. eqb (hart t e) (hart t v))
      ∙ ap₂ (λ (a b : ℕ). bit_xor a (bit_and a b)) (place-turned e)
      (mask-same (λ v. eqb (hart t e) (hart t v)) (λ v. eqb (hart t v) (hart t e)) (λ k i. eqb_comm (hart t e) (hart t k))))
      (sym q))

  -- needs: what its address or data depends on, and itself if it is no plain store
  pub needs-row : (e : ℕ) → e < n → mask_by t (needed t e)
      ≡ bit_or (under n (bit_or (event t e).addr (event t e).«data»)) (cond (eqb (kind t e) store) 0 (2 ^ e))
  unfolding needed depends address_depends data_depends
  needs-row e l = bits-same _ _ (λ k.
      bits_of (needed t e) k ∙ and-or (ltb k n) (depends t e k) (not (eqb (kind t e) store) && eqb k e)
      ∙ ap₂ (λ (a b : Bool). a || b) (first k) (second k) ∙ sym (bit-or (under n named) itself k))
    where
      named : ℕ
      named = bit_or (event t e).addr (event t e).«data»

      itself : ℕ
      itself = cond (eqb (kind t e) store) 0 (2 ^ e)

      first : (k : ℕ) → (ltb k n && depends t e k) ≡ bit (under n named) k
      first k =
          ap (λ (b : Bool). ltb k n && b) (sym (bit-or (event t e).addr (event t e).«data» k)) ∙ sym (bit-under n named k)

      second : (k : ℕ) → (ltb k n && (not (eqb (kind t e) store) && eqb k e)) ≡ bit itself k
      second k =
          sym (bits_of (λ a. not (eqb (kind t e) store) && eqb a e) k)
          ∙ ap (λ (m : ℕ). bit m k)
          (mask-if (not (eqb (kind t e) store)) (λ a. eqb a e) ∙ turned (eqb (kind t e) store)
          ∙ ap (cond (eqb (kind t e) store) 0) (mask_one e l))
        where
          turned : (b : Bool) → cond (not b) (mask_by t (λ a. eqb a e)) 0 ≡ cond b 0 (mask_by t (λ a. eqb a e))
          turned true = refl
          turned false = refl
