-- The mask of the readers whose location has their stated value, as events are placed.
use Prim.Native.Nat.{ℕ, ◌<◌}
use mathlib.Core.Path.{◌≡◌, refl, sym, ap, ap₂, ◌∙◌}
use mathlib.Core.Bool.{Bool, true, false, cond, not, ◌&&◌, ◌||◌}
use mathlib.Core.List.{List, [], ◌∷◌, ◌++◌}
use lib.Bits.{bit_and, bit_or, bit_xor}
use lib.Dec.{eqb, ltb}
use Rattle.masks.proofs.BitLaws.{bit-or}
use Rattle.masks.proofs.PowerLaws.{bits-same}
use Rattle.masks.proofs.MaskOfLaws.{mask_below}
use Rattle.table.specs.declared.Table.{Table}
use Rattle.table.specs.Events.{event, location, reads, writes, same_location}
use Rattle.table.specs.Counts.{Small}
use Rattle.model.specs.Returns.{final_value}
use Rattle.placing.proofs.EntryLaws.{value-more}
use Rattle.order_facts.specs.Facts.{mask_by, here, right, good}
use Rattle.masks.proofs.SetLaws.{bit-without}

-- the choice of two values that is x
choice-is : (c : Bool) (v f x : ℕ) → eqb (cond c v f) x ≡ cond c (eqb v x) (eqb f x)
choice-is true v f x = refl
choice-is false v f x = refl

-- The value is the stated one (new) if it was there (old) and is left alone, or is written now. Tests: the event is in range
-- (n), reads (r), one writes (w) at the same location (s).
stays : (n r w s new old : Bool) →
    (n && (not r || cond (w && s) new old)) ≡ (n && (not r || old) && not (n && (w && r && s)) || n && (w && r && s && new))
stays false r w s new old = refl
stays true false true s new old = refl
stays true false false s new old = refl
stays true true true true true true = refl
stays true true true true true false = refl
stays true true true true false true = refl
stays true true true true false false = refl
stays true true true false new true = refl
stays true true true false new false = refl
stays true true false s new true = refl
stays true true false s new false = refl

-- the same of the tests of a table
good-step : (t : Table) → Small t → (p : List ℕ) (e k : ℕ) → e < t.count →
    (ltb k t.count && good t (final_value t (p ++ (e ∷ []))) k)
    ≡ (ltb k t.count && good t (final_value t p) k && not (ltb k t.count && here t e k) || ltb k t.count && right t e k)
unfolding good here right same_location
good-step t small p e k l =
    ap (λ (v : ℕ). ltb k t.count && (not (reads t k) || eqb v (event t k).read)) (value-more t small p e (location t k) l)
    ∙ ap (λ (b : Bool). ltb k t.count && (not (reads t k) || b))
    (choice-is (writes t e && same_location t e k) (event t e).written (final_value t p (location t k)) (event t k).read)
    ∙ stays (ltb k t.count) (reads t k) (writes t e) (same_location t e k) (eqb (event t e).written (event t k).read)
    (eqb (final_value t p (location t k)) (event t k).read)

-- Once e is placed: less the readers of the location that it writes, with those that state its value.
pub good_more : (t : Table) → Small t → (p : List ℕ) (e : ℕ) → e < t.count →
    mask_by t (good t (final_value t (p ++ (e ∷ []))))
    ≡ bit_or (bit_xor (mask_by t (good t (final_value t p))) (bit_and (mask_by t (good t (final_value t p))) (mask_by t (here t e))))
    (mask_by t (right t e))
unfolding mask_by
good_more t small p e l = bits-same _ _ (λ k.
    mask_below (good t (final_value t (p ++ (e ∷ [])))) t.count k ∙ step k
    ∙ sym (bit-or (bit_xor old (bit_and old (mask_by t (here t e)))) (mask_by t (right t e)) k
    ∙ ap₂ (λ (a b : Bool). a || b)
    (bit-without old (mask_by t (here t e)) k
    ∙ ap₂ (λ (a b : Bool). a && not b) (mask_below (good t (final_value t p)) t.count k) (mask_below (here t e) t.count k))
    (mask_below (right t e) t.count k)))
  where
    old : ℕ
    old = mask_by t (good t (final_value t p))

    step : (k : ℕ) → (ltb k t.count && good t (final_value t (p ++ (e ∷ []))) k)
        ≡ (ltb k t.count && good t (final_value t p) k && not (ltb k t.count && here t e k) || ltb k t.count && right t e k)
    step k = good-step t small p e k l
