-- The state that a list of placed events leads to.
use Prim.Native.Nat.{ℕ, ◌<◌, ◌^◌}
use mathlib.Core.Path.{◌≡◌, refl, sym, ap, ap₂, ◌∙◌, fun_ext}
use mathlib.Core.Bool.{Bool, true, false, not, ◌&&◌, ◌||◌, and-true}
use mathlib.Core.List.{List, [], ◌∷◌, ◌++◌}
use lib.Bits.{bit_or, or_zero_l}
use lib.Dec.{ltb}
use Rattle.lists.specs.Lists.{has}
use Rattle.lists.proofs.BoolLaws.{and_l}
use Rattle.masks.specs.Bit.{bit}
use Rattle.masks.specs.MaskOf.{mask_of}
use Rattle.masks.proofs.BitLaws.{bit-or, bit-zero}
use Rattle.masks.proofs.PowerLaws.{bits-same}
use Rattle.masks.proofs.SetLaws.{bit-without}
use Rattle.masks.proofs.MaskOfLaws.{mask-has}
use Rattle.masks.proofs.UnionLaws.{mask_append}
use Rattle.table.specs.declared.Table.{Table}
use Rattle.table.specs.Events.{memory}
use Rattle.model.specs.Returns.{initial_value, written_value, final_value}
use Rattle.model.specs.Witness.{is_memory_event}
use Rattle.placing.specs.Guards.{ready, may_place, reads_stated}
use Rattle.placing.specs.GoodTable.{GoodTable}
use Rattle.order_facts.specs.Facts.{mask_by, here, right, good, reads_good}
use Rattle.order_facts.proofs.GoodLaws.{good_more}
use Rattle.order_facts.proofs.ReadLaws.{stated-good}
use Rattle.order_facts.proofs.RowLaws.{bits_of}
use Rattle.states.specs.declared.State.{State}
use Rattle.states.specs.States.{ends_well, accepts, without, start, step}

abbrev pub state_of : Table → List ℕ → State
state_of t p = record { placed = mask_of p; good = without (mask_by t (good t (final_value t p))) (mask_of p) }

-- states with the same masks
state-same : {a b c d : ℕ} → a ≡ b → c ≡ d → ◌≡◌ {A = State} (record { placed = a; good = c }) (record { placed = b; good = d })
state-same p q = ap₂ (λ (x y : ℕ). record { placed = x; good = y }) p q

pub without-none : (m : ℕ) → without m 0 ≡ m
without-none m = bits-same _ _ (λ k. bit-without m 0 k ∙ ap (λ (b : Bool). bit m k && not b) (bit-zero k) ∙ and-true (bit m k))

pub start-state : (t : Table) → start t ≡ state_of t []
unfolding start mask_of final_value written_value
start-state t = state-same refl (sym (without-none (mask_by t (good t (initial_value t)))))

-- what was taken away before need not be, if it is taken away at the end
without-again : (g m h r e : ℕ) →
    without (bit_or (without (without g m) h) r) (bit_or m e) ≡ without (bit_or (without g h) r) (bit_or m e)
without-again g m h r e = bits-same _ _ (λ k.
    rw (
      bit-without (bit_or (without (without g m) h) r) (bit_or m e) k,
      bit-without (bit_or (without g h) r) (bit_or m e) k,
      bit-or (without (without g m) h) r k,
      bit-or (without g h) r k,
      bit-without (without g m) h k,
      bit-without g m k,
      bit-without g h k,
      bit-or m e k,
    )
    (once (bit g k) (bit m k) (bit h k) (bit r k) (bit e k)))
  where
    once : (g m h r e : Bool) → ((g && not m && not h || r) && not (m || e)) ≡ ((g && not h || r) && not (m || e))
    once true true true true e = refl
    once true true true false e = refl
    once true true false true e = refl
    once true true false false e = refl
    once true false h r e = refl
    once false m h r e = refl

-- one more entry is one more bit
pub mask-more : (p : List ℕ) (e : ℕ) → mask_of (p ++ (e ∷ [])) ≡ bit_or (mask_of p) (2 ^ e)
unfolding mask_of
mask-more p e = mask_append p (e ∷ []) ∙ ap (bit_or (mask_of p)) (or_zero_l (2 ^ e))

pub step-state : (t : Table) → GoodTable t → (p : List ℕ) (e : ℕ) → e < t.count →
    step t (state_of t p) e ≡ state_of t (p ++ (e ∷ []))
unfolding step
step-state t fit p e l =
    state-same (sym (mask-more p e))
    (without-again (mask_by t (good t (final_value t p))) (mask_of p) (mask_by t (here t e)) (mask_by t (right t e)) (2 ^ e)
    ∙ ap₂ without (sym (good_more t fit.small p e l)) (sym (mask-more p e)))

-- of the good only the event itself is asked
good-asked : (t : Table) (placed f g : ℕ → Bool) (e : ℕ) → f e ≡ g e → reads_good t placed f e ≡ reads_good t placed g e
unfolding reads_good
good-asked t placed f g e h = rw h

-- e may be placed behind the list p
abbrev pub follows : Table → List ℕ → ℕ → Bool
follows t p e =
    is_memory_event t e && not (has e p) && ready t (λ a. has a p) e && may_place t (λ a. has a p) e
    && reads_stated t (λ a. has a p) (final_value t p) e && ends_well t (λ a. has a p) e

pub accepts-state : (t : Table) (p : List ℕ) (e : ℕ) → accepts t (state_of t p) e ≡ follows t p e
unfolding accepts is_memory_event
accepts-state t p e =
    ap (λ (f : ℕ → Bool). is_memory_event t e && not (f e) && ready t f e && may_place t f e
    && reads_good t f (bit (state_of t p).good) e && ends_well t f e) (fun_ext (mask-has p))
    ∙ go (is_memory_event t e) refl (has e p) refl
  where
    placed : ℕ → Bool
    placed a = has a p

    now : ℕ → Bool
    now = bit (state_of t p).good

    good-now : is_memory_event t e ≡ true → has e p ≡ false → now e ≡ good t (final_value t p) e
    good-now m h =
        bit-without (mask_by t (good t (final_value t p))) (mask_of p) e
        ∙ rw (bits_of t (good t (final_value t p)) e, mask-has p e, h, and_l (ltb e t.count) (memory t e) m)
        (and-true (good t (final_value t p) e))

    go : (b : Bool) → is_memory_event t e ≡ b → (c : Bool) → has e p ≡ c →
        (b && not c && ready t placed e && may_place t placed e && reads_good t placed now e && ends_well t placed e)
        ≡ (b && not c && ready t placed e && may_place t placed e && reads_stated t placed (final_value t p) e && ends_well t placed e)
    go false m c h = refl
    go true m true h = refl
    go true m false h =
        ap (λ (b : Bool). ready t placed e && may_place t placed e && b && ends_well t placed e)
        (good-asked t placed now (good t (final_value t p)) e (good-now m h) ∙ sym (stated-good t placed (final_value t p) e))
