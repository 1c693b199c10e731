-- The first state, the next one, and what is asked of a wrong final value, by the facts.
use Prim.Native.Nat.{ℕ, ◌^◌}
use mathlib.Core.Path.{◌≡◌, ap, ap₂, sym, ◌∙◌}
use mathlib.Core.Bool.{Bool, not, ◌&&◌, ◌||◌}
use mathlib.Core.List.{List}
use lib.Bits.{bit_or}
use lib.Dec.{eqb}
use Rattle.masks.specs.Bit.{bit}
use Rattle.masks.proofs.BelowLaws.{mask-less, mask-some}
use Rattle.order_facts.specs.Facts.{mask_by, here, right, peers, wrong}
use Rattle.fact_rows.specs.FactRows.{mask, here_row, right_row, peer_row, set_row, good_word, wrong_word}
use Rattle.order_test.specs.Testing.{Tells}
use Rattle.order_test.proofs.TellLaws.{mask_is, mask-bit}
use Rattle.states.specs.declared.State.{State}
use Rattle.states.specs.States.{ends_well, without, start, step}
use Rattle.state_test.specs.Board.{Starts, Steps}

abbrev state : ℕ → ℕ → State
state placed good = record { placed = placed; good = good }

module _ (facts : List (List ℕ)) where
  pub starts : Starts facts (state 0 (mask facts set_row good_word))
  unfolding start
  starts t f = ap (state 0) f.good

  pub steps : (s : State) (e b now : ℕ) → b ≡ 2 ^ e →
      now ≡ bit_or (without s.good (mask facts here_row e)) (mask facts right_row e) → (good : ℕ) →
      good ≡ without now (bit_or s.placed b) → Steps facts s e (state (bit_or s.placed b) good)
  unfolding step
  steps s e b now q h good k t f l =
      ap₂ state (ap (bit_or s.placed) q)
      (k ∙ ap₂ without (h ∙ ap₂ (λ (x y : ℕ). bit_or (without s.good x) y) (mask_is f here_row (here t) f.here e l)
      (mask_is f right_row (right t) f.right e l))
      (ap (bit_or s.placed) q))

  pub tell-ends : (placed e m : ℕ) (w : Bool) → m ≡ without (mask facts peer_row e) placed →
      w ≡ bit (mask facts set_row wrong_word) e → Tells facts e (λ t. ends_well t (bit placed) e) (not w || not (eqb m 0))
  unfolding ends_well mask_by
  tell-ends placed e m w h q t f l =
      ap₂ (λ (x y : Bool). not x || y) (q ∙ ap (λ (x : ℕ). bit x e) f.wrong ∙ mask-bit t (wrong t) e l)
      (ap (λ (x : ℕ). not (eqb x 0))
      (h ∙ ap (λ (x : ℕ). without x placed) (mask_is f peer_row (peers t) f.peers e l) ∙ mask-less (peers t e) t.count placed)
      ∙ sym (mask-some (λ v. peers t e v && not (bit placed v)) t.count))
