-- What is asked of an event that may be placed next, by masks.
use Prim.Native.Nat.{ℕ, ◌^◌, ◌<◌}
use native.Mathlib.Omega.{arith}
use mathlib.Core.Path.{◌≡◌, refl, sym, ap, ◌∙◌}
use mathlib.Core.Bool.{Bool, true, false, cond, not, ◌&&◌, and-true, and-false}
use mathlib.Core.List.{List}
use lib.ListN.{get_or}
use lib.Bits.{bit_and, bit_or, bit_xor}
use lib.Count.{count_trailing_zeros}
use lib.Dec.{eqb}
use borrow.Author.Tests.{ltb-true}
use Rattle.lists.proofs.BoolLaws.{and_l}
use Rattle.lists.proofs.PaddedLaws.{padded-at}
use Rattle.masks.specs.Bit.{bit}
use Rattle.masks.proofs.MaskOfLaws.{mask_below}
use Rattle.masks.proofs.SetLaws.{bit-without}
use Rattle.masks.proofs.PickLaws.{Picked, pick-start, pick_more, pick_end}
use Rattle.table.specs.declared.Table.{Table}
use Rattle.table.specs.Events.{capacity, reads, memory, memory_mask, memory_events}
use Rattle.model.specs.Rules.{static_ppo}
use Rattle.model.specs.Witness.{is_memory_event}
use Rattle.placing.specs.Guards.{ready, may_place}
use Rattle.order_facts.specs.Facts.{mask_by, reads_good}
use Rattle.order_facts.proofs.ReadLaws.{within-mask}
use Rattle.fact_rows.specs.FactRows.{mask}
use Rattle.successors.specs.CleanMasks.{slots}
use Rattle.precedence.specs.Precedence.{predecessor_mask, predecessor_masks}
use Rattle.order_test.specs.Testing.{Tells, returns_good}
use Rattle.order_test.proofs.TellLaws.{mask-bit}
use Rattle.states.specs.declared.State.{State}
use Rattle.states.specs.States.{ends_well, accepts, without}
use Rattle.state_test.specs.Board.{Board, SaysOf, Accepted, before_row, kind_row, memory_word, readers_word}
use Rattle.state_test.proofs.RestLaws.{Rest, rest-start, rest-lowest, rest_more}

module _ (facts ties : List (List ℕ)) (s : State) where
  abbrev placed : ℕ
  placed = s.placed

  -- what is asked of a memory event that isn't placed
  abbrev pub follows : ℕ → Table → Bool
  follows e t =
      ready t (bit placed) e && may_place t (bit placed) e && reads_good t (bit placed) (bit s.good) e && ends_well t (bit placed) e

  module _ (e : ℕ) where
    -- the value that e returns is asked of readers
    pub reads-asked : (x r : Bool) → x ≡ bit (mask ties kind_row readers_word) e → x ≡ true →
        Tells facts e (λ t. returns_good t placed s.good e) r →
        SaysOf facts ties e (λ t. reads_good t (bit placed) (bit s.good) e) r
    reads-asked x r q h k t f l =
        k t f.known l
        ∙ ap (λ (b : Bool). cond b (reads_good t (bit placed) (bit s.good) e) (bit s.good e))
        (sym (q ∙ ap (λ (m : ℕ). bit m e) f.readers ∙ mask-bit t (reads t) e l) ∙ h)

    pub reads-passed : (x : Bool) → x ≡ bit (mask ties kind_row readers_word) e → x ≡ false →
        SaysOf facts ties e (λ t. reads_good t (bit placed) (bit s.good) e) true
    unfolding reads_good
    reads-passed x q h t f l = rw (sym (q ∙ ap (λ (m : ℕ). bit m e) f.readers ∙ mask-bit t (reads t) e l) ∙ h) refl

    -- its predecessors are placed
    says-ready : (x : Bool) → x ≡ eqb (bit_and (mask ties before_row e) placed) (mask ties before_row e) →
        SaysOf facts ties e (λ t. ready t (bit placed) e) x
    unfolding ready predecessor_masks predecessor_mask mask_by
    says-ready x q t f l =
        q ∙ ap (λ (m : ℕ). eqb (bit_and m placed) m)
        (ap (λ (r : List ℕ). get_or r e 0) f.before
        ∙ padded-at (predecessor_mask t) slots t.count e (omega (arith, f.known.table.small.events)) l)
        ∙ sym (within-mask t placed (λ a. static_ppo t a e))

    module _ {a : Bool} (p : a ≡ eqb (bit_and (mask ties before_row e) placed) (mask ties before_row e)) where
      pub follow-unready : a ≡ false → SaysOf facts ties e (follows e) false
      follow-unready h t f l = sym (rw (sym (says-ready a p t f l) ∙ h) refl)

      module _ {b : Bool} (q : SaysOf facts ties e (λ t. reads_good t (bit placed) (bit s.good) e) b) where
        pub follow-misreads : b ≡ false → SaysOf facts ties e (follows e) false
        follow-misreads h t f l =
            sym (rw (sym (q t f l) ∙ h, and-false (ready t (bit placed) e && may_place t (bit placed) e)) refl)

        module _ {c : Bool} (r : Tells facts e (λ t. ends_well t (bit placed) e) c) where
          pub follow-spoils : c ≡ false → SaysOf facts ties e (follows e) false
          follow-spoils h t f l = sym (rw (sym (r t f.known l) ∙ h)
              (and-false (ready t (bit placed) e && may_place t (bit placed) e && reads_good t (bit placed) (bit s.good) e)))

          pub follow-last : (d : Bool) → a ≡ true → b ≡ true → c ≡ true → Tells facts e (λ t. may_place t (bit placed) e) d →
              SaysOf facts ties e (follows e) d
          follow-last d i j k h t f l =
              h t f.known l
              ∙ sym (rw (sym (says-ready a p t f l) ∙ i, sym (q t f l) ∙ j, sym (r t f.known l) ∙ k)
              (and-true _ ∙ and-true (may_place t (bit placed) e)))

  -- The loop over the memory events that aren't placed.
  module _ (m : ℕ) where
    -- those that aren't left in l are tested, and r has those that may be placed
    abbrev pub Tested : ℕ → ℕ → Type 0
    Tested l r = Rest capacity m l × ((t : Table) → Board t facts ties → Picked (λ e. follows e t) capacity m l r)

    pub test-start : m < 2 ^ capacity → Tested m 0
    test-start h = (rest-start capacity m h, λ t f. pick-start (λ e. follows e t) capacity m h)

    module _ (q : m ≡ without (mask ties kind_row memory_word) placed) where
      bits : (t : Table) → Board t facts ties → (e : ℕ) → bit m e ≡ (is_memory_event t e && not (bit placed e))
      unfolding is_memory_event memory_mask memory_events
      bits t f e =
          ap (λ (x : ℕ). bit x e) q ∙ bit-without (mask ties kind_row memory_word) placed e
          ∙ ap (λ (b : Bool). b && not (bit placed e)) (ap (λ (x : ℕ). bit x e) f.memory ∙ mask_below (memory t) t.count e)

      pub test-more : (l r v b : ℕ) → Tested l r → 0 < l → v ≡ count_trailing_zeros capacity l → b ≡ 2 ^ v → (x : Bool) →
          SaysOf facts ties v (follows v) x → (o : ℕ) → o ≡ cond x b 0 → Tested (bit_xor l b) (bit_or r o)
      unfolding is_memory_event
      test-more l r v b c h e p x k o i = (
        rest_more capacity m l v c.0 h e b p,
        λ t f.
            pick_more (λ a. follows a t) capacity m l r v (c.1 t f) h e b o p
            (i ∙ ap (λ (y : Bool). cond y b 0) (k t f (counted t f))),
      )
        where
          counted : (t : Table) → Board t facts ties → v < t.count
          counted t f =
              ltb-true v t.count (and_l _ (memory t v)
              (and_l _ (not (bit placed v)) (sym (bits t f v) ∙ (rest-lowest capacity m l v c.0 h e).1)))

      pub test-end : (l r : ℕ) → Tested l r → l ≡ 0 → Accepted facts ties s r
      unfolding accepts
      test-end l r k z t f e =
          pick_end (λ a. follows a t) capacity m l r (k.1 t f) z e ∙ ap (λ (b : Bool). b && follows e t) (bits t f e)
          ∙ go (is_memory_event t e && not (bit placed e))
        where
          go : (b : Bool) → (b && follows e t)
              ≡ (b && ready t (bit placed) e && may_place t (bit placed) e && reads_good t (bit placed) (bit s.good) e
              && ends_well t (bit placed) e)
          go true = refl
          go false = refl
