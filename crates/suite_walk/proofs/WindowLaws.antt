-- The test at a block and the step from it, told from bytes from there on.
use Prim.Native.Nat.{ℕ, zero, suc, ◌+◌, ◌-◌, ◌*◌, ◌≤◌}
use mathlib.Core.Path.{◌≡◌, refl, sym, ap, ap₂, ◌∙◌}
use mathlib.Core.Bool.{true, false, ◌&&◌}
use mathlib.Core.List.{List, [], ◌∷◌}
use native.Mathlib.Nat.{sub-zero, zero-sub, suc-sub-suc, zero-add}
use native.Mathlib.Omega.{arith}
use lib.ListN.{take, drop, length-take, length-drop}
use lib.Seq.{take-take, take-nil, drop-drop}
use borrow.Author.Tests.{ltb-true, lt-ltb}
use Rattle.edition.specs.Limits.{blocks_of, test_length, block_length}
use Rattle.decode.specs.Layout.{second_if}
use Rattle.suite_part.specs.Part.{block_of, block_count, in_suite}
use Rattle.refusals.specs.Lines.{unless}
use Rattle.block.specs.Reading.{read_refusal}
use Rattle.suite_walk.specs.Tests.{begins_two, edition_here, test_of, good_two, next_block}
use Rattle.suite_walk.specs.Statements.{window, Told}
use Rattle.suite_walk.proofs.TestLaws.{block-at-least}
use Rattle.suite_walk.proofs.WalkLaws.{step}

-- a part without its first bytes
pub drop-take : (m n : ℕ) (l : List ℕ) → drop m (take n l) ≡ take (n - m) (drop m l)
drop-take zero n l = ap (λ (k : ℕ). take k l) (sym (sub-zero n))
drop-take (suc m) zero l = sym (ap (λ (k : ℕ). take k (drop (suc m) l)) (zero-sub (suc m)))
drop-take (suc m) (suc n) [] = sym (take-nil (suc n - suc m))
drop-take (suc m) (suc n) (x ∷ l) = drop-take m n l ∙ ap (λ (k : ℕ). take k (drop m l)) (sym (suc-sub-suc n m))

module _ (s : List ℕ) (k n : ℕ) (enough : test_length (edition_here s k) ≤ n) where
  abbrev w : List ℕ
  w = window s k n

  same_block : block_of w 0 ≡ block_of s k
  unfolding block_of
  same_block = take-take block_length n (drop (block_length * k) s) (omega (arith, enough, block-at-least (begins_two (block_of s k))))

  same_test : test_of w 0 ≡ test_of s k
  unfolding test_of
  same_test =
      ap (λ (b : List ℕ). take (test_length (second_if (begins_two b))) w) same_block
      ∙ take-take (test_length (edition_here s k)) n (drop (block_length * k) s) enough

  same_good : good_two w 0 ≡ good_two s k
  unfolding good_two
  same_good = ap₂ (λ (b t : List ℕ). begins_two b && unless (read_refusal t) true false) same_block same_test

  module _ (h : in_suite s k ≡ true) where
    some_left : in_suite w 0 ≡ true
    some_left =
        lt-ltb 0 (block_count w)
        (omega (
          arith,
          ltb-true k (block_count s) h,
          length-take n (drop (block_length * k) s),
          length-drop (block_length * k) s,
          block-at-least (begins_two (block_of s k)),
          enough,
        ))

    same_next : k + next_block w 0 ≡ next_block s k
    same_next =
        ap (λ (m : ℕ). k + m) (step w 0 (good_two s k) some_left same_good)
        ∙ ap (λ (m : ℕ). k + m) (zero-add (blocks_of (second_if (good_two s k)))) ∙ sym (step s k (good_two s k) h refl)

    left : drop (block_length * next_block w 0) w ≡ window s (next_block s k) (n - block_length * next_block w 0)
    left =
        let m = next_block w 0 in
        let e : block_length * k + block_length * m ≡ block_length * next_block s k = omega (arith, same_next) in
        drop-take (block_length * m) n (drop (block_length * k) s)
        ∙ ap (take (n - block_length * m)) (drop-drop (block_length * m) (block_length * k) s ∙ ap (λ (i : ℕ). drop i s) e)

  pub told : Told s k n
  told = record { test = same_test; next = same_next; left = left }
