-- The walk through a suite: which blocks are the first of a test.
use Prim.Native.Nat.{ℕ, zero, suc, ◌+◌, ◌-◌, ◌≤◌, ◌<◌}
use mathlib.Core.Path.{◌≡◌, refl, sym, ap, ◌∙◌}
use mathlib.Core.Bool.{Bool, true, false, cond, ◌&&◌, ◌||◌, not}
use mathlib.Core.List.{List, [], ◌∷◌}
use mathlib.Core.Logic.{◌⊎◌, ⊎_elim}
use native.Mathlib.Nat.{eq-or-lt_of_le, sub-zero}
use native.Mathlib.Numerals.{add-one}
use native.Mathlib.Omega.{arith}
use lib.Dec.{eqb, ltb}
use lib.ListN.{length, get_or}
use borrow.Author.Tests.{ltb-true, ltb-false, lt-ltb, le-ltb, eq-eqb, ne_eqb, not-true}
use Rattle.lists.specs.Below.{up_from}
use Rattle.lists.specs.Lists.{all, any, has}
use Rattle.lists.proofs.BoolLaws.{and_l, and_r, and_left, and_right}
use Rattle.lists.proofs.ListLaws.{all-has, all_get_d}
use Rattle.lists.proofs.SomeLaws.{every-at}
use Rattle.edition.specs.Limits.{two, blocks_of}
use Rattle.decode.specs.Layout.{second_if}
use Rattle.suite_part.specs.Part.{block_count, in_suite}
use Rattle.suite_walk.specs.Tests.{good_two, next_block, tests_from}
use Rattle.suite_walk.specs.Statements.{Walk}

no_more : (a b : Bool) → a ≡ false → b ≡ false → (a || b) ≡ false
no_more a b p q = rw (p, q) refl

-- a block that is a first one, one that is covered by the first of some tests, and any other
is-first : (a b c d : Bool) → a ≡ true → c ≡ false → d ≡ false → (a || b) ≡ not (c || d)
is-first a b c d p q r = rw (p, q, r) refl

is-covered : (a b c d : Bool) → a ≡ false → b ≡ false → c ≡ true → (a || b) ≡ not (c || d)
is-covered a b c d p q r = rw (p, q, r) refl

is-further : (a b c d : Bool) → a ≡ false → c ≡ false → b ≡ not d → (a || b) ≡ not (c || d)
is-further a b c d p q r = rw (p, q) r

-- a list of greater numbers doesn't have x
not-had : (x : ℕ) (l : List ℕ) → all (ltb x) l ≡ true → has x l ≡ false
not-had x l h = go (has x l) refl
  where
    go : (b : Bool) → has x l ≡ b → b ≡ false
    go true e = absurd (omega (arith, ltb-true x x (all-has (ltb x) l x h e)))
    go false e = refl

module _ (s : List ℕ) where
  -- the step from a block of the suite
  pub step : (k : ℕ) (b : Bool) → in_suite s k ≡ true → good_two s k ≡ b → next_block s k ≡ k + blocks_of (second_if b)
  unfolding next_block
  step k b h e =
      ap (λ (x : Bool). cond x (k + blocks_of (second_if (good_two s k))) k) h ∙ ap (λ (x : Bool). k + blocks_of (second_if x)) e

  -- as the code finds it
  pub next-step : (k n : ℕ) (g b : Bool) → n ≡ block_count s → k < n → g ≡ good_two s k → g ≡ b
      → k + blocks_of (second_if b) ≡ next_block s k
  next-step k n g b e h p q = sym (step k b (lt-ltb k (block_count s) (omega arith)) (sym p ∙ q))

  -- and past the suite
  pub next_past : (k n : ℕ) → n ≡ block_count s → n ≤ k → k ≡ next_block s k
  unfolding next_block
  next_past k n e h =
      sym (ap (λ (x : Bool). cond x (k + blocks_of (second_if (good_two s k))) k) (le-ltb k (block_count s) (omega arith)))

  here : (k x : ℕ) → k ≤ x → in_suite s x ≡ true → in_suite s k ≡ true
  here k x l h = lt-ltb k (block_count s) (omega (arith, ltb-true x (block_count s) h))

  -- it goes on
  on : (k : ℕ) → in_suite s k ≡ true → k < next_block s k
  on k h = go (good_two s k) refl
    where
      go : (b : Bool) → good_two s k ≡ b → k < next_block s k
      go true e = omega (arith, step k true h e)
      go false e = omega (arith, step k false h e)

  -- and by no more than three blocks
  pub near : (k : ℕ) → next_block s k ≤ k + blocks_of two
  near k = go (in_suite s k) refl (good_two s k) refl
    where
      go : (a : Bool) → in_suite s k ≡ a → (b : Bool) → good_two s k ≡ b → next_block s k ≤ k + blocks_of two
      go true h true e = omega (arith, step k true h e)
      go true h false e = omega (arith, step k false h e)
      go false h b e = omega (arith, next_past k (block_count s) refl (ltb-false k (block_count s) h))

  -- all first blocks from block k on pass a test that each block of the suite from there on passes
  all_first : (p : ℕ → Bool) (n k : ℕ) → ((j : ℕ) → k ≤ j → in_suite s j ≡ true → p j ≡ true) → all p (tests_from s n k) ≡ true
  unfolding tests_from
  all_first p zero k h = refl
  all_first p (suc n) k h = go (in_suite s k) refl (λ q. all_first p n (next_block s k) q)
    where
      go : (b : Bool) → in_suite s k ≡ b →
          (((j : ℕ) → next_block s k ≤ j → in_suite s j ≡ true → p j ≡ true) → all p (tests_from s n (next_block s k)) ≡ true) →
          all p (cond b (k ∷ tests_from s n (next_block s k)) []) ≡ true
      go true e later = rw (h k (omega arith) e) (later (λ j l i. h j (omega (arith, on k e)) i))
      go false e later = refl

  -- they are greater than a block before k
  above : (n k x : ℕ) → x < k → all (ltb x) (tests_from s n k) ≡ true
  above n k x h = all_first (ltb x) n k (λ j l i. lt-ltb x j (omega arith))

  rising : (n k i j : ℕ) → i < j → j < length (tests_from s n k) → get_or (tests_from s n k) i 0 < get_or (tests_from s n k) j 0
  unfolding tests_from
  rising zero k i j h l = absurd (omega arith)
  rising (suc n) k i j h l = go (in_suite s k) refl i j h l (λ x y. rising n (next_block s k) x y)
    where
      go : (b : Bool) → in_suite s k ≡ b → (i j : ℕ) → i < j → j < length (cond b (k ∷ tests_from s n (next_block s k)) []) →
          ((x y : ℕ) → x < y → y < length (tests_from s n (next_block s k)) →
          get_or (tests_from s n (next_block s k)) x 0 < get_or (tests_from s n (next_block s k)) y 0) →
          get_or (cond b (k ∷ tests_from s n (next_block s k)) []) i 0 < get_or (cond b (k ∷ tests_from s n (next_block s k)) []) j 0
      go true e i zero h l later = absurd (omega arith)
      go true e zero (suc j) h l later =
          ltb-true k _ (all_get_d (ltb k) (tests_from s n (next_block s k)) j (above n (next_block s k) k (on k e)) (omega arith))
      go true e (suc i) (suc j) h l later = later i j (omega arith) (omega arith)
      go false e i j h l later = absurd (omega arith)

  -- a good edition 2 test begins at block j, and k is one of the two blocks behind it
  abbrev covers : ℕ → ℕ → Bool
  covers k j = good_two s j && ltb j k && ltb k (j + blocks_of two)

  not-before : (k j : ℕ) → ltb j k ≡ false → covers k j ≡ false
  not-before k j e = sym (and_left (good_two s j && ltb j k) (ltb k (j + blocks_of two)) (and_right (good_two s j) (ltb j k) e))

  -- no test from block j on covers a block before or at j
  not_covered : (n k j : ℕ) → k ≤ j → any (covers k) (tests_from s n j) ≡ false
  not_covered n k j h = none (tests_from s n j) (all_first (λ i. not (ltb i k)) n j (λ i l q. ap not (le-ltb i k (omega arith))))
    where
      none : (l : List ℕ) → all (λ i. not (ltb i k)) l ≡ true → any (covers k) l ≡ false
      none [] a = refl
      none (i ∷ l) a =
          no_more (covers k i) (any (covers k) l)
          (not-before k i (not-true (ltb i k) (and_l (not (ltb i k)) (all (λ i. not (ltb i k)) l) a)))
          (none l (and_r (not (ltb i k)) (all (λ i. not (ltb i k)) l) a))

  -- a block of the suite is the first of a test, or else a test from block k on covers it
  firsts : (n k x : ℕ) → k ≤ x → in_suite s x ≡ true → block_count s ≤ k + n
      → has x (tests_from s n k) ≡ not (any (covers x) (tests_from s n k))
  unfolding tests_from
  firsts zero k x l h f = absurd (omega (arith, ltb-true x (block_count s) h))
  firsts (suc n) k x l h f = go (in_suite s k) refl (λ q. firsts n (next_block s k) x q h (omega (arith, on k (here k x l h))))
    where
      go : (b : Bool) → in_suite s k ≡ b →
          (next_block s k ≤ x → has x (tests_from s n (next_block s k)) ≡ not (any (covers x) (tests_from s n (next_block s k)))) →
          has x (cond b (k ∷ tests_from s n (next_block s k)) []) ≡ not (any (covers x) (cond b (k ∷ tests_from s n (next_block s k)) []))
      go false e later = absurd (omega (arith, ltb-true x (block_count s) h, ltb-false k (block_count s) e))
      go true e later = ⊎_elim first (λ q. behind q (good_two s k) refl (ltb x (k + blocks_of two)) refl) (eq-or-lt_of_le l)
        where
          rest : List ℕ
          rest = tests_from s n (next_block s k)

          -- no later test begins at a block before the next
          skipped : x < next_block s k → has x rest ≡ false
          skipped q = not-had x rest (above n (next_block s k) x q)

          first : k ≡ x → (eqb x k || has x rest) ≡ not (covers x k || any (covers x) rest)
          first q =
              is-first (eqb x k) (has x rest) (covers x k) (any (covers x) rest) (eq-eqb x k (sym q))
              (not-before x k (le-ltb k x (omega arith))) (not_covered n x (next_block s k) (omega (arith, on k e)))

          behind : k < x → (b : Bool) → good_two s k ≡ b → (c : Bool) → ltb x (k + blocks_of two) ≡ c →
              (eqb x k || has x rest) ≡ not (covers x k || any (covers x) rest)
          behind q true g true c =
              is-covered (eqb x k) (has x rest) (covers x k) (any (covers x) rest) (ne_eqb x k (λ z. omega arith))
              (skipped (omega (arith, ltb-true x (k + blocks_of two) c, step k true e g)))
              (rw (g, lt-ltb k x q, c) refl)
          behind q true g false c =
              is-further (eqb x k) (has x rest) (covers x k) (any (covers x) rest) (ne_eqb x k (λ z. omega arith))
              (rw (g, lt-ltb k x q, c) refl) (later (omega (arith, ltb-false x (k + blocks_of two) c, step k true e g)))
          behind q false g b c =
              is-further (eqb x k) (has x rest) (covers x k) (any (covers x) rest) (ne_eqb x k (λ z. omega arith))
              (rw g refl) (later (omega (arith, step k false e g)))

  in-turn : (n k : ℕ) → ((j : ℕ) → j < block_count s → good_two s j ≡ false) → block_count s ≤ k + n
      → tests_from s n k ≡ up_from k (block_count s - k)
  unfolding tests_from up_from
  in-turn zero k g f = let e : block_count s - k ≡ 0 = omega arith in rw e refl
  in-turn (suc n) k g f = go (in_suite s k) refl (in-turn n (suc k) g (omega arith))
    where
      go : (b : Bool) → in_suite s k ≡ b → tests_from s n (suc k) ≡ up_from (suc k) (block_count s - suc k) →
          cond b (k ∷ tests_from s n (next_block s k)) [] ≡ up_from k (block_count s - k)
      go true e later =
          let next : next_block s k ≡ suc k = step k false e (g k (ltb-true k (block_count s) e)) ∙ add-one k in
          let n : block_count s - k ≡ suc (block_count s - suc k) = omega (arith, ltb-true k (block_count s) e) in
          rw (next, n) (ap (λ (l : List ℕ). k ∷ l) later)
      go false e later = let n : block_count s - k ≡ 0 = omega (arith, ltb-false k (block_count s) e) in rw n refl

  pub walk : Walk s
  walk =
      record {
        within = all_first (in_suite s) (block_count s) 0 (λ j l i. i);
        rise = rising (block_count s) 0;
        each = λ k h. firsts (block_count s) 0 k (omega arith) h (omega arith);
        plain =
            λ g. in-turn (block_count s) 0
            (λ j h. not-true (good_two s j) (every-at (block_count s) (λ k. not (good_two s k)) j g h)) (omega arith)
            ∙ ap (λ (n : ℕ). up_from 0 n) (sub-zero (block_count s));
      }
