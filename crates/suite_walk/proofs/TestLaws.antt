-- The test at a block, as the code finds it; and which tests are good ones of edition 2.
use Prim.Native.Nat.{ℕ, ◌+◌, ◌-◌, ◌*◌, ◌≤◌, ◌<◌, min}
use mathlib.Core.Path.{◌≡◌, refl, sym, ap, ◌∙◌}
use mathlib.Core.Bool.{Bool, true, false, ◌&&◌, not, false≢true}
use mathlib.Core.List.{List}
use mathlib.Core.Logic.{◌↔◌}
use native.Mathlib.Omega.{arith}
use lib.Dec.{eqb}
use lib.ListN.{length, take, drop, length-take, length-drop}
use lib.Seq.{take_all, get_or-take}
use borrow.Author.Tests.{eqb-true, not-false, ltb-false, le-ltb, eq-eqb, ne_eqb}
use Rattle.lists.proofs.BoolLaws.{and_r, and_right}
use Rattle.edition.specs.Limits.{two, edition_number, test_length, block_length}
use Rattle.decode.specs.Layout.{byte_at, edition_at, second_if, edition_of}
use Rattle.decode.specs.Decoded.{decoded_as}
use Rattle.suite_part.specs.Part.{block_of, in_suite, block_count}
use Rattle.refusals.specs.Lines.{Refused, accepted, by_line, by_record, by_place, unless}
use Rattle.refusals.proofs.LineLaws.{whole-off}
use Rattle.block.specs.Reading.{line2, line3, length_wrong, length_lines, read_refusal}
use Rattle.block.proofs.ReadingLaws.{states, passed-header, passed-edition}
use Rattle.suite_walk.specs.Tests.{begins_two, edition_here, test_of, test_length_at, good_two}

-- what is left of the suite from block k on
abbrev from : List ℕ → ℕ → List ℕ
from s k = drop (block_length * k) s

-- a test has the bytes of a block, if the suite has them
pub block-at-least : (b : Bool) → block_length ≤ test_length (second_if b)
block-at-least true = omega arith
block-at-least false = omega arith

-- whether an edition 2 test begins with a block, as the code finds it
pub begins-other : (b : List ℕ) → (byte_at b edition_at ≡ edition_number two → ⊥) → false ≡ begins_two b
unfolding begins_two
begins-other b h =
    let n = byte_at b edition_at in
    sym (and_right (not (line2 b) && not (line3 b)) (eqb n (edition_number two)) (ne_eqb n (edition_number two) h))

pub begins-as : (b : List ℕ) (check marker : Bool) → byte_at b edition_at ≡ edition_number two → check ≡ line2 b → marker ≡ line3 b
    → (not check && not marker) ≡ begins_two b
unfolding begins_two
begins-as b check marker h p q =
    let n = byte_at b edition_at in
    rw (p, q) (and-with (not (line2 b) && not (line3 b)) (eqb n (edition_number two)) (eq-eqb n (edition_number two) h))
  where
    and-with : (x y : Bool) → y ≡ true → x ≡ (x && y)
    and-with true y e = sym e
    and-with false y e = refl

-- the test, its edition told
test-as : (s : List ℕ) (k : ℕ) (b : Bool) → begins_two (block_of s k) ≡ b → test_of s k ≡ take (test_length (second_if b)) (from s k)
unfolding test_of
test-as s k b e = ap (λ (x : Bool). take (test_length (second_if x)) (from s k)) e

-- what is left of the suite, where that is no more
test-cut : (s : List ℕ) (k : ℕ) → length (from s k) ≤ test_length (edition_here s k) → from s k ≡ test_of s k
unfolding test_of
test-cut s k h = sym (take_all (test_length (edition_here s k)) (from s k) h)

-- The test as the code cuts it out, where b is block k and t tells whether an edition 2 test begins with it.
module _ (s : List ℕ) (k : ℕ) (b : List ℕ) where
  -- a part block
  pub test-part : b ≡ block_of s k → length b < block_length → b ≡ test_of s k
  unfolding block_of
  test-part e h =
      let n : length (from s k) < block_length = omega (arith, ap length e, length-take block_length (from s k)) in
      e ∙ take_all block_length (from s k) (omega arith) ∙ test-cut s k (omega (arith, block-at-least (begins_two (block_of s k))))

  -- the block is whole
  pub whole-block : b ≡ block_of s k → block_length ≤ length b → block_length * k + block_length ≤ length s
  unfolding block_of
  whole-block e h = omega (arith, ap length e, length-take block_length (from s k), length-drop (block_length * k) s)

  module _ (t : Bool) (e : b ≡ block_of s k) (p : t ≡ begins_two b) where
    told : (x : Bool) → t ≡ x → test_of s k ≡ take (test_length (second_if x)) (from s k)
    told x q = test-as s k x (sym (p ∙ ap begins_two e) ∙ q)

    -- one block
    pub test-one : t ≡ false → b ≡ test_of s k
    unfolding block_of
    test-one q = e ∙ sym (told false q)

    -- what is left
    pub test-last : t ≡ true → length s - block_length * k < test_length two → take (length s - block_length * k) (from s k) ≡ test_of s k
    test-last q h =
        let n = length-drop (block_length * k) s in
        take_all (length s - block_length * k) (from s k) (omega (arith, n))
        ∙ sym (take_all (test_length two) (from s k) (omega (arith, n))) ∙ sym (told true q)

    -- three blocks
    pub test-whole : t ≡ true → take (block_length * k + test_length two - block_length * k) (from s k) ≡ test_of s k
    test-whole q =
        let n : block_length * k + test_length two - block_length * k ≡ test_length two = omega arith in
        ap (λ (m : ℕ). take m (from s k)) n ∙ sym (told true q)

length-test : (s : List ℕ) (k : ℕ) → length (test_of s k) ≡ min (test_length (edition_here s k)) (length s - block_length * k)
unfolding test_of
length-test s k =
    length-take (test_length (edition_here s k)) (from s k) ∙ ap (min (test_length (edition_here s k))) (length-drop (block_length * k) s)

-- no byte exactly where the suite has no block k
pub test-none : (s : List ℕ) (k : ℕ) → (test_length_at s k ≡ 0) ↔ (in_suite s k ≡ false)
test-none s k = (
  (λ e. le-ltb k (block_count s) (omega (arith, e, length-test s k, block-at-least (begins_two (block_of s k))))),
  (λ e. omega (arith, ltb-false k (block_count s) e, length-test s k)),
)

-- a test of edition 1 has no more bytes than a block
one_block : (s : List ℕ) (k : ℕ) → begins_two (block_of s k) ≡ false → length (test_of s k) ≤ block_length
one_block s k e = omega (arith, ap length (test-as s k false e), length-take block_length (from s k))

-- it states its edition as its first block does
states-two : (s : List ℕ) (k : ℕ) → begins_two (block_of s k) ≡ true → edition_of (test_of s k) ≡ two
unfolding block_of begins_two
states-two s k e =
    (states two (test_of s k)
    (ap (λ (t : List ℕ). byte_at t edition_at) (test-as s k true e)
    ∙ get_or-take (test_length two) (from s k) edition_at 0 (omega arith)
    ∙ sym (get_or-take block_length (from s k) edition_at 0 (omega arith))
    ∙ eqb-true (byte_at (block_of s k) edition_at) (edition_number two)
    (and_r (not (line2 (block_of s k)) && not (line3 (block_of s k))) (eqb (byte_at (block_of s k) edition_at) (edition_number two)) e))
    ).0

-- what nothing refuses has the length of its edition
accepted-length : (t : List ℕ) → read_refusal t ≡ accepted → length t ≡ test_length (edition_of t)
unfolding length_lines
accepted-length t h =
    let e = edition_of t in
    let lines = (passed-edition e t (passed-header t h).1).0 in
    eqb-true (length t) (test_length e)
    (not-false (eqb (length t) (test_length e)) (whole-off (decoded_as e t).count 1 (length_wrong e t) _ lines).0)

abbrev passes : List ℕ → Bool
passes t = unless (read_refusal t) true false

passes-length : (t : List ℕ) → passes t ≡ true → length t ≡ test_length (edition_of t)
passes-length t h = go (read_refusal t) refl h
  where
    go : (r : Refused) → read_refusal t ≡ r → unless r true false ≡ true → length t ≡ test_length (edition_of t)
    go accepted e h = accepted-length t e
    go (by_line n) e h = absurd (false≢true h)
    go (by_record n k) e h = absurd (false≢true h)
    go (by_place n p) e h = absurd (false≢true h)

-- no other test is as long
pub good-long : (s : List ℕ) (k : ℕ) → length (test_of s k) ≡ test_length two → passes (test_of s k) ≡ good_two s k
unfolding good_two
good-long s k h = go (begins_two (block_of s k)) refl
  where
    go : (b : Bool) → begins_two (block_of s k) ≡ b → passes (test_of s k) ≡ (b && passes (test_of s k))
    go true e = refl
    go false e = absurd (omega (arith, h, one_block s k e))

pub good-not : (s : List ℕ) (k : ℕ) → (length (test_of s k) ≡ test_length two → ⊥) → good_two s k ≡ false
unfolding good_two
good-not s k h = go (begins_two (block_of s k)) refl (passes (test_of s k)) refl
  where
    go : (b : Bool) → begins_two (block_of s k) ≡ b → (c : Bool) → passes (test_of s k) ≡ c → (b && c) ≡ false
    go true e true p = absurd (h (passes-length (test_of s k) p ∙ ap test_length (states-two s k e)))
    go true e false p = refl
    go false e c p = refl
