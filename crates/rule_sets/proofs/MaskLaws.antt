-- Laws of a set of rules as a mask.
use Prim.Native.Nat.{ℕ, zero, suc, ◌+◌, ◌*◌, ◌-◌, ◌/◌, ◌%◌, ◌^◌, ◌≤◌, ◌<◌}
use mathlib.Core.Path.{◌≡◌, refl, sym, ap, ◌∙◌}
use mathlib.Core.Bool.{Bool, true, false, cond, not, not-not, true≢false, false≢true}
use mathlib.Core.List.{List, [], ◌∷◌}
use native.Mathlib.Nat.{lt_of_lt_of_le}
use native.Mathlib.Omega.{arith}
use lib.Dec.{eqb}
use lib.ListN.{length, get_or, drop, length-drop, drop_of_length-le}
use lib.Seq.{drop-cons}
use lib.Pow.{pow_mono}
use lib.Count.{count_trailing_zeros}
use mir.Val.{bool_byte}
use borrow.Author.Tests.{ne_eqb}
use Rattle.lists.specs.Lists.{any}
use Rattle.table.specs.declared.Table.{Table}
use Rattle.model.specs.Rules.{holds, numbered, rules, rule_set}
use Rattle.rule_sets.specs.RuleMask.{set_mask, bits_of, rules_in, lowest_in}

-- a set of n tests is a mask of n bits
mask_lt : (bs : List Bool) → set_mask bs < 2 ^ length bs
mask_lt [] = omega arith
mask_lt (b ∷ bs) = go b (length bs) (mask_lt bs)
  where
    go : (c : Bool) (n : ℕ) → set_mask bs < 2 ^ n → cond c 1 0 + 2 * set_mask bs < 2 ^ suc n
    go true n h = omega arith
    go false n h = omega arith

-- the tests from k on, of at most w, make a mask of w bits
pub mask_fits : (w : ℕ) (bs : List Bool) (k : ℕ) → length bs ≤ w → set_mask (drop k bs) < 2 ^ w
mask_fits w bs k h = lt_of_lt_of_le (mask_lt (drop k bs)) (pow_mono (omega (arith, length-drop k bs)))

-- past the tests the set is empty
pub mask-none : (bs : List Bool) (k : ℕ) → length bs ≤ k → 0 ≡ set_mask (drop k bs)
mask-none bs k h = sym (ap set_mask (drop_of_length-le bs h))

-- a test as the code's number
byte-is : (b : Bool) → bool_byte b ≡ cond b 1 0
byte-is true = refl
byte-is false = refl

-- the test k - 1 joins the set of those behind it
pub mask-more : (bs : List Bool) (k s : ℕ) → 0 < k → k ≤ length bs → s ≡ set_mask (drop k bs)
    → s * 2 + bool_byte (get_or bs (k - 1) false) ≡ set_mask (drop (k - 1) bs)
mask-more bs zero s p h e = absurd (omega arith)
mask-more bs (suc k) s p h e =
    let r : suc k - 1 ≡ k = omega arith in
    rw (r, drop-cons bs k false h) (omega (arith, e, byte-is (get_or bs k false)))

-- the set is empty exactly where none holds
pub mask-any : (bs : List Bool) → not (eqb (set_mask bs) 0) ≡ any holds bs
mask-any [] = refl
mask-any (true ∷ bs) = ap not (ne_eqb (1 + 2 * set_mask bs) 0 (omega arith))
mask-any (false ∷ bs) = ap not (go (set_mask bs)) ∙ mask-any bs
  where
    go : (m : ℕ) → eqb (0 + 2 * m) 0 ≡ eqb m 0
    go zero = refl
    go (suc m) = ne_eqb (0 + 2 * suc m) 0 (omega arith) ∙ sym (ne_eqb (suc m) 0 (omega arith))

-- where one holds, the zeros below the lowest bit count the tests before it
lowest-some : (bs : List Bool) (w j : ℕ) → length bs ≤ w → any holds bs ≡ true → count_trailing_zeros w (set_mask bs) + j ≡ get_or (numbered j bs) 0 0
unfolding count_trailing_zeros
lowest-some [] w j h e = absurd (false≢true e)
lowest-some (b ∷ bs) zero j h e = absurd (omega arith)
lowest-some (true ∷ bs) (suc w) j h e =
    let d : (1 + 2 * set_mask bs) % 2 ≡ 1 = omega arith in
    rw d (omega arith)
lowest-some (false ∷ bs) (suc w) j h e =
    let d : (0 + 2 * set_mask bs) % 2 ≡ 0 = omega arith in
    let half : (0 + 2 * set_mask bs) / 2 ≡ set_mask bs = omega arith in
    rw (d, half) (omega (arith, lowest-some bs w (suc j) (omega arith) e))

-- where none holds, no number is there
lowest-none : (bs : List Bool) (j : ℕ) → any holds bs ≡ false → get_or (numbered j bs) 0 0 ≡ 0
lowest-none [] j e = refl
lowest-none (true ∷ bs) j e = absurd (true≢false e)
lowest-none (false ∷ bs) j e = lowest-none bs (suc j) e

-- the lowest of the set is the first of the numbers of the tests that hold
lowest-first : (bs : List Bool) → length bs ≤ 16 → lowest_in (set_mask bs) ≡ get_or (numbered 1 bs) 0 0
lowest-first bs h = go (any holds bs) refl
  where
    empty : (s : Bool) → any holds bs ≡ s → eqb (set_mask bs) 0 ≡ not s
    empty s e = sym (not-not (eqb (set_mask bs) 0)) ∙ ap not (mask-any bs ∙ e)

    go : (s : Bool) → any holds bs ≡ s → lowest_in (set_mask bs) ≡ get_or (numbered 1 bs) 0 0
    go true e = rw (empty true e) (lowest-some bs 16 1 h e)
    go false e = rw (empty false e) (sym (lowest-none bs 1 e))

-- the bits of the set of some tests are the tests, then none
bits_none : (w k : ℕ) → numbered k (bits_of w 0) ≡ []
bits_none zero k = refl
bits_none (suc w) k = bits_none w (suc k)

bits-tests : (bs : List Bool) (w k : ℕ) → length bs ≤ w → numbered k (bits_of w (set_mask bs)) ≡ numbered k bs
bits-tests [] w k h = bits_none w k
bits-tests (b ∷ bs) zero k h = absurd (omega arith)
bits-tests (true ∷ bs) (suc w) k h =
    let d : (1 + 2 * set_mask bs) % 2 ≡ 1 = omega arith in
    let half : (1 + 2 * set_mask bs) / 2 ≡ set_mask bs = omega arith in
    rw (d, half, bits-tests bs w (suc k) (omega arith))
bits-tests (false ∷ bs) (suc w) k h =
    let d : (0 + 2 * set_mask bs) % 2 ≡ 0 = omega arith in
    let half : (0 + 2 * set_mask bs) / 2 ≡ set_mask bs = omega arith in
    rw (d, half, bits-tests bs w (suc k) (omega arith))

-- the set of the bits of a mask is the mask
pub bits-mask : (w m : ℕ) → m < 2 ^ w → set_mask (bits_of w m) ≡ m
bits-mask zero m h = omega arith
bits-mask (suc w) m h = go (m % 2) refl (bits-mask w (m / 2) (omega arith))
  where
    go : (d : ℕ) → m % 2 ≡ d → set_mask (bits_of w (m / 2)) ≡ m / 2 → cond (eqb d 1) 1 0 + 2 * set_mask (bits_of w (m / 2)) ≡ m
    go zero e q = omega (arith, q)
    go (suc zero) e q = omega (arith, q)
    go (suc (suc d)) e q = absurd (omega arith)

-- the lowest of a set is the first of its rules
pub lowest-in : (set : ℕ) → set < 2 ^ 16 → lowest_in set ≡ get_or (rules_in set) 0 0
lowest-in set h = ap lowest_in (sym (bits-mask 16 set h)) ∙ lowest-first (bits_of 16 set) (omega arith)

-- the rules in the set of a pair are those by which preserved order puts a before b
pub rules-in : (t : Table) (rf : List ℕ) (a b : ℕ) → rules_in (set_mask (rules t rf a b)) ≡ rule_set t rf a b
unfolding rule_set rules
rules-in t rf a b = bits-tests (rules t rf a b) 16 1 (omega arith)
