-- Block k of a suite, by its offset and length.
use Prim.Native.Nat.{ℕ, zero, suc, ◌*◌, ◌<◌}
use mathlib.Core.Bool.{Bool, true, false, cond}
use mathlib.Core.List.{List, [], ◌∷◌}
use mathlib.Core.Path.{◌≡◌, refl, sym, ap, ◌∙◌}
use lib.ListN.{length, take, drop}
use native.Mathlib.Omega.{arith}
use borrow.Author.Tests.{ltb-true}
use Rattle.edition.specs.Limits.{block_length}
use Rattle.refusals.specs.Lines.{accepted, by_line}
use Rattle.suite_part.specs.Part.{block_of, block_count, in_suite}
use Rattle.suite_part.proofs.PartLaws.{empty-exactly}
use Rattle.answer_word.specs.Words.{refusal_word}
use Rattle.capi.specs.Parts.{part_refusal, part_offset, part_length, PartIsBlock}

-- The first bytes of a list, as many as there are, are the same bytes.
as_many : (n : ℕ) (l : List ℕ) → take (length (take n l)) l ≡ take n l
as_many zero l = refl
as_many (suc n) [] = refl
as_many (suc n) (x ∷ l) = ap (λ (m : List ℕ). x ∷ m) (as_many n l)

no_bytes : (l : List ℕ) → length l ≡ 0 → l ≡ []
no_bytes [] e = refl
no_bytes (x ∷ l) e = absurd (omega (arith, e))

-- A block that isn't in the suite is empty, and so are no bytes from its first.
pub part-is-block : PartIsBlock
unfolding block_of
part-is-block s k = go (in_suite s k) refl
  where
    go : (b : Bool) → in_suite s k ≡ b → take (part_length s k) (drop (cond b (block_length * k) 0) s) ≡ block_of s k
    go true e = as_many block_length (drop (block_length * k) s)
    go false e =
        let none = (empty-exactly s k).1 e in
        ap (λ (l : List ℕ). take (length l) s) none ∙ sym none

-- What is said where block k has no byte.
pub none-there : (s : List ℕ) (k n w : ℕ) → n ≡ length (block_of s k) → n ≡ 0 → w ≡ refusal_word (by_line 18)
    → (w ≡ refusal_word (part_refusal s k)) × ((0 ≡ part_offset s k) × (0 ≡ part_length s k))
none-there s k n w e z h =
    let out : in_suite s k ≡ false = (empty-exactly s k).0 (no_bytes (block_of s k) (sym e ∙ z)) in
    (h ∙ ap (λ (b : Bool). refusal_word (cond b accepted (by_line 18))) (sym out), (ap (λ (b : Bool). cond b (block_length * k) 0) (sym out), sym z ∙ e))

in-suite : (s : List ℕ) (k n : ℕ) → n ≡ length (block_of s k) → 0 < n → in_suite s k ≡ true
in-suite s k n e p = go (in_suite s k) refl
  where
    go : (b : Bool) → in_suite s k ≡ b → b ≡ true
    go true i = refl
    go false i = absurd (omega (arith, p, e ∙ ap length ((empty-exactly s k).1 i)))

-- What is said where it has some.
pub some-there : (s : List ℕ) (k n w : ℕ) → n ≡ length (block_of s k) → 0 < n → w ≡ refusal_word accepted
    → (w ≡ refusal_word (part_refusal s k)) × ((block_length * k ≡ part_offset s k) × (n ≡ part_length s k))
some-there s k n w e p h =
    let there = in-suite s k n e p in
    (h ∙ ap (λ (b : Bool). refusal_word (cond b accepted (by_line 18))) (sym there), (ap (λ (b : Bool). cond b (block_length * k) 0) (sym there), e))

-- It begins within the suite.
pub begins-within : (s : List ℕ) (k n : ℕ) → n ≡ length (block_of s k) → 0 < n → block_length * k < length s
begins-within s k n e p = omega (arith, ltb-true k (block_count s) (in-suite s k n e p))
