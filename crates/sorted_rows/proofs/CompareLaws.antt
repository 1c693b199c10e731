-- Laws for a loop that compares two lists entry by entry; their order is that of the library's `<` on slices.
use Prim.Native.Nat.{ℕ, suc, ◌+◌, ◌≤◌, ◌<◌}
use native.Mathlib.Numerals.{add-one}
use native.Mathlib.Omega.{arith}
use mathlib.Core.Path.{◌≡◌, refl}
use mathlib.Core.Bool.{Bool, true, false}
use mathlib.Core.List.{List}
use lib.Dec.{ltb}
use lib.ListN.{length, get_or, drop, drop_of_length-le}
use lib.Seq.{drop-cons, drop-length}
use borrow.Author.Tests.{ne_eqb, ltb-true, ltb-false}
use Rattle.std.specs.Prelude.{Some}
use Rattle.std.specs.Cmp.Lexicographic.{slice_partial_cmp}
use Rattle.std.specs.Ordering.{nat_cmp, is_lt, is_some_and}
use Rattle.std.proofs.lemmas.Bool.Decides.{nat_tests}
use Rattle.std.proofs.lemmas.Cmp.{same_from_slice_cmp_tested}
use Rattle.lists.specs.Ascending.{less}
use Rattle.lists.proofs.AscendingLaws.{less-tail}

-- the entries at i are equal: the rest decides
pub compare-more : (a b : List ℕ) (i : ℕ) → i < length a → i < length b → get_or a i 0 ≡ get_or b i 0 →
    less (drop i a) (drop i b) ≡ less (drop (i + 1) a) (drop (i + 1) b)
compare-more a b i h k e =
    rw (drop-cons a i 0 h, drop-cons b i 0 k, add-one i) (less-tail (get_or a i 0) (get_or b i 0) (drop (suc i) a) (drop (suc i) b) e)

-- they differ: they decide
pub compare-apart : (a b : List ℕ) (i : ℕ) → i < length a → i < length b → (get_or a i 0 ≡ get_or b i 0 → ⊥) →
    ltb (get_or a i 0) (get_or b i 0) ≡ less (drop i a) (drop i b)
compare-apart a b i h k e = rw (drop-cons a i 0 h, drop-cons b i 0 k, ne_eqb (get_or a i 0) (get_or b i 0) e) refl

-- the second list has ended
pub compare-past : (a b : List ℕ) (i : ℕ) → i < length a → length b ≤ i → false ≡ less (drop i a) (drop i b)
compare-past a b i h k = rw (drop-cons a i 0 h, drop_of_length-le b k) refl

-- the first list has ended
pub compare-end : (a b : List ℕ) → ltb (length a) (length b) ≡ less (drop (length a) a) (drop (length a) b)
compare-end a b = go (ltb (length a) (length b)) refl
  where
    go : (v : Bool) → ltb (length a) (length b) ≡ v → v ≡ less (drop (length a) a) (drop (length a) b)
    go true e = rw (drop-length a, drop-cons b (length a) 0 (ltb-true (length a) (length b) e)) refl
    go false e = rw (drop-length a, drop_of_length-le b (ltb-false (length a) (length b) e)) refl

pub lt_less : (a b : List ℕ) (r : Bool) → r ≡ is_some_and is_lt (slice_partial_cmp (λ x y. Some (nat_cmp x y)) a b) → r ≡ less a b
lt_less = same_from_slice_cmp_tested nat_cmp is_lt less refl (λ _ _. refl) (λ _ _. refl) (λ x y xs ys o h. grind (arith, nat_tests))
