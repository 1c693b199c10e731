-- Rows added lane by lane, from the last row to the first, give the weighted sum; for any number of lanes and of rows.
use Prim.Native.Nat.{ℕ, zero, suc, ◌+◌, ◌*◌, ◌≤◌}
use mathlib.Core.Path.{◌≡◌, refl, sym, ap, subst, ◌∙◌}
use mathlib.Core.List.{List, [], ◌∷◌, ◌++◌}
use native.Mathlib.Nat.{add-zero, mul-add}
use native.Mathlib.Omega.{arith}
use lib.ListN.{length, get_or, take, drop, take-append-drop, length-drop}
use lib.Seq.{take-take, drop-drop, get_or-take, get_or-drop, take_all, length-take-le}
use Rattle.lists.specs.Filled.{up_to}
use Rattle.lists.proofs.FilledLaws.{up_to-same}
use Rattle.checksum.specs.Checksum.{weighted_from}
use Rattle.checksum.specs.Lanes.{lanes, added, plain}
use Rattle.checksum.proofs.WeightLaws.{plain-append, weighted-append, length-added, get_or-added, plain-added, weighted-added, weighted-small}

-- What the rows `rest` of n bytes each come to: each lane's bytes added up, and each byte as many times as it stands rows
-- behind the first of them.
pub record Summed (n : ℕ) (rest sums steps : List ℕ) : Type 0 where
  pub row-of-sums : length sums ≡ n
  pub row-of-steps : length steps ≡ n
  pub once : plain sums ≡ plain rest
  pub weighed : n * plain steps + weighted_from 0 sums ≡ weighted_from 0 rest

-- the last row
summed-last : (n : ℕ) (l z : List ℕ) → length l ≡ n → length z ≡ n → plain z ≡ 0 → Summed n l l z
summed-last n l z h k e = record { row-of-sums = h; row-of-steps = k; once = refl; weighed = rw e (omega arith) }

-- a row before them
summed-more : (n : ℕ) (part rest sums steps : List ℕ) → length part ≡ n → Summed n rest sums steps
    → Summed n (part ++ rest) (added sums part) (added steps sums)
summed-more n part rest sums steps h v =
    let p : length sums ≡ length part = v.row-of-sums ∙ sym h in
    let q : length steps ≡ length sums = v.row-of-steps ∙ sym v.row-of-sums in
    record {
      row-of-sums = length-added sums part p ∙ v.row-of-sums;
      row-of-steps = length-added steps sums q ∙ v.row-of-steps;
      once = omega (arith, plain-added sums part p, plain-append part rest, v.once);
      weighed =
          let a : n * plain (added steps sums) ≡ n * plain steps + n * plain sums =
          ap (λ (x : ℕ). n * x) (plain-added steps sums q) ∙ mul-add n (plain steps) (plain sums)
          in
          let b : length part * plain rest ≡ n * plain sums =
          ap (λ (m : ℕ). m * plain rest) h ∙ ap (λ (x : ℕ). n * x) (sym v.once)
          in
          omega (arith, a, b, weighted-added 0 sums part p, weighted-append 0 part rest, v.weighed);
    }

-- the lanes count at most n times each
pub summed-small : (n : ℕ) (rest sums steps : List ℕ) → Summed n rest sums steps → weighted_from 0 sums ≤ n * plain sums
summed-small n rest sums steps v =
    let e : 0 + length sums ≡ n = omega (arith, v.row-of-sums) in
    subst (λ (m : ℕ). weighted_from 0 sums ≤ m * plain sums) e (weighted-small 0 sums)

row_within : (at n c : ℕ) (s : List ℕ) → at + n ≤ c → take n (drop at (take c s)) ≡ take n (drop at s)
row_within zero n c s h = take-take n c s (omega arith)
row_within (suc at) n zero s h = absurd (omega arith)
row_within (suc at) n (suc c) [] h = refl
row_within (suc at) n (suc c) (x ∷ s) h = row_within at n c s (omega arith)

-- the bytes below c from `at` on: the row there, and what stands behind it
row_first : (at n c : ℕ) (s : List ℕ) → at + n ≤ c → drop at (take c s) ≡ take n (drop at s) ++ drop (at + n) (take c s)
row_first at n c s h =
    sym (take-append-drop n (drop at (take c s)))
    ∙ ap (λ (l : List ℕ). l ++ drop n (drop at (take c s))) (row_within at n c s h)
    ∙ ap (λ (l : List ℕ). take n (drop at s) ++ l) (drop-drop n at (take c s))

length-row : (at n : ℕ) (s : List ℕ) → at + n ≤ length s → length (take n (drop at s)) ≡ n
length-row at n s h = length-take-le n (drop at s) (omega (arith, length-drop at s))

-- the loop begins with the last row
pub rows_last : (at n c : ℕ) (s sums steps : List ℕ) → at + n ≡ c → c ≤ length s → sums ≡ take n (drop at s)
    → length steps ≡ n → plain steps ≡ 0 → Summed n (drop at (take c s)) sums steps
rows_last at n c s sums steps h k e f g =
    let last : drop at (take c s) ≡ take n (drop at s) =
    sym (take_all n (drop at (take c s)) (omega (arith, length-drop at (take c s), length-take-le c s k)))
    ∙ row_within at n c s (omega arith)
    in
    rw (last, e) (summed-last n (take n (drop at s)) steps (length-row at n s (omega arith)) f g)

-- a turn adds the row before
pub rows_more : (at n to c : ℕ) (s row sums steps : List ℕ) → at + n ≡ to → to ≤ c → c ≤ length s → row ≡ take n (drop at s)
    → Summed n (drop to (take c s)) sums steps
    → Summed n (drop at (take c s)) (added sums row) (added steps sums)
    × (plain (added sums row) ≡ plain sums + plain row)
    × (plain (added steps sums) ≡ plain steps + plain sums)
rows_more at n to c s row sums steps h k j e v =
    let wide : length row ≡ n = ap length e ∙ length-row at n s (omega arith) in
    let rest : drop at (take c s) ≡ row ++ drop to (take c s) =
    row_first at n c s (omega arith)
    ∙ ap (λ (l : List ℕ). l ++ drop (at + n) (take c s)) (sym e)
    ∙ ap (λ (m : ℕ). row ++ drop m (take c s)) h
    in (
      subst (λ (l : List ℕ). Summed n l (added sums row) (added steps sums)) (sym rest)
          (summed-more n row (drop to (take c s)) sums steps wide v),
      plain-added sums row (v.row-of-sums ∙ sym wide),
      plain-added steps sums (v.row-of-steps ∙ sym v.row-of-sums),
    )

-- a row, lane by lane
row-filled : (n at : ℕ) (s : List ℕ) → at + n ≤ length s → take n (drop at s) ≡ up_to n (λ k. get_or s (at + k) 0)
row-filled n at s h =
    up_to-same n (λ k. get_or s (at + k) 0) 0 (take n (drop at s)) (length-row at n s h)
    (λ k l. get_or-take n (drop at s) k 0 l ∙ get_or-drop at s k 0)

pub added-lanes : (n : ℕ) (a b : List ℕ) → length a ≡ n → length b ≡ n → added a b ≡ up_to n (λ k. get_or a k 0 + get_or b k 0)
added-lanes n a b h k =
    let e : length a ≡ length b = h ∙ sym k in
    up_to-same n (λ k. get_or a k 0 + get_or b k 0) 0 (added a b) (length-added a b e ∙ h) (λ k l. get_or-added a b k e)

-- four lanes
pub row-lanes : (at : ℕ) (s : List ℕ) → at + lanes ≤ length s
    → take lanes (drop at s) ≡ get_or s at 0 ∷ get_or s (at + 1) 0 ∷ get_or s (at + 2) 0 ∷ get_or s (at + 3) 0 ∷ []
unfolding up_to
row-lanes at s h = simp add-zero at (row-filled lanes at s h)

pub plain-lanes : (a : List ℕ) → length a ≡ lanes → plain a ≡ get_or a 0 0 + get_or a 1 0 + get_or a 2 0 + get_or a 3 0
unfolding up_to plain
plain-lanes a h = ap plain (up_to-same lanes (λ k. get_or a k 0) 0 a h (λ k l. refl)) ∙ omega arith

pub weighted-lanes : (a : List ℕ) → length a ≡ lanes
    → weighted_from 0 a ≡ get_or a 0 0 + 2 * get_or a 1 0 + 3 * get_or a 2 0 + 4 * get_or a 3 0
unfolding up_to weighted_from
weighted-lanes a h = ap (weighted_from 0) (up_to-same lanes (λ k. get_or a k 0) 0 a h (λ k l. refl)) ∙ omega arith
