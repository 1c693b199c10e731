-- Numbers in decimal, and lists of them.
use Prim.Native.Nat.{ℕ, zero, suc, ◌+◌, ◌*◌, ◌-◌, ◌/◌, ◌%◌, ◌^◌, ◌≤◌, ◌<◌}
use mathlib.Core.Bool.{Bool, true, false, cond}
use mathlib.Core.List.{List, [], ◌∷◌, ◌++◌, append-nil, append_assoc}
use mathlib.Core.Path.{◌≡◌, refl, sym, ap, ◌∙◌}
use lib.Dec.{ltb}
use lib.ListN.{length, get_or, take, set, length-append}
use lib.Seq.{take-suc, take-suc-set}
use borrow.Author.Tests.{lt-ltb, le-ltb}
use native.Mathlib.Nat.{pow-suc}
use native.Mathlib.Numerals.{add-one}
use native.Mathlib.Omega.{arith}
use Rattle.console.specs.Texts.{ascii, digit_ascii, digits_of, decimal, spaced}

taken : {b : Bool} → b ≡ true → (xs ys : List ℕ) → xs ≡ cond b xs ys
taken e xs ys = rw e

left : {b : Bool} → b ≡ false → (xs ys : List ℕ) → ys ≡ cond b xs ys
left e xs ys = rw e

short : (b : Bool) (xs ys : List ℕ) (n : ℕ) → length xs ≤ n → length ys ≤ n → length (cond b xs ys) ≤ n
short true xs ys n h k = h
short false xs ys n h k = k

-- No more digits than go.
pub digits-short : (k n : ℕ) → length (digits_of k n) ≤ k
unfolding digits_of
digits-short zero n = omega arith
digits-short (suc k) n = short (ltb n 10) _ _ (suc k) (omega arith) (omega (arith, digits-short k (n / 10), length-append (digits_of k (n / 10)) (digit_ascii (n % 10) ∷ [])))

-- As many digits as a bound of the number has.
digits-few : (j k n : ℕ) → n < 10 ^ suc j → length (digits_of k n) ≤ suc j
unfolding digits_of
digits-few j zero n h = omega arith
digits-few zero (suc k) n h =
    let one = taken (lt-ltb n 10 h) (digit_ascii n ∷ []) (digits_of k (n / 10) ++ (digit_ascii (n % 10) ∷ [])) in
    omega (arith, ap length (sym one))
digits-few (suc j) (suc k) n h =
    let p : 10 ^ suc (suc j) ≡ 10 ^ suc j * 10 = pow-suc 10 (suc j) in
    short (ltb n 10) _ _ (suc (suc j)) (omega arith)
    (omega (arith, digits-few j k (n / 10) (omega (arith, p)), length-append (digits_of k (n / 10)) (digit_ascii (n % 10) ∷ [])))

-- Each byte of a list has at most three digits, and a space before it.
pub spaced-bytes : (xs : List ℕ) → ((i : ℕ) → get_or xs i 0 < 256) → length (spaced xs) ≤ 4 * length xs
unfolding spaced
spaced-bytes [] h = omega arith
spaced-bytes (x ∷ xs) h =
    omega (
      arith,
      length-append (ascii " " ++ decimal x) (spaced xs),
      digits-few 2 20 x (let b : x < 1000 = omega (arith, h 0) in b),
      spaced-bytes xs (λ i. h (suc i)),
    )

pub spaced-append : (xs ys : List ℕ) → spaced (xs ++ ys) ≡ spaced xs ++ spaced ys
unfolding spaced
spaced-append [] ys = refl
spaced-append (x ∷ xs) ys = rw (spaced-append xs ys) (sym (append_assoc (ascii " " ++ decimal x) (spaced xs) (spaced ys)))

last : (x : ℕ) → spaced (x ∷ []) ≡ ascii " " ++ decimal x
unfolding spaced
last x = append-nil (ascii " " ++ decimal x)

-- One more entry of a list.
pub one_more : (xs : List ℕ) (i n : ℕ) → i < length xs → n ≡ get_or xs i 0 → spaced (take i xs) ++ (ascii " " ++ decimal n) ≡ spaced (take (i + 1) xs)
one_more xs i n h e =
    rw (e, add-one i, take-suc xs i 0 h) (sym (spaced-append (take i xs) (get_or xs i 0 ∷ []) ∙ ap (λ (ys : List ℕ). spaced (take i xs) ++ ys) (last (get_or xs i 0))))

-- The digits as they are written to the front of a buffer: none, a last one, and one behind others.
pub no-digit : (k n : ℕ) → k ≡ 0 → [] ≡ digits_of k n
unfolding digits_of
no-digit k n z = rw z

pub one-digit : (k n : ℕ) (xs : List ℕ) → (k ≡ 0 → ⊥) → n < 10 → k ≤ length xs → take 1 (set xs 0 (48 + n)) ≡ digits_of k n
unfolding digits_of
one-digit zero n xs z small long = absurd (z refl)
one-digit (suc k) n [] z small long = absurd (omega (arith, long))
one-digit (suc k) n (x ∷ xs) z small long = taken (lt-ltb n 10 small) _ _

pub more-digits : (k n m : ℕ) (xs : List ℕ) → (k ≡ 0 → ⊥) → 10 ≤ n → m < length xs → take m xs ≡ digits_of (k - 1) (n / 10) → take (m + 1) (set xs m (48 + n % 10)) ≡ digits_of k n
unfolding digits_of
more-digits zero n m xs z large long e = absurd (z refl)
more-digits (suc k) n m xs z large long e =
    let front : take m xs ≡ digits_of k (n / 10) = let q : suc k - 1 ≡ k = omega arith in rw q at e in
    rw (add-one m, take-suc-set xs m (48 + n % 10) long, front) (left (le-ltb n 10 large) _ _)
