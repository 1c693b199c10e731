-- Laws of the last entry of a list that passes a test, and for loops that look for it: along a list, and from the end of an array.
use Prim.Native.Nat.{ℕ, suc, ◌+◌, ◌-◌, ◌≤◌, ◌<◌}
use mathlib.Core.Path.{◌≡◌, refl, sym, ap, ◌∙◌}
use mathlib.Core.Bool.{Bool, true, false, cond, and-eq-true_iff}
use mathlib.Core.List.{List, [], ◌∷◌, ◌++◌}
use native.Mathlib.Numerals.{add-one}
use native.Mathlib.Omega.{arith}
use lib.ListN.{length, get_or, take, drop, drop_of_length-le}
use lib.Seq.{take-suc, drop-cons}
use Rattle.lists.specs.Lists.{all, last_or}

-- of two lists joined it is the last of the second, else of the first
pub last-append : (p : ℕ → Bool) (d : ℕ) (l m : List ℕ) → last_or p d (l ++ m) ≡ last_or p (last_or p d l) m
last-append p d [] m = refl
last-append p d (y ∷ l) m = last-append p (cond (p y) y d) l m

-- a test that every entry and d passes is passed by the last entry of any kind
pub last-all : (q p : ℕ → Bool) (d : ℕ) (l : List ℕ) → q d ≡ true → all q l ≡ true → q (last_or p d l) ≡ true
last-all q p d [] h a = h
last-all q p d (x ∷ l) h a = last-all q p (cond (p x) x d) l first t.1
  where
    t : (q x ≡ true) × (all q l ≡ true)
    t = (and-eq-true_iff (q x) (all q l)).0 a

    first : q (cond (p x) x d) ≡ true
    first = elim (p x) as (λ b. q (cond b x d) ≡ true) [ true ↦ t.0 | false ↦ h ]

-- tests that agree on the entries have the same last one
pub last-same : (q p g : ℕ → Bool) (d : ℕ) (l : List ℕ) → all q l ≡ true → ((x : ℕ) → q x ≡ true → p x ≡ g x) → last_or p d l ≡ last_or g d l
last-same q p g d [] a e = refl
last-same q p g d (x ∷ l) a e =
    let t = (and-eq-true_iff (q x) (all q l)).0 a in
    rw (e x t.0) (last-same q p g (cond (g x) x d) l t.1 e)

-- what changes none of the entries can be done before or after
pub last-map : (q : ℕ → Bool) (h : ℕ → ℕ) (p : ℕ → Bool) (d : ℕ) (l : List ℕ) → all q l ≡ true → ((x : ℕ) → q x ≡ true → h x ≡ x) →
    last_or p (h d) l ≡ h (last_or p d l)
last-map q h p d [] a e = refl
last-map q h p d (x ∷ l) a e = ap (λ (k : ℕ). last_or p k l) first ∙ last-map q h p (cond (p x) x d) l t.1 e
  where
    t : (q x ≡ true) × (all q l ≡ true)
    t = (and-eq-true_iff (q x) (all q l)).0 a

    first : cond (p x) x (h d) ≡ h (cond (p x) x d)
    first = elim (p x) as (λ b. cond b x (h d) ≡ h (cond b x d)) [ true ↦ sym (e x t.0) | false ↦ refl ]

-- the last of the whole list that passes (else d) is the last from i on, else the last so far, x
abbrev pub LastSoFar : (ℕ → Bool) → ℕ → List ℕ → ℕ → ℕ → Type 0
LastSoFar f d l x i = (i ≤ length l) × (last_or f d l ≡ last_or f x (drop i l))

last-next : (f : ℕ → Bool) (d : ℕ) (l : List ℕ) (i : ℕ) → i < length l
    → last_or f d (drop i l) ≡ last_or f (cond (f (get_or l i 0)) (get_or l i 0) d) (drop (i + 1) l)
last-next f d l i k = rw (add-one i, drop-cons l i 0 k)

-- the entry at i passes: it is the last so far
pub last-hit : (f : ℕ → Bool) (d : ℕ) (l : List ℕ) (i : ℕ) {s : Bool} → i < length l → s ≡ f (get_or l i 0) → s ≡ true
    → last_or f d (drop i l) ≡ last_or f (get_or l i 0) (drop (i + 1) l)
last-hit f d l i k e h = last-next f d l i k ∙ ap (λ (s : Bool). last_or f (cond s (get_or l i 0) d) (drop (i + 1) l)) (sym e ∙ h)

-- it doesn't: the last so far stays
pub last-skip : (f : ℕ → Bool) (d : ℕ) (l : List ℕ) (i : ℕ) {s : Bool} → i < length l → s ≡ f (get_or l i 0) → s ≡ false
    → last_or f d (drop i l) ≡ last_or f d (drop (i + 1) l)
last-skip f d l i k e h = last-next f d l i k ∙ ap (λ (s : Bool). last_or f (cond s (get_or l i 0) d) (drop (i + 1) l)) (sym e ∙ h)

-- the list has ended
pub last_end : (f : ℕ → Bool) (d : ℕ) (l : List ℕ) (i : ℕ) → length l ≤ i → last_or f d (drop i l) ≡ d
last_end f d l i h = ap (last_or f d) (drop_of_length-le l h)

module _ (p : ℕ → Bool) (d : ℕ) (xs : List ℕ) (n : ℕ) where
  -- of the first n entries those from i on don't pass
  abbrev pub Behind : ℕ → Type 0
  Behind i = (i ≤ n) × (last_or p d (take n xs) ≡ last_or p d (take i xs))

  -- the last of the entries before i is the one before i, if it passes
  back_one : (i : ℕ) → 0 < i → i ≤ length xs →
      last_or p d (take i xs) ≡ cond (p (get_or xs (i - 1) 0)) (get_or xs (i - 1) 0) (last_or p d (take (i - 1) xs))
  back_one i h k =
      let e : i ≡ suc (i - 1) = omega arith in
      ap (λ (j : ℕ). last_or p d (take j xs)) e ∙ ap (last_or p d) (take-suc xs (i - 1) 0 (omega arith))
      ∙ last-append p d (take (i - 1) xs) (get_or xs (i - 1) 0 ∷ [])

  -- nothing is tested yet
  pub behind-start : Behind n
  behind-start = (omega arith, refl)

  -- the entry before i doesn't pass: go on
  pub behind_more : (i : ℕ) → n ≤ length xs → Behind i → 0 < i → p (get_or xs (i - 1) 0) ≡ false → Behind (i - 1)
  behind_more i l s h f = (
    omega arith,
    s.1 ∙ back_one i h (omega arith)
        ∙ ap (λ (b : Bool). cond b (get_or xs (i - 1) 0) (last_or p d (take (i - 1) xs))) f,
  )

  -- it passes: it is the last
  pub behind-hit : (i : ℕ) → n ≤ length xs → Behind i → 0 < i → p (get_or xs (i - 1) 0) ≡ true → get_or xs (i - 1) 0 ≡ last_or p d (take n xs)
  behind-hit i l s h f =
      sym (s.1 ∙ back_one i h (omega arith) ∙ ap (λ (b : Bool). cond b (get_or xs (i - 1) 0) (last_or p d (take (i - 1) xs))) f)

  -- all were tested: none passes
  pub behind-end : (i : ℕ) → Behind i → i ≤ 0 → d ≡ last_or p d (take n xs)
  behind-end i s h = let e : i ≡ 0 = omega arith in sym (s.1 ∙ ap (λ (j : ℕ). last_or p d (take j xs)) e)
