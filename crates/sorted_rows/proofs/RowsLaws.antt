-- Laws of rows of one width, one behind the other.
use Prim.Native.Nat.{ℕ, zero, suc, ◌+◌, ◌-◌, ◌*◌, ◌≤◌, ◌<◌}
use native.Mathlib.Nat.{mul-zero, mul-suc, mul-le-mul_left, sub-zero}
use native.Mathlib.Omega.{arith}
use mathlib.Core.Path.{◌≡◌, refl, sym, ap, ap₂, ◌∙◌}
use mathlib.Core.List.{List, [], ◌∷◌, ◌++◌, append_assoc}
use lib.ListN.{length, get_or, take, drop, set, length-drop}
use lib.Seq.{take_at, drop_at, take-add, drop-drop, take-set-le, drop-set-add, length-take-le}
use Rattle.sorted_rows.specs.Sorted.{rows, flat}

-- every row has w numbers
abbrev pub Wide : ℕ → List (List ℕ) → Type 0
Wide w [] = Unit {0}
Wide w (r ∷ rs) = (length r ≡ w) × Wide w rs

-- there are n rows
pub rows-length : (w n : ℕ) (l : List ℕ) → length (rows w n l) ≡ n
unfolding rows
rows-length w zero l = refl
rows-length w (suc n) l = ap suc (rows-length w n (drop w l))

-- the places of one row more
more : (w i : ℕ) → w + w * i ≡ w * suc i
more w i = omega (arith, mul-suc w i)

-- behind a row and i more
past : (w i : ℕ) (l : List ℕ) → drop (w * i) (drop w l) ≡ drop (w * suc i) l
past w i l = drop-drop (w * i) w l ∙ ap (λ (k : ℕ). drop k l) (more w i)

-- row i stands behind i rows
pub rows_at : (w n i : ℕ) (l : List ℕ) → i < n → get_or (rows w n l) i [] ≡ take w (drop (w * i) l)
unfolding rows
rows_at w zero i l h = absurd (omega arith)
rows_at w (suc n) zero l h = rw (mul-zero w) refl
rows_at w (suc n) (suc i) l h = rows_at w n i (drop w l) (omega arith) ∙ ap (take w) (past w i l)

-- the first p of them
pub rows_take : (w p n : ℕ) (l : List ℕ) → p ≤ n → take p (rows w n l) ≡ rows w p l
unfolding rows
rows_take w zero n l h = refl
rows_take w (suc p) zero l h = absurd (omega arith)
rows_take w (suc p) (suc n) l h = ap (λ (r : List (List ℕ)). take w l ∷ r) (rows_take w p n (drop w l) (omega arith))

-- those behind the first p
pub rows_drop : (w p n : ℕ) (l : List ℕ) → p ≤ n → drop p (rows w n l) ≡ rows w (n - p) (drop (w * p) l)
unfolding rows
rows_drop w zero n l h = rw (mul-zero w, sub-zero n) refl
rows_drop w (suc p) zero l h = absurd (omega arith)
rows_drop w (suc p) (suc n) l h =
    let e : n - p ≡ suc n - suc p = omega arith in
    rows_drop w p n (drop w l) (omega arith) ∙ ap₂ (rows w) e (past w p l)

-- a change of one place behind them leaves them as they are
pub rows-set : (w n : ℕ) (l : List ℕ) (i v : ℕ) → w * n ≤ i → rows w n (set l i v) ≡ rows w n l
unfolding rows
rows-set w zero l i v h = refl
rows-set w (suc n) l i v h =
    let e : i ≡ w + (i - w) = omega (arith, mul-suc w n) in
    ap₂ (λ (r : List ℕ) (rs : List (List ℕ)). r ∷ rs) (take-set-le w l i v (omega (arith, mul-suc w n)))
    (ap (λ (k : ℕ). rows w n (drop w (set l k v))) e ∙ ap (rows w n) (drop-set-add w l (i - w) v)
    ∙ rows-set w n (drop w l) (i - w) v (omega (arith, mul-suc w n)))

-- joining goes on past a list of rows
pub flat_append : (a b : List (List ℕ)) → flat (a ++ b) ≡ flat a ++ flat b
unfolding flat
flat_append [] b = refl
flat_append (r ∷ a) b = ap (λ (l : List ℕ). r ++ l) (flat_append a b) ∙ sym (append_assoc r (flat a) (flat b))

-- rows that are joined at the front of a list are its rows
pub rows-joined : (w : ℕ) (rs : List (List ℕ)) (l : List ℕ) → Wide w rs → rows w (length rs) (flat rs ++ l) ≡ rs
unfolding rows flat
rows-joined w [] l h = refl
rows-joined w (r ∷ rs) l h =
    rw (append_assoc r (flat rs) l, take_at r (flat rs ++ l) w h.0, drop_at r (flat rs ++ l) w h.0)
    (ap (λ (m : List (List ℕ)). r ∷ m) (rows-joined w rs l h.1))

-- the rows of a list that is long enough, joined, are its front
pub flat_rows : (w n : ℕ) (l : List ℕ) → w * n ≤ length l → flat (rows w n l) ≡ take (w * n) l
unfolding rows flat
flat_rows w zero l h = rw (mul-zero w) refl
flat_rows w (suc n) l h =
    ap (λ (m : List ℕ). take w l ++ m) (flat_rows w n (drop w l) (omega (arith, mul-suc w n, length-drop w l)))
    ∙ sym (take-add w (w * n) l) ∙ ap (λ (k : ℕ). take k l) (more w n)

-- the rows of a list that is long enough have w numbers each
pub rows-wide : (w n : ℕ) (l : List ℕ) → w * n ≤ length l → Wide w (rows w n l)
unfolding rows
rows-wide w zero l h = tt
rows-wide w (suc n) l h =
    (length-take-le w l (omega (arith, mul-suc w n)), rows-wide w n (drop w l) (omega (arith, mul-suc w n, length-drop w l)))

pub wide-append : (w : ℕ) (a b : List (List ℕ)) → Wide w a → Wide w b → Wide w (a ++ b)
wide-append w [] b h k = k
wide-append w (r ∷ a) b h k = (h.0, wide-append w a b h.1 k)

-- a row of those that fit does
pub row_within : (w i n k : ℕ) → i < n → w * n ≤ k → w * i + w ≤ k
row_within w i n k h m = omega (arith, mul-suc w i, mul-le-mul_left {m = suc i} {n = n} w h)

-- row i as a part of the list
pub row-part : (w i at : ℕ) (l : List ℕ) → at ≡ w * i → take (at + w - at) (drop at l) ≡ take w (drop (w * i) l)
row-part w i at l e =
    let k : at + w - at ≡ w = omega arith in
    ap₂ (λ (n m : ℕ). take n (drop m l)) k e

-- fewer rows fit too
pub rows-within : (w i n k : ℕ) → i ≤ n → w * n ≤ k → w * i ≤ k
rows-within w i n k h m = omega (arith, mul-le-mul_left {m = i} {n = n} w h)
