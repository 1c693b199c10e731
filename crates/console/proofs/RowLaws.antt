-- The first row of a text, found byte by byte.
use Prim.Native.Nat.{ℕ, zero, suc, ◌+◌, ◌-◌, ◌≤◌}
use mathlib.Core.List.{List}
use mathlib.Core.Path.{◌≡◌, ap, refl}
use lib.ListN.{length}
use native.Mathlib.Omega.{arith}
use Rattle.std.specs.Prelude.{eqb, ltb, cond, not, Option, Some, None}
use Rattle.std.specs.Option.{unwrap_or}
use Rattle.std.specs.List.{position_or_len}
use Rattle.std.proofs.lemmas.List.Recursion.{is_position_or_len}
use Rattle.std.proofs.lemmas.Grind.{common_steps}
use Rattle.std.proofs.lemmas.List.Sums.{prefix_len-le-length}
use Rattle.console.specs.Rows.{newline, row_length, first_row, later_rows, row}

-- The first row ends at the first newline, or with the text.
row_position : (xs : List ℕ) → row_length xs ≡ position_or_len (λ b. eqb b newline) xs
unfolding row_length
row_position = is_position_or_len row_length (λ b. eqb b newline) refl (λ x xs. ap (cond (eqb x newline) 0) (let e : suc (row_length xs) ≡ 1 + row_length xs = omega arith in e))

pub row_found : (xs : List ℕ) (r : Option ℕ) (n : ℕ) → (let i = position_or_len (λ b. eqb b newline) xs in r ≡ cond (ltb i (length xs)) (Some i) None)
    → n ≡ unwrap_or r (length xs) → (n ≡ row_length xs) × (n ≤ length xs)
row_found xs r n e u = let p = row_position xs in let h = prefix_len-le-length (λ b. not (eqb b newline)) xs in grind (arith, common_steps, p, h)

-- Row 0 is the first; each other is a row of what is later.
pub row_first : (xs : List ℕ) (k : ℕ) (r : List ℕ) → k ≡ 0 → r ≡ first_row xs → r ≡ row xs k
unfolding row
row_first xs k r z e = rw z e

pub row-later : (xs : List ℕ) (k : ℕ) (r : List ℕ) → (k ≡ 0 → ⊥) → r ≡ row (later_rows xs) (k - 1) → r ≡ row xs k
unfolding row
row-later xs zero r n e = absurd (n (omega arith))
row-later xs (suc k) r n e = let q : suc k - 1 ≡ k = omega arith in rw q at e
