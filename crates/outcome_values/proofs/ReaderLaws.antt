-- Laws for the loop that goes through the readers and writes what each returns.
use Prim.Native.Nat.{ℕ, ◌+◌, ◌^◌, ◌≤◌, ◌<◌}
use native.Mathlib.Omega.{arith}
use native.Mathlib.Numerals.{add-one}
use mathlib.Core.Path.{◌≡◌, refl, sym, ap, ◌∙◌}
use mathlib.Core.List.{List, [], ◌∷◌, ◌++◌, map, append-nil, append_assoc}
use lib.ListN.{length, take, set, length-set}
use lib.Seq.{take-suc-set}
use lib.Bits.{bit_xor}
use lib.Count.{count_trailing_zeros}
use Rattle.table.specs.Events.{capacity}
use Rattle.outcome_values.specs.Giving.{row_length, value_in}
use Rattle.masks.proofs.ListedLaws.{bits, bits-few, bits_none, bits-less, bits-next}

module _ (returned : List ℕ) (mask : ℕ) where
  -- n values are written: with those of the readers in rest these are all
  pub record Written (n rest : ℕ) (values : List ℕ) : Type 0 where
    pub fits : rest < 2 ^ capacity
    pub room : n + length (bits capacity rest) ≤ capacity
    pub long : length values ≡ row_length
    pub told : take n values ++ map (value_in returned) (bits capacity rest) ≡ map (value_in returned) (bits capacity mask)

  pub read-start : mask < 2 ^ capacity → (values : List ℕ) → length values ≡ row_length → Written 0 mask values
  read-start h values long =
      record { fits = h; room = omega (arith, bits-few capacity mask); long = long; told = refl }

  -- none is left
  pub read-end : (n rest : ℕ) (values : List ℕ) → Written n rest values → rest ≡ 0 →
      take n values ≡ map (value_in returned) (bits capacity mask)
  read-end n rest values s z =
      sym (ap (λ (l : List ℕ). take n values ++ map (value_in returned) l) (bits_none capacity rest z) ∙ append-nil (take n values))
      ∙ s.told

  -- The lowest reader e of rest is written.
  module _ (n rest e b : ℕ) (values : List ℕ) (s : Written n rest values) (h : 0 < rest)
      (q : e ≡ count_trailing_zeros capacity rest) (p : b ≡ 2 ^ e) where
    next : bits capacity rest ≡ e ∷ bits capacity (bit_xor rest b)
    next = bits-next capacity rest e b h s.fits q p

    pub read-room : n < capacity
    read-room = omega (arith, s.room, ap length next)

    pub read_more : (r : ℕ) → r ≡ value_in returned e → Written (n + 1) (bit_xor rest b) (set values n r)
    read_more r k = record {
      fits = omega (arith, s.fits, bits-less capacity rest e b h s.fits q p);
      room = omega (arith, s.room, ap length next);
      long = length-set values n r ∙ s.long;
      told =
          ap (λ (j : ℕ). take j (set values n r) ++ later) (add-one n)
          ∙ ap (λ (l : List ℕ). l ++ later) (take-suc-set values n r (omega (arith, s.long, read-room)))
          ∙ append_assoc (take n values) (r ∷ []) later
          ∙ ap (λ (y : ℕ). take n values ++ (y ∷ later)) k
          ∙ sym (ap (λ (l : List ℕ). take n values ++ map (value_in returned) l) next) ∙ s.told;
    }
      where
        later : List ℕ
        later = map (value_in returned) (bits capacity (bit_xor rest b))
