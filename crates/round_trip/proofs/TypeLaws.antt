-- Each entry of a list has a property, told by a loop over its places.
use Prim.Native.Nat.{ℕ, suc, ◌+◌, ◌^◌, ◌<◌}
use mathlib.Core.Path.{◌≡◌, sym, subst}
use mathlib.Core.List.{List, [], ◌∷◌}
use mathlib.Core.Logic.{⊎_elim}
use native.Mathlib.Nat.{eq-or-lt_of_le}
use native.Mathlib.Omega.{arith}
use lib.ListN.{length, get_or}
use Rattle.writer.specs.Fits.{Bytes}

module _ {A : Type 0} (P : A → Type 0) (l : List A) (d : A) where
  -- the first i entries have it
  abbrev pub EachBelow : ℕ → Type 0
  EachBelow i = (k : ℕ) → k < i → P (get_or l k d)

  pub none_yet : EachBelow 0
  none_yet k h = absurd (omega arith)

  pub one_more : (i : ℕ) → EachBelow i → P (get_or l i d) → EachBelow (i + 1)
  one_more i h p k m =
      ⊎_elim (λ (e : k ≡ i). subst (λ (j : ℕ). P (get_or l j d)) (sym e) p) (λ q. h k q) (eq-or-lt_of_le {n = k} {m = i} (omega arith))

-- a list each of whose entries is below a byte's bound
pub bytes_of : (s : List ℕ) → ((k : ℕ) → k < length s → get_or s k 0 < 2 ^ 8) → Bytes s
bytes_of [] h = tt
bytes_of (b ∷ s) h = (h 0 (omega arith), bytes_of s (λ k l. h (suc k) (omega arith)))
