-- Laws for nested loops that stop at the lowest pair.
use Prim.Native.Nat.{ℕ, ◌+◌, ◌≤◌, ◌<◌}
use mathlib.Core.Path.{◌≡◌}
use mathlib.Core.Bool.{Bool, true, false}
use mathlib.Core.List.{List}
use Rattle.lists.specs.Below.{some}
use Rattle.lists.proofs.ScanLaws.{Scanned, scan-more, scan-hit, some-hit, some_end}
use Rattle.table.specs.declared.Table.{Table}
use Rattle.model.specs.Rules.{may_order, ppo}
use Rattle.model.specs.Axioms.{breaks_ppo}
use Rattle.verdict.specs.Pairs.{LowestPair}

-- no pair with a lower first number passes
abbrev pub PairsScanned : (ℕ → ℕ → Bool) → ℕ → ℕ → Type 0
PairsScanned f n a = Scanned (λ x. some n (f x)) n a

-- (a, b) passes: it is the lowest
pub pair-hit : (f : ℕ → ℕ → Bool) (n a b : ℕ) → PairsScanned f n a → a < n → Scanned (f a) n b → b < n → f a b ≡ true → LowestPair n f a b
pair-hit f n a b p k s l h =
    record {
      below = k;
      first = scan-hit (λ x. some n (f x)) n a p k (some-hit (f a) n b s l h);
      within = l;
      second = scan-hit (f a) n b s l h;
    }

-- no pair with a passes: the next
pub row-end : (f : ℕ → ℕ → Bool) (n a b : ℕ) → PairsScanned f n a → a < n → Scanned (f a) n b → n ≤ b → PairsScanned f n (a + 1)
row-end f n a b p k s l = scan-more (λ x. some n (f x)) n a p k (some_end (f a) n b s l)

-- a pair that no rule can order is not broken
pub cannot-break : (t : Table) (rf gmo : List ℕ) (a b : ℕ) → may_order t a b ≡ false → breaks_ppo t rf gmo a b ≡ false
unfolding breaks_ppo ppo
cannot-break t rf gmo a b h = rw h
