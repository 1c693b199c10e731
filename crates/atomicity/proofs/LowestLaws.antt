-- Laws of a search for the lowest event that passes a test.
use Prim.Native.Nat.{ℕ, ◌<◌}
use mathlib.Core.Path.{◌≡◌, sym, ap}
use mathlib.Core.Bool.{Bool}
use native.Mathlib.Omega.{arith}
use borrow.Author.Tests.{lt-ltb, le-ltb}
use Rattle.std.proofs.Common.{Option, Some, None, SomeIff, is_some, unwrap_or}
use Rattle.lists.specs.Below.{lowest, some}
use Rattle.lists.proofs.SomeLaws.{lowest-le}
use Rattle.table.specs.declared.EventNo.{EventNo}

module _ (n : ℕ) (f : ℕ → Bool) where
  -- what is found is the lowest below n that passes
  abbrev pub Found : Option EventNo → Type 0
  Found o = SomeIff o (lowest n f < n) (record { 0 = lowest n f })

  -- it is found where some passes
  pub found-some : (o : Option EventNo) → Found o → is_some o ≡ some n f
  found-some None h = sym (le-ltb _ _ (omega (arith, h)))
  found-some (Some e) h = sym (lt-ltb _ _ h.0)

  -- with n for none it is the lowest
  pub found-lowest : (o : Option EventNo) → Found o → (unwrap_or o (record { 0 = n })).0 ≡ lowest n f
  found-lowest None h = omega (arith, h, lowest-le n f)
  found-lowest (Some e) h = ap (λ (x : EventNo). x.0) h.1
