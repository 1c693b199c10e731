-- Laws of a returned list's entries.
use Prim.Native.Nat.{ℕ, zero, suc, ◌<◌}
use mathlib.Core.Path.{◌≡◌, refl}
use mathlib.Core.List.{List, [], ◌∷◌}
use native.Mathlib.Omega.{arith}
use lib.ListN.{length, get_or}
use Rattle.model.specs.Rules.{from}

-- an entry that is there is the one that the code reads
pub from_at : (rf : List ℕ) (e : ℕ) → e < length rf → get_or rf e 0 ≡ from rf e
unfolding from
from_at [] e h = absurd (omega arith)
from_at (w ∷ rf) zero h = refl
from_at (w ∷ rf) (suc e) h = from_at rf e (omega arith)
