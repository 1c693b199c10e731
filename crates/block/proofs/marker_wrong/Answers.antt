use Prim.Native.Nat.{ℕ, ◌≤◌}
use mathlib.Core.Path.{◌≡◌, refl, ap, ◌∙◌}
use mathlib.Core.Bool.{Bool, true, false, not, ◌&&◌, ◌||◌}
use mathlib.Core.List.{List, [], ◌∷◌}
use native.Mathlib.Omega.{arith}
use lib.ListN.{length}
use lib.Dec.{eqb}
use Rattle.std.specs.List.{starts_with}
use Rattle.lists.proofs.BoolLaws.{eqb_comm}
use Rattle.block.specs.Reading.{line3}
use Rattle.block.proofs.marker_wrong.Goals as goal

one-wrong : (a b c d : Bool) → not (a && (b && (c && (d && true)))) ≡ (not a || not b || not c || not d)
one-wrong false b c d = refl
one-wrong true false c d = refl
one-wrong true true false d = refl
one-wrong true true true false = refl
one-wrong true true true true = refl

wrong : (s : List ℕ) → 4 ≤ length s → not (starts_with eqb s (0x52 ∷ 0x56 ∷ 0x54 ∷ 0x31 ∷ [])) ≡ line3 s
wrong [] h = absurd (omega arith)
wrong (a ∷ []) h = absurd (omega arith)
wrong (a ∷ b ∷ []) h = absurd (omega arith)
wrong (a ∷ b ∷ c ∷ []) h = absurd (omega arith)
wrong (a ∷ b ∷ c ∷ d ∷ s) h =
    rw (eqb_comm 0x52 a, eqb_comm 0x56 b, eqb_comm 0x54 c, eqb_comm 0x31 d) (one-wrong (eqb a 0x52) (eqb b 0x56) (eqb c 0x54) (eqb d 0x31))

pub returns : goal.returns
returns c = ap not c.starts_with.ensures.value ∙ wrong c.args.s.now (omega arith)
