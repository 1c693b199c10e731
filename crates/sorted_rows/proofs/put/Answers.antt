use Prim.Native.Nat.{ℕ, ◌+◌, ◌*◌}
use native.Mathlib.Omega.{arith}
use mathlib.Core.Path.{sym, ap, ◌∙◌}
use mathlib.Core.List.{List}
use lib.ListN.{take}
use lib.Seq.{length-take-le, paste}
use Rattle.std.proofs.lemmas.Slice.{put_mid-paste}
use Rattle.sorted_rows.specs.Sorted.{rows}
use Rattle.sorted_rows.proofs.PutLaws.{put-rows}
use Rattle.sorted_rows.proofs.put.Goals as goal

pub returns : goal.returns
returns c = let a = c.args in
    let o = take a.width a.value.now in
    let wide = length-take-le a.width a.value.now c.requires.2 in
    ap (rows a.width (a.last + 1))
    (put_mid-paste _ _ _ _ o a.width c.copy_from_slice.ensures.after (omega arith) (sym wide)
    ∙ ap (λ (x : List ℕ). paste x (a.width * a.at) o a.width) c.copy_within.ensures.after)
    ∙ put-rows a.width a.at a.last o a.kept.now c.requires.0 c.requires.1 wide
