use Prim.Native.Nat.{ℕ}
use mathlib.Core.List.{List}
use mathlib.Core.Path.{ap, ◌∙◌}
use native.Mathlib.Omega.{arith}
use lib.ListN.{set, length-set}
use lib.Seq.{sets}
use Rattle.encode.specs.Encoded.{count_bytes}
use Rattle.encode.proofs.put_header.Goals as goal

pub bounds-block-9 : goal.bounds-block-9
bounds-block-9 c = let t = c.args.t in
    omega (arith, length-set c.put_counts.new.block 8 t.stated)

pub shape_of-block : goal.shape_of-block
shape_of-block c = let counts = c.put_counts.new.block in
    let t = c.args.t in
    omega (arith, length-set counts 8 t.stated, length-set (set counts 8 t.stated) 9 t.model)

pub returns : goal.returns
returns c = let t = c.args.t in
    ap (λ (l : List ℕ). set (set l 8 t.stated) 9 t.model)
    (c.put_counts.ensures ∙ ap (λ (l : List ℕ). sets l 4 (count_bytes t)) c.put_marker.ensures)
