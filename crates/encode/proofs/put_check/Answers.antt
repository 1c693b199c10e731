use Prim.Native.Nat.{ℕ}
use mathlib.Core.Path.{sym, ap, ◌∙◌}
use mathlib.Core.List.{List, ◌++◌, append_assoc}
use native.Mathlib.Omega.{arith}
use lib.ListN.{take}
use lib.Seq.{sets-eq, drop-drop}
use Rattle.checksum.specs.Checksum.{checksum}
use Rattle.encode.specs.Encoded.{four}
use Rattle.encode.proofs.put_check.Goals as goal

pub returns : goal.returns
returns c = let l = c.args.block.now in
    let check = four (checksum l) in
    rw (c.copy_from_slice.ensures.after, c.to_le_bytes.ensures, c.checksum-check.ensures, c.requires)
    (ap (λ (rest : List ℕ). take 508 l ++ (check ++ rest)) (drop-drop 4 508 l) ∙ sym (append_assoc (take 508 l) check _) ∙ sym (sets-eq check l 508 (omega arith)))
