use Prim.Native.Nat.{◌+◌}
use native.Mathlib.Omega.{arith}
use lib.ListN.{set, length-set}
use Rattle.record_bytes.proofs.SetLaws.{set-four}
use Rattle.record_bytes.proofs.put_codes.Goals as goal

pub bounds-block-at-2 : goal.bounds-block-at-2
bounds-block-at-2 c = omega (arith, c.requires, length-set c.args.block.now (c.args.at + 0) c.args.e.kind)

pub bounds-block-at-3 : goal.bounds-block-at-3
bounds-block-at-3 c = let a = c.args in
    let l = set a.block.now (a.at + 0) a.e.kind in
    omega (arith, c.requires, length-set a.block.now (a.at + 0) a.e.kind, length-set l (a.at + 1) a.e.hart)

pub bounds-block-at-4 : goal.bounds-block-at-4
bounds-block-at-4 c = let a = c.args in
    let l = set a.block.now (a.at + 0) a.e.kind in
    let m = set l (a.at + 1) a.e.hart in
    omega (arith, c.requires, length-set a.block.now (a.at + 0) a.e.kind, length-set l (a.at + 1) a.e.hart, length-set m (a.at + 2) a.e.location.0)

pub returns : goal.returns
returns c = let a = c.args in
    set-four a.block.now a.at a.e.kind a.e.hart a.e.location.0 a.e.flags
