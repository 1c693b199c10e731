use Prim.Native.Nat.{◌+◌}
use mathlib.Core.List.{◌++◌}
use mathlib.Core.Path.{◌∙◌}
use native.Mathlib.Omega.{arith}
use Rattle.record_bytes.specs.RecordBytes.{two}
use Rattle.record_bytes.proofs.SetLaws.{sets_more}
use Rattle.record_bytes.proofs.put_masks.Goals as goal

pub returns : goal.returns
returns c = let a = c.args in
    let e = c.args.e in
    let first = c.put_word in
    let second = c.put_word-2 in
    let both = second.ensures ∙ sets_more (two e.addr) (two e.«data») a.block.now first.new.block (a.at + 4) (a.at + 6) first.ensures (omega arith) in
    c.put_word-3.ensures ∙ sets_more (two e.addr ++ two e.«data») (two e.ctrl) a.block.now second.new.block (a.at + 4) (a.at + 8) both (omega arith)
