use Prim.Native.Nat.{◌+◌}
use mathlib.Core.List.{◌++◌}
use mathlib.Core.Path.{◌∙◌}
use native.Mathlib.Omega.{arith}
use Rattle.record_bytes.specs.RecordBytes.{two, code_bytes, mask_bytes, operation_bytes, record_bytes}
use Rattle.record_bytes.proofs.SetLaws.{sets_more}
use Rattle.record_bytes.proofs.put_record.Goals as goal

pub returns : goal.returns
unfolding record_bytes
returns c = let a = c.args in
    let l = c.args.block.now in
    let e = c.args.e in
    let codes = c.put_codes in
    let masks = c.put_masks in
    let read = c.put_word in
    let written = c.put_word-2 in
    let two-parts = masks.ensures ∙ sets_more (code_bytes e) (mask_bytes e) l codes.new.block a.at (a.at + 4) codes.ensures (omega arith) in
    let three-parts = (rw c.from.ensures at read.ensures) ∙ sets_more (code_bytes e ++ mask_bytes e) (two e.read) l masks.new.block a.at (a.at + 10) two-parts (omega arith) in
    let four-parts = (rw c.from-2.ensures at written.ensures) ∙ sets_more (code_bytes e ++ mask_bytes e ++ two e.read) (two e.written) l read.new.block a.at (a.at + 12) three-parts (omega arith) in
    c.put_operation.ensures
    ∙ sets_more (code_bytes e ++ mask_bytes e ++ two e.read ++ two e.written) (operation_bytes e) l written.new.block a.at (a.at + 14) four-parts (omega arith)
