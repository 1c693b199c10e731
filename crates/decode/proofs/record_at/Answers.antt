use native.Mathlib.Nat.{add-zero}
use mathlib.Core.Path.{ap, ◌∙◌}
use Rattle.decode.specs.Layout.{byte_at}
use Rattle.table.proofs.SameFields.{event-same}
use Rattle.decode.proofs.record_at.Goals as goal

-- `record_at`: each field is what its reader gave; the kind stands at the record's start.
pub returns : goal.returns
returns c = let v = c.args in
    event-same _ _ (c.byte_at.ensures ∙ ap (byte_at v.s.now) (add-zero v.at)) c.byte_at-2.ensures c.byte_at-3.ensures c.byte_at-4.ensures
    c.mask_at.ensures c.mask_at-2.ensures c.mask_at-3.ensures c.word_at.ensures
    c.word_at-2.ensures c.byte_at-5.ensures c.byte_at-6.ensures
