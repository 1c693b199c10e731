use mathlib.Core.Path.{ap, ◌∙◌}
use Rattle.decode.specs.Decoded.{headed, decoded_as}
use Rattle.decode.proofs.decode.Goals as goal

-- `decode`: the header block's fields and the slots.
pub returns : goal.returns
unfolding decoded_as
returns c = c.headed.ensures ∙ ap (headed _) c.events.ensures
