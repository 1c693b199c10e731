-- What a decision leaves in a lent memo, for C.
use Rattle.std.specs.Prelude.{ℕ, List, ◌≡◌}
use Rattle.std.proofs.Math.Option.{Option}
use Rattle.lists.specs.Reply.{Reply, refused, answered}
use Rattle.refusals.specs.Lines.{Refused}

-- where the call is refused it stays as it was; else any words
abbrev pub MemoLeft : (before after : List ℕ) → Reply Refused (Option (List ℕ)) → Type 0
MemoLeft before after (refused r) = after ≡ before
MemoLeft before after (answered o) = Unit {0}
