-- "The block": flags and dependency masks.
use Rattle.std.specs.Prelude.{ℕ, ◌+◌, Bool, cond, ◌||◌, eqb}
use Rattle.std.specs.Int.Bits.{bit_or}
use Rattle.masks.specs.Bit.{bit}
use Rattle.table.specs.declared.Event.{Event}
use Rattle.table.specs.declared.Table.{Table}
use Rattle.table.specs.Events.{event, load, store, amo, lr, sc}

-- "Memory flags from bit 0: acquire-RCpc, acquire-RCsc, release-RCpc, release-RCsc."
abbrev pub acquire_pc : ℕ → Bool
acquire_pc f = bit f 0

abbrev pub acquire_sc : ℕ → Bool
acquire_sc f = bit f 1

abbrev pub release_pc : ℕ → Bool
release_pc f = bit f 2

abbrev pub release_sc : ℕ → Bool
release_sc f = bit f 3

-- an acquire, a release: of either kind
abbrev pub acquiring : ℕ → Bool
acquiring f = acquire_pc f || acquire_sc f

abbrev pub releasing : ℕ → Bool
releasing f = release_pc f || release_sc f

-- "Fence flags from bit 0: pr, pw, sr, sw"
abbrev pub pr : ℕ → Bool
pr f = bit f 0

abbrev pub pw : ℕ → Bool
pw f = bit f 1

abbrev pub sr : ℕ → Bool
sr f = bit f 2

abbrev pub sw : ℕ → Bool
sw f = bit f 3

unfoldable pub flags : Table → ℕ → ℕ
flags t e = (event t e).flags

-- "Header byte 9 becomes the model": 0 is RVWMO, 1 is RVTSO
abbrev pub rvwmo : ℕ
rvwmo = 0

abbrev pub rvtso : ℕ
rvtso = 1

-- "every load or LR behaves as if it had acquire-RCpc, every store or SC release-RCpc, and every AMO acquire-RCsc and
-- release-RCsc": the flags of these, by kind
unfoldable pub ztso : ℕ → ℕ
ztso k = cond (eqb k load || eqb k lr) 1 (cond (eqb k store || eqb k sc) 4 (cond (eqb k amo) (2 + 8) 0))

-- the annotations of a memory event, as the rules read them: the model's "besides what it carries"
unfoldable pub annotations : ℕ → Event → ℕ
annotations model e = bit_or e.flags (cond (eqb model rvtso) (ztso e.kind) 0)

-- e has an acquire annotation
unfoldable pub acquire : Table → ℕ → Bool
acquire t e = acquiring (annotations t.model (event t e))

-- e has a release annotation
unfoldable pub release : Table → ℕ → Bool
release t e = releasing (annotations t.model (event t e))

-- e has an RCsc annotation
unfoldable pub rcsc : Table → ℕ → Bool
rcsc t e = acquire_sc (annotations t.model (event t e)) || release_sc (annotations t.model (event t e))

-- "Bit k of a record's mask (bit 0 lowest) names event k, an earlier event depended on"
unfoldable pub address_depends : Table → ℕ → ℕ → Bool
address_depends t b a = bit (event t b).addr a

unfoldable pub data_depends : Table → ℕ → ℕ → Bool
data_depends t b a = bit (event t b).«data» a

unfoldable pub control_depends : Table → ℕ → ℕ → Bool
control_depends t b a = bit (event t b).ctrl a
