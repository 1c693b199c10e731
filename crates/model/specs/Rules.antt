-- "The rules": the thirteen rules of preserved program order (ppo), over a table and a returned list (reads-from, rf).
use Rattle.std.specs.Prelude.{ℕ, suc, Bool, true, false, ◌&&◌, ◌||◌, not, List, [], ◌∷◌, get_or, eqb}
use Rattle.lists.specs.Below.{some}
use Rattle.lists.specs.Lists.{any, kept}
use Rattle.table.specs.declared.Table.{Table}
use Rattle.table.specs.Events.{kind, reads, writes, memory, same_location, po, between, paired, amo, sc, fence, fencetso}
use Rattle.table.specs.Annotations.{flags, acquire, release, rcsc, address_depends, data_depends, control_depends, pr, pw, sr, sw}

-- a returned list's entry: "a non-reader's entry .. 254"
abbrev pub nothing : ℕ
nothing = 254

-- "255 (initial)"
abbrev pub initially : ℕ
initially = 255

-- what event e returned from
unfoldable pub from : List ℕ → ℕ → ℕ
from rf e = get_or rf e nothing

-- 1. "b writes, same location."
unfoldable pub rule1 : Table → ℕ → ℕ → Bool
rule1 t a b = writes t b && same_location t a b

-- 2. "Both read one location, no writer to it strictly between, and they return from different writes."
unfoldable pub rule2 : Table → List ℕ → ℕ → ℕ → Bool
rule2 t rf a b =
    reads t a && reads t b && same_location t a b
    && not (some t.count (λ m. between t a m b && writes t m && same_location t m a))
    && not (eqb (from rf a) (from rf b))

-- 3. "a is an AMO or SC, b reads and returns from a."
unfoldable pub rule3 : Table → List ℕ → ℕ → ℕ → Bool
rule3 t rf a b = (eqb (kind t a) amo || eqb (kind t a) sc) && reads t b && eqb (from rf b) a

-- "a reads and pr or a writes and pw, with b reads and sr or b writes and sw"
unfoldable pub fence_orders : Table → ℕ → ℕ → ℕ → Bool
fence_orders t a f b =
    eqb (kind t f) fence
    && (reads t a && pr (flags t f) || writes t a && pw (flags t f))
    && (reads t b && sr (flags t f) || writes t b && sw (flags t f))

-- "or fence.tso, where event a reads or both write"
unfoldable pub tso_orders : Table → ℕ → ℕ → ℕ → Bool
tso_orders t a f b = eqb (kind t f) fencetso && (reads t a || writes t a && writes t b)

-- 4. "A fence between: .."
unfoldable pub rule4 : Table → ℕ → ℕ → Bool
rule4 t a b = some t.count (λ f. between t a f b && (fence_orders t a f b || tso_orders t a f b))

-- 5. "a has an acquire."
unfoldable pub rule5 : Table → ℕ → ℕ → Bool
rule5 t a b = acquire t a

-- 6. "b has a release."
unfoldable pub rule6 : Table → ℕ → ℕ → Bool
rule6 t a b = release t b

-- 7. "Both have an RCsc annotation."
unfoldable pub rule7 : Table → ℕ → ℕ → Bool
rule7 t a b = rcsc t a && rcsc t b

-- 8. "a is the LR paired with SC b."
unfoldable pub rule8 : Table → ℕ → ℕ → Bool
rule8 t a b = paired t a b

-- 9. "b's address depends on a."
unfoldable pub rule9 : Table → ℕ → ℕ → Bool
rule9 t a b = address_depends t b a

-- 10. "b's data depends on a."
unfoldable pub rule10 : Table → ℕ → ℕ → Bool
rule10 t a b = data_depends t b a

-- 11. "b writes and has a control dependency on a."
unfoldable pub rule11 : Table → ℕ → ℕ → Bool
rule11 t a b = writes t b && control_depends t b a

-- 12. "b reads from a writer m strictly between, whose address or data depends on a."
unfoldable pub rule12 : Table → List ℕ → ℕ → ℕ → Bool
rule12 t rf a b =
    reads t b
    && some t.count
    (λ m. between t a m b && writes t m && eqb (from rf b) m && (address_depends t m a || data_depends t m a))

-- 13. "b writes, and some m strictly between has an address dependency on a."
unfoldable pub rule13 : Table → ℕ → ℕ → Bool
rule13 t a b = writes t b && some t.count (λ m. between t a m b && memory t m && address_depends t m a)

-- "a is earlier on the same hart, both are memory events"
unfoldable pub may_order : Table → ℕ → ℕ → Bool
may_order t a b = po t a b && memory t a && memory t b

-- which of the thirteen hold, in their order
unfoldable pub rules : Table → List ℕ → ℕ → ℕ → List Bool
rules t rf a b =
    rule1 t a b ∷ rule2 t rf a b ∷ rule3 t rf a b ∷ rule4 t a b ∷ rule5 t a b ∷ rule6 t a b ∷ rule7 t a b ∷ rule8 t a b
    ∷ rule9 t a b ∷ rule10 t a b ∷ rule11 t a b ∷ rule12 t rf a b ∷ rule13 t a b ∷ []

-- "Rules 2, 3 and 12 look at what was returned; the other ten are the steady rules."
unfoldable pub static_rules : Table → ℕ → ℕ → List Bool
static_rules t a b =
    rule1 t a b ∷ rule4 t a b ∷ rule5 t a b ∷ rule6 t a b ∷ rule7 t a b ∷ rule8 t a b ∷ rule9 t a b ∷ rule10 t a b
    ∷ rule11 t a b ∷ rule13 t a b ∷ []

abbrev pub holds : Bool → Bool
holds b = b

-- "Preserved order puts a before b if .. one holds"
unfoldable pub ppo : Table → List ℕ → ℕ → ℕ → Bool
ppo t rf a b = may_order t a b && any holds (rules t rf a b)

-- a is a steady predecessor of b
unfoldable pub static_ppo : Table → ℕ → ℕ → Bool
static_ppo t a b = may_order t a b && any holds (static_rules t a b)

-- the numbers, from k on, of the tests that hold
abbrev pub numbered : ℕ → List Bool → List ℕ
numbered k [] = []
numbered k (b ∷ bs) = kept b k (numbered (suc k) bs)

-- the set of the rules by which preserved order puts a before b, ascending
unfoldable pub rule_set : Table → List ℕ → ℕ → ℕ → List ℕ
rule_set t rf a b = numbered 1 (rules t rf a b)
