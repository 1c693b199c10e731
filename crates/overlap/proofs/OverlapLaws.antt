-- How the tests that the code makes for rule 2 join to it.
use Prim.Native.Nat.{ℕ}
use mathlib.Core.Path.{◌≡◌, refl, sym}
use mathlib.Core.Bool.{Bool, true, false, not, ◌&&◌, true≢false, false≢true, and-false}
use mathlib.Core.List.{List}
use lib.Dec.{eqb}
use Rattle.lists.specs.Below.{some}
use Rattle.table.specs.declared.Table.{Table}
use Rattle.table.specs.Events.{reads, same_location}
use Rattle.model.specs.Rules.{from, rule2}
use Rattle.overlap.specs.Between.{overwrites}

-- the outer tests of a conjunction passed: the middle decides
middle-taken : (p q r : Bool) → (p && r) ≡ true → q ≡ (p && q && r)
middle-taken true true true h = refl
middle-taken true false true h = refl
middle-taken true q false h = absurd (false≢true h)
middle-taken false q r h = absurd (false≢true h)

-- one of them failed: the middle doesn't matter
middle-left : (p q r : Bool) → (p && r) ≡ false → false ≡ (p && q && r)
middle-left true q true h = absurd (true≢false h)
middle-left true q false h = sym (and-false q)
middle-left false q r h = refl

-- what rule 2 says of a and b alone
abbrev differently : Table → List ℕ → ℕ → ℕ → Bool
differently t rf a b = reads t a && reads t b && same_location t a b && not (eqb (from rf a) (from rf b))

pub rule2-taken : (t : Table) (rf : List ℕ) (a b : ℕ) → differently t rf a b ≡ true
    → not (some t.count (overwrites t a b)) ≡ rule2 t rf a b
unfolding rule2 overwrites
rule2-taken t rf a b h =
    middle-taken (reads t a && reads t b && same_location t a b) (not (some t.count (overwrites t a b)))
    (not (eqb (from rf a) (from rf b))) h

pub rule2-left : (t : Table) (rf : List ℕ) (a b : ℕ) → differently t rf a b ≡ false → false ≡ rule2 t rf a b
unfolding rule2 overwrites
rule2-left t rf a b h =
    middle-left (reads t a && reads t b && same_location t a b) (not (some t.count (overwrites t a b)))
    (not (eqb (from rf a) (from rf b))) h
