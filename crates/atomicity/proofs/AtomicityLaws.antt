-- How the tests that the code makes join to the places where atomicity breaks.
use Prim.Native.Nat.{ℕ}
use mathlib.Core.Path.{◌≡◌, refl}
use mathlib.Core.Bool.{Bool, true, false, not, ◌&&◌, ◌||◌}
use mathlib.Core.List.{List}
use lib.Dec.{eqb}
use Rattle.lists.specs.Below.{lowest}
use Rattle.lists.proofs.SomeLaws.{some-none}
use Rattle.lists.specs.Lists.{before}
use Rattle.table.specs.declared.Table.{Table}
use Rattle.table.specs.Events.{hart, kind, writes, same_location, po, paired, lr}
use Rattle.model.specs.Rules.{from, initially}
use Rattle.model.specs.Axioms.{write_is_late, intrudes, breaks_pair, breaks_atomicity, atomicity_writer}

-- w is another hart's write to l's location
abbrev foreign : Table → ℕ → ℕ → Bool
foreign t l w = writes t w && same_location t w l && not (eqb (hart t w) (hart t l))

pub intrudes-taken : (t : Table) (rf gmo : List ℕ) (l s w : ℕ) → foreign t l w ≡ true
    → ((eqb (from rf l) initially || before gmo (from rf l) w) && before gmo w s) ≡ intrudes t rf gmo l s w
unfolding intrudes
intrudes-taken t rf gmo l s w h = rw h

pub intrudes-left : (t : Table) (rf gmo : List ℕ) (l s w : ℕ) → foreign t l w ≡ false → false ≡ intrudes t rf gmo l s w
unfolding intrudes
intrudes-left t rf gmo l s w h = rw h

-- only an LR is paired
pub only-lr : (t : Table) (rf gmo : List ℕ) (l : ℕ) → eqb (kind t l) lr ≡ false → breaks_atomicity t rf gmo l ≡ false
unfolding breaks_atomicity breaks_pair paired
only-lr t rf gmo l h = some-none t.count (breaks_pair t rf gmo l) (λ s n. rw h (rest (po t l s) _ _ _))
  where
    rest : (p q r u : Bool) → (p && false && q && r && u) ≡ false
    rest true q r u = refl
    rest false q r u = refl

-- the writer named: the write that l returned from, if it is late
pub writer-late : (t : Table) (rf gmo : List ℕ) (l s : ℕ) → s ≡ lowest t.count (breaks_pair t rf gmo l)
    → write_is_late rf gmo l s ≡ true → from rf l ≡ atomicity_writer t rf gmo l
unfolding atomicity_writer
writer-late t rf gmo l s e h = rw (← e, h)

-- else the lowest that intrudes
pub writer-between : (t : Table) (rf gmo : List ℕ) (l s : ℕ) → s ≡ lowest t.count (breaks_pair t rf gmo l)
    → write_is_late rf gmo l s ≡ false → lowest t.count (intrudes t rf gmo l s) ≡ atomicity_writer t rf gmo l
unfolding atomicity_writer
writer-between t rf gmo l s e h = rw (← e, h)
