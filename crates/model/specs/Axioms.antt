-- "The rules": the axioms of a candidate (rf, gmo), each as the test of the place where it breaks.
use Rattle.std.specs.Prelude.{ℕ, Bool, cond, ◌&&◌, ◌||◌, not, List, get_or, eqb}
use Rattle.lists.specs.Below.{lowest, some}
use Rattle.lists.specs.Lists.{before}
use Rattle.masks.specs.Bit.{bit}
use Rattle.table.specs.declared.Table.{Table}
use Rattle.table.specs.Events.{event, hart, reads, writes, same_location, paired}
use Rattle.model.specs.Rules.{initially, from, ppo}
use Rattle.model.specs.Returns.{return_of, written_value, value_read, final_value}

-- preserved order puts a before b, and the order doesn't
unfoldable pub breaks_ppo : Table → List ℕ → List ℕ → ℕ → ℕ → Bool
breaks_ppo t rf gmo a b = ppo t rf a b && not (before gmo a b)

-- "Load value": reader r doesn't return from the write that the order determines
unfoldable pub breaks_load_value : Table → List ℕ → List ℕ → ℕ → Bool
breaks_load_value t rf gmo r = reads t r && not (eqb (from rf r) (return_of t gmo r))

-- "the write that the LR returned from precedes the SC in the order": it doesn't ("Initial writes .. precede everything")
unfoldable pub write_is_late : List ℕ → List ℕ → ℕ → ℕ → Bool
write_is_late rf gmo l s = not (eqb (from rf l) initially) && not (before gmo (from rf l) s)

-- "no other hart's write to the location stands after it and before the SC": w does
unfoldable pub intrudes : Table → List ℕ → List ℕ → ℕ → ℕ → ℕ → Bool
intrudes t rf gmo l s w =
    writes t w && same_location t w l && not (eqb (hart t w) (hart t l))
    && (eqb (from rf l) initially || before gmo (from rf l) w)
    && before gmo w s

-- "Atomicity: for paired LR and SC"
unfoldable pub breaks_pair : Table → List ℕ → List ℕ → ℕ → ℕ → Bool
breaks_pair t rf gmo l s = paired t l s && (write_is_late rf gmo l s || some t.count (intrudes t rf gmo l s))

-- atomicity breaks at the LR l
unfoldable pub breaks_atomicity : Table → List ℕ → List ℕ → ℕ → Bool
breaks_atomicity t rf gmo l = some t.count (breaks_pair t rf gmo l)

-- the writer named: "the lowest foreign writer between; if the write itself fails to precede, that write"
unfoldable pub atomicity_writer : Table → List ℕ → List ℕ → ℕ → ℕ
atomicity_writer t rf gmo l =
    let s = lowest t.count (breaks_pair t rf gmo l) in
    cond (write_is_late rf gmo l s) (from rf l) (lowest t.count (intrudes t rf gmo l s))

-- "each reader returns its stated value": reader r doesn't
unfoldable pub breaks_value_read : Table → List ℕ → ℕ → Bool
breaks_value_read t rf r = reads t r && not (eqb (value_read t (written_value t) rf r) (event t r).read)

-- "each stated final value is that of the location's last write": that of x isn't
unfoldable pub breaks_final_value : Table → List ℕ → ℕ → Bool
breaks_final_value t gmo x = bit t.stated x && not (eqb (final_value t gmo x) (get_or t.finals x 0))

-- The axioms hold if they break nowhere.
unfoldable pub preserved_order : Table → List ℕ → List ℕ → Bool
preserved_order t rf gmo = not (some t.count (λ a. some t.count (breaks_ppo t rf gmo a)))

unfoldable pub load_value : Table → List ℕ → List ℕ → Bool
load_value t rf gmo = not (some t.count (breaks_load_value t rf gmo))

unfoldable pub atomicity : Table → List ℕ → List ℕ → Bool
atomicity t rf gmo = not (some t.count (breaks_atomicity t rf gmo))

unfoldable pub values_read : Table → List ℕ → Bool
values_read t rf = not (some t.count (breaks_value_read t rf))

unfoldable pub final_values : Table → List ℕ → Bool
final_values t gmo = not (some t.locations (breaks_final_value t gmo))
