-- The loop of a walk: what holds at each turn, of every table whose masks and facts it was handed.
use Prim.Native.Nat.{ℕ, suc, ◌+◌, ◌*◌, ◌/◌, ◌^◌, ◌≤◌, ◌<◌}
use native.Mathlib.Omega.{arith}
use mathlib.Core.Path.{◌≡◌, refl, sym, ap, subst, ◌∙◌}
use mathlib.Core.Bool.{Bool, true, false, cond}
use mathlib.Core.List.{List, ◌∷◌, [], ◌++◌}
use mathlib.Core.Logic.{◌⊎◌}
use lib.ListN.{length, get_or, take, set, length-set}
use lib.Bits.{bit_and, bit_or, bit_xor}
use lib.Count.{ones, count_trailing_zeros}
use lib.Dec.{eqb, ltb}
use borrow.Author.Tests.{lt-ltb}
use Rattle.lists.specs.Lists.{all}
use Rattle.lists.proofs.KeepLaws.{all-weaken}
use Rattle.masks.specs.Bit.{bit}
use Rattle.masks.proofs.WithinLaws.{bit_below}
use Rattle.table.specs.declared.Table.{Table}
use Rattle.table.specs.Events.{capacity}
use Rattle.order_test.specs.Testing.{Fitting}
use Rattle.condition_test.specs.Kept.{Starts, Keeps}
use Rattle.condition_test.specs.Wanted.{Witnesses}
use Rattle.condition_test.proofs.RunLaws.{starts-keeps}
use Rattle.model.specs.Witness.{witness_for}
use Rattle.successors.specs.CleanMasks.{slots, limit}
use Rattle.successors.specs.Waiting.{Prepared}
use Rattle.ready_events.specs.Current.{Current}
use Rattle.ready_events.proofs.CleanLaws.{clean-events, clean-ones, clean-short}
use Rattle.engine.specs.State.{Holds}
use Rattle.engine.proofs.StepLaws.{Standing, stand-start, start_from, stand-back, stand-on, stand-past, next-stored, next-clean, next-few, next-room}
use Rattle.witness_walk.specs.declared.Ending.{Ending}
use Rattle.witness_walk.specs.declared.Ending.TheVariants.{Found, NoneLeft, Spent}
use Rattle.witness_walk.specs.Ending.{answer_of}
use Rattle.witness_walk.specs.Running.{Watching, Seeking, EntersBy, good_behind, Begun, search_from, AtMost}
use Rattle.witness_walk.proofs.RunLaws.{Told, told-start, told_none, told_back, told-enters, told-spent, told-found, told-past, told-whole, told-witness, told-on}

-- the masks of the good stay as many
pub noted-long : (x : Bool) (goods : List ℕ) (k m : ℕ) → length (cond x goods (set goods k m)) ≡ length goods
noted-long true goods k m = refl
noted-long false goods k m = length-set goods k m

-- the walk began with keep₀ entries, the masks can₀ and later₀ and budget b, and stands behind keep entries, with v visited
pub record Going (facts : List (List ℕ)) (words preds succs : List ℕ) (mem watched : ℕ) (order₀ goods₀ : List ℕ) (keep₀ can₀ later₀ b : ℕ)
    (order goods seen kept : List ℕ) (keep placed can later last v : ℕ) : Type 0 where
  pub lowest : ℕ
  pub stands : Standing preds succs mem order keep placed can later lowest
  pub long : length goods ≡ slots
  pub few : ones last ≤ ones mem
  pub spare : v ≤ b
  pub told : (t : Table) (outcome enters : List ℕ → Bool) → Watching t facts preds mem watched enters →
      Seeking t facts words outcome enters → Begun t enters watched order₀ goods₀ keep₀ can₀ later₀ →
      Told t outcome enters preds mem watched (take keep₀ order₀) b order goods keep later lowest last v
  -- what is kept of the test of the order seen last
  pub sighted : length seen ≡ capacity
  pub keeps : (t : Table) (outcome enters : List ℕ → Bool) → Watching t facts preds mem watched enters →
      Seeking t facts words outcome enters → Begun t enters watched order₀ goods₀ keep₀ can₀ later₀ → Keeps t words seen kept

-- what a walk answers, of every such table; its prefix stands at the front of the order, and has at most the memory events
abbrev pub Answers : List (List ℕ) → (words preds : List ℕ) → ℕ → ℕ → List ℕ → List ℕ → ℕ → ℕ → ℕ → ℕ → Ending → List ℕ → Type 0
Answers facts words preds mem watched order₀ goods₀ keep₀ can₀ later₀ b o order =
    ((t : Table) (outcome enters : List ℕ → Bool) → Watching t facts preds mem watched enters → Seeking t facts words outcome enters →
    Begun t enters watched order₀ goods₀ keep₀ can₀ later₀ → answer_of o order ≡ search_from t outcome enters (take keep₀ order₀) b 0)
    × ((length order ≡ slots) × AtMost (ones mem) o)

pub going_start : {facts : List (List ℕ)} {words preds succs order goods seen kept : List ℕ} {mem watched keep placed can later : ℕ} (b : ℕ) →
    Prepared preds succs mem → Holds preds mem order keep placed can → (later ≡ can) ⊎ (later ≡ 0) → length goods ≡ slots →
    length seen ≡ capacity → Starts words kept →
    Going facts words preds succs mem watched order goods keep can later b order goods seen kept keep placed can later placed 0
going_start {words = words} {preds = preds} {order = order} {seen = seen} {kept = kept} {mem = mem} {keep = keep} b tables state c long room fresh = record {
  lowest = start_from tables state c;
  stands = stand-start tables state c;
  long = long;
  few = omega (arith, ap ones state.mask, clean-ones preds mem (take keep order) state.clean, clean-short preds mem (take keep order) state.clean);
  spare = omega arith;
  told = λ t outcome enters w k g. told-start tables state c b w g;
  sighted = room;
  keeps = λ t outcome enters w k g. starts-keeps t words seen kept fresh;
}

module _ {facts : List (List ℕ)} {words preds succs order₀ goods₀ order goods seen kept : List ℕ} {mem watched keep₀ can₀ later₀ b keep placed can later last v : ℕ}
    (g : Going facts words preds succs mem watched order₀ goods₀ keep₀ can₀ later₀ b order goods seen kept keep placed can later last v) where
  abbrev at : Standing preds succs mem order keep placed can later g.lowest
  at = g.stands

  -- how the walk answers here
  abbrev Answer : Ending → List ℕ → Type 0
  Answer o order = Answers facts words preds mem watched order₀ goods₀ keep₀ can₀ later₀ b o order

  pub going-none : later ≡ 0 → keep ≡ 0 → Answer (NoneLeft v) order
  going-none z n = (λ t outcome enters w k s. sym (told_none w at (g.told t outcome enters w k s) z n), (at.holds.long, tt))

  pub going-back : {m e placed' can' later' : ℕ} → later ≡ 0 → keep ≡ suc m → e ≡ get_or order m 0 → placed' ≡ bit_xor placed (2 ^ e) →
      can' ≡ bit_or (bit_xor can (bit_and can (get_or succs e 0))) (2 ^ e) → later' ≡ can' / 2 ^ (e + 1) * 2 ^ (e + 1) →
      Going facts words preds succs mem watched order₀ goods₀ keep₀ can₀ later₀ b order goods seen kept m placed' can' later' last v
  going-back {e = e} z k q p c l = record {
    lowest = e + 1;
    stands = stand-back at k q p c l;
    long = g.long;
    few = g.few;
    spare = g.spare;
    told = λ t outcome enters w f s. told_back w at (g.told t outcome enters w f s) z k q;
    sighted = g.sighted;
    keeps = g.keeps;
  }

  -- e is the lowest event that is left to try.
  module _ {e : ℕ} (some : later ≡ 0 → ⊥) (low : e ≡ count_trailing_zeros slots later) where
    pub going-spent : (o : Ending) → o ≡ Spent (ones last) v → v ≡ b → Answer o order
    going-spent o i q = subst (λ (x : Ending). Answer x order) (sym i) (λ t outcome enters w k s. sym (told-spent w at (g.told t outcome enters w k s) some low q), (at.holds.long, g.few))

    -- Within the budget, it is stored and counted, and the mask of its prefix made.
    module _ (left : v ≡ b → ⊥) {last' c : ℕ} (q : last' ≡ bit_or placed c) (power : c ≡ 2 ^ e) where
      abbrev stored : List ℕ
      stored = set order keep e

      below : v < b
      below = omega (arith, g.spare, left)

      -- it may be tested as an order
      pub going-fitting : Fitting stored (keep + 1)
      going-fitting = record {
        long = length-set order keep e ∙ at.holds.long;
        within = omega (arith, next-room at some low q power);
        fitting = ap (all (λ x. ltb x capacity)) (next-stored at some low)
            ∙ all-weaken (bit mem) (λ x. ltb x capacity) (take keep order ++ (e ∷ []))
            (λ x h. lt-ltb x capacity (omega (arith, bit_below limit mem x at.tables.small h)))
            (clean-events preds mem (take keep order ++ (e ∷ [])) (next-clean at some low));
      }

      -- it is a witness
      pub going-found : (r : Bool) (seen' kept' : List ℕ) → last' ≡ mem →
          Witnesses facts words (take (keep + 1) stored) seen kept r seen' kept' → r ≡ true → (o : Ending) → o ≡ Found (ones last') (v + 1) → Answer o stored
      going-found r seen' kept' m j h o i = subst (λ (x : Ending). Answer x stored) (sym i) (
        λ t outcome enters w k s. sym (told-found w at (g.told t outcome enters w k s) some low q power below
            (sym (told-witness w at (g.told t outcome enters w k s) some low q power seen kept seen' kept' k r m j (g.keeps t outcome enters w k s)).0 ∙ h)),
        (length-set order keep e ∙ at.holds.long, next-few at some low q power),
      )

      -- it is passed over: the events past it are left to try
      module _ {later' : ℕ} (next : later' ≡ bit_xor later c) where
        abbrev Past : (seen kept : List ℕ) → Type 0
        Past seen kept =
            Going facts words preds succs mem watched order₀ goods₀ keep₀ can₀ later₀ b stored goods seen kept keep placed can later' last' (v + 1)

        past : (seen' kept' : List ℕ) → ((t : Table) (outcome enters : List ℕ → Bool) → Watching t facts preds mem watched enters →
            Seeking t facts words outcome enters → Begun t enters watched order₀ goods₀ keep₀ can₀ later₀ →
            Told t outcome enters preds mem watched (take keep₀ order₀) b stored goods keep later' (e + 1) last' (v + 1)) → length seen' ≡ capacity →
            ((t : Table) (outcome enters : List ℕ → Bool) → Watching t facts preds mem watched enters →
            Seeking t facts words outcome enters → Begun t enters watched order₀ goods₀ keep₀ can₀ later₀ → Keeps t words seen' kept') →
            Past seen' kept'
        past seen' kept' f room h = record {
          lowest = e + 1;
          stands = stand-past at some low (next ∙ ap (bit_xor later) power);
          long = g.long;
          few = next-few at some low q power;
          spare = omega (arith, below);
          told = f;
          sighted = room;
          keeps = h;
        }

        -- since it isn't entered
        pub going-past : (r : Bool) → EntersBy (bit watched e) facts placed (get_or goods keep 0) e r → r ≡ false → Past seen kept
        going-past r h n = past seen kept (λ t outcome enters w k s.
            told-past w at (g.told t outcome enters w k s) some low q power k below
            (sym (told-enters w at (g.told t outcome enters w k s) some low r h) ∙ n)) g.sighted g.keeps

        -- since it is whole, and no witness
        pub going-whole : (r : Bool) (seen' kept' : List ℕ) → last' ≡ mem →
            Witnesses facts words (take (keep + 1) stored) seen kept r seen' kept' → r ≡ false → length seen' ≡ capacity →
            Past seen' kept'
        going-whole r seen' kept' m j n room = past seen' kept'
            (λ t outcome enters w k s. told-whole w at (g.told t outcome enters w k s) some low q power below m (sym (test t outcome enters w k s).0 ∙ n))
            room (λ t outcome enters w k s. (test t outcome enters w k s).1)
          where
            test : (t : Table) (outcome enters : List ℕ → Bool) → Watching t facts preds mem watched enters →
                Seeking t facts words outcome enters → Begun t enters watched order₀ goods₀ keep₀ can₀ later₀ →
                (r ≡ witness_for t outcome (take keep order ++ (e ∷ []))) × Keeps t words seen' kept'
            test t outcome enters w k s =
                told-witness w at (g.told t outcome enters w k s) some low q power seen kept seen' kept' k r m j (g.keeps t outcome enters w k s)

      -- it is entered
      pub going_on : {goods' : List ℕ} {placed' can' : ℕ} (r : Bool) → EntersBy (bit watched e) facts placed (get_or goods keep 0) e r →
          r ≡ true → (last' ≡ mem → ⊥) →
          goods' ≡ cond (eqb watched 0) goods (set goods (keep + 1) (good_behind facts (get_or goods keep 0) e)) →
          placed' ≡ bit_or placed (2 ^ e) → Current preds mem placed' can' →
          Going facts words preds succs mem watched order₀ goods₀ keep₀ can₀ later₀ b stored goods' seen kept (keep + 1) placed' can' can' last' (v + 1)
      going_on {goods'} r h n m s p u = record {
        lowest = 0;
        stands = stand-on at some low p u;
        long = ap length s ∙ noted-long (eqb watched 0) goods (keep + 1) _ ∙ g.long;
        few = next-few at some low q power;
        spare = omega (arith, below);
        told = λ t outcome enters w k i. told-on w at (g.told t outcome enters w k i) some low q power below m
            (sym (told-enters w at (g.told t outcome enters w k i) some low r h) ∙ n) (omega (arith, g.long, next-room at some low q power)) s;
        sighted = g.sighted;
        keeps = g.keeps;
      }
