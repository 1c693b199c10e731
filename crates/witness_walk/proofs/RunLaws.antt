-- The turns of a walk, of a table whose masks and facts it was handed: what is left of its search.
use Prim.Native.Nat.{ℕ, suc, ◌+◌, ◌-◌, ◌^◌, ◌<◌}
use native.Mathlib.Omega.{arith}
use native.Mathlib.Nat.{sub-zero}
use native.Mathlib.Numerals.{add-one}
use mathlib.Core.Path.{◌≡◌, sym, ap, ap₂, subst, ◌∙◌, fun_ext}
use mathlib.Core.Bool.{Bool, true, false, cond, true≢false}
use mathlib.Core.List.{List, [], ◌∷◌, ◌++◌}
use mathlib.Core.Logic.{◌⊎◌}
use lib.ListN.{length, get_or, take, set}
use lib.Seq.{take-set-le}
use lib.Bits.{bit_or}
use lib.Count.{ones, count_trailing_zeros}
use lib.Dec.{eqb, ltb}
use borrow.Author.Tests.{ltb-true}
use Rattle.lists.proofs.BoolLaws.{and_l, is_false}
use Rattle.masks.specs.Bit.{bit}
use Rattle.masks.specs.MaskOf.{mask_of}
use Rattle.masks.proofs.MaskOfLaws.{mask-has}
use Rattle.table.specs.declared.Table.{Table}
use Rattle.table.specs.Events.{memory_events, memory_mask}
use Rattle.table.proofs.MemoryLaws.{memory-has}
use Rattle.prefixes.specs.Listed.{after}
use Rattle.prefixes.specs.Answer.{found, none_left, spent}
use Rattle.model.specs.Returns.{final_value}
use Rattle.model.specs.Witness.{is_order, witness_for}
use Rattle.model.specs.Prefixes.{clean}
use Rattle.model.proofs.PrefixLaws.{passing-listed, passing-ascending, clean-closed}
use Rattle.order_facts.specs.Facts.{mask_by, good}
use Rattle.condition_test.specs.Kept.{Keeps}
use Rattle.condition_test.specs.Wanted.{Witnesses}
use Rattle.successors.specs.CleanMasks.{slots, clean_by}
use Rattle.successors.specs.Waiting.{Prepared}
use Rattle.ready_events.proofs.CleanLaws.{event}
use Rattle.engine.specs.State.{Holds}
use Rattle.engine.specs.Entered.{reachable, Listing}
use Rattle.engine.proofs.EnteredLaws.{reachable-closed, reachable-only, reachable-not, reachable-passes}
use Rattle.engine.proofs.EngineLaws.{step-none, step-spent, step-found, step-on}
use Rattle.engine.proofs.StepLaws.{Standing, Ahead, ahead-start, start_from, lowest-may, next-stored, next-clean}
use Rattle.engine.proofs.StepLaws.{next-mask, next-front, whole-shut, ahead-end, ahead-back, ahead-next, ahead-on, ahead_past}
use Rattle.precedence.specs.Precedence.{predecessor_masks}
use Rattle.precedence.proofs.PrecedenceLaws.{clean-same, whole-mask, whole-order, not-whole}
use Rattle.witness_walk.specs.Running.{Watching, Seeking, EntersBy, good_behind, GoodsTo, Begun, list_of, search_from}
use Rattle.witness_walk.proofs.EntersLaws.{enters_is, goods-more}

-- What the masks and facts of a table tell.
module _ {t : Table} {facts : List (List ℕ)} {preds : List ℕ} {mem watched : ℕ} {enters : List ℕ → Bool}
    (w : Watching t facts preds mem watched enters) where
  few : t.count < slots
  few = w.known.table.small.events

  -- clean over the masks is clean
  pub clean_is : (p : List ℕ) → clean_by preds mem p ≡ clean t p
  clean_is p =
      ap (λ (l : List ℕ). clean_by l mem p) w.predecessors ∙ ap (λ (m : ℕ). clean_by (predecessor_masks t) m p) w.memory
      ∙ clean-same t few p

  reach-is : reachable (clean t) enters ≡ reachable (clean_by preds mem) enters
  reach-is = ap (λ (ok : List ℕ → Bool). reachable ok enters) (sym (fun_ext clean_is))

  -- the list has what the walk gets to
  pub listing : Listing (reachable (clean_by preds mem) enters) (list_of t enters)
  listing = subst (λ (ok : List ℕ → Bool). Listing ok (list_of t enters)) reach-is record {
    exactly = passing-listed t (reachable (clean t) enters) (reachable-closed enters (clean t) (clean-closed t))
        (reachable-only enters (clean t));
    ascending = passing-ascending t (reachable (clean t) enters);
  }

  -- a clean prefix has all memory events exactly where its mask is theirs; it then is an order, and else no witness
  pub whole-is-order : (p : List ℕ) → clean t p ≡ true → mask_of p ≡ mem → is_order t p ≡ true
  whole-is-order p h e = whole-order t few p h ((whole-mask t few p h).0 (e ∙ w.memory))

  pub part-is-none : (outcome : List ℕ → Bool) (p : List ℕ) → clean t p ≡ true → (mask_of p ≡ mem → ⊥) → witness_for t outcome p ≡ false
  part-is-none outcome p h n = not-whole t outcome p (λ q. n ((whole-mask t few p h).1 q ∙ sym w.memory))

-- what isn't entered is no witness
unentered-is-none : {t : Table} {facts : List (List ℕ)} {words : List ℕ} {outcome enters : List ℕ → Bool} →
    Seeking t facts words outcome enters → (p : List ℕ) → enters p ≡ false → witness_for t outcome p ≡ false
unentered-is-none k p h = is_false _ (λ q. true≢false (sym (k.witnesses p q) ∙ h))

-- What a walk that began with p and budget b has still to do: cur was visited last, at the front of order, v were visited.
pub record Told (t : Table) (outcome enters : List ℕ → Bool) (preds : List ℕ) (mem watched : ℕ) (p : List ℕ) (b : ℕ) (order goods : List ℕ)
    (keep later lowest last v : ℕ) : Type 0 where
  pub ahead : Ahead preds mem enters (list_of t enters) (take (ones last) order) (take keep order) later lowest
  pub kept : (watched ≡ 0 → ⊥) → GoodsTo t goods order keep
  pub same : search_from t outcome enters p b 0 ≡ search_from t outcome enters (take (ones last) order) (b - v) v

-- at first
pub told-start : {t : Table} {facts : List (List ℕ)} {outcome enters : List ℕ → Bool} {preds succs order goods : List ℕ}
    {mem watched keep placed can later : ℕ} (tables : Prepared preds succs mem) (state : Holds preds mem order keep placed can)
    (c : (later ≡ can) ⊎ (later ≡ 0)) (b : ℕ) → Watching t facts preds mem watched enters →
    Begun t enters watched order goods keep can later →
    Told t outcome enters preds mem watched (take keep order) b order goods keep later (start_from tables state c) placed 0
told-start {t} {outcome = outcome} {enters} {preds} {order = order} {mem = mem} {keep = keep} {placed} {later = later} tables state c b w g = record {
  ahead = subst
      (λ (n : ℕ). Ahead preds mem enters (list_of t enters) (take n order) (take keep order) later (start_from tables state c))
      state.counted
      (ahead-start tables state (listing w) (ap (λ (f : List ℕ → Bool). f (take keep order)) (sym (reach-is w)) ∙ g.reached) g.untried c);
  kept = g.kept;
  same =
      ap (λ (n : ℕ). search_from t outcome enters (take n order) b 0) state.counted
      ∙ ap (λ (n : ℕ). search_from t outcome enters (take (ones placed) order) n 0) (sym (sub-zero b));
}

-- the same along another prefix and another list's front
ahead-as : {preds : List ℕ} {mem : ℕ} {enters : List ℕ → Bool} {l : List (List ℕ)} {cur path q r : List ℕ} {later lowest : ℕ} →
    cur ≡ q → path ≡ r → Ahead preds mem enters l cur path later lowest → Ahead preds mem enters l q r later lowest
ahead-as {preds} {mem} {enters} {l} {cur} {r = r} {later = later} {lowest = lowest} e d a =
    subst (λ (x : List ℕ). Ahead preds mem enters l x r later lowest) e
    (subst (λ (x : List ℕ). Ahead preds mem enters l cur x later lowest) d a)

-- A turn of a walk.
module _ {t : Table} {facts : List (List ℕ)} {outcome enters : List ℕ → Bool} {preds succs order goods p : List ℕ}
    {mem watched keep placed can later lowest last b v : ℕ} (w : Watching t facts preds mem watched enters)
    (at : Standing preds succs mem order keep placed can later lowest)
    (told : Told t outcome enters preds mem watched p b order goods keep later lowest last v) where
  abbrev cur : List ℕ
  cur = take (ones last) order

  abbrev path : List ℕ
  path = take keep order

  abbrev l : List (List ℕ)
  l = list_of t enters

  -- nothing is left to try, nor to go back over
  pub told_none : later ≡ 0 → keep ≡ 0 → search_from t outcome enters p b 0 ≡ none_left v
  told_none z k = told.same ∙ step-none (witness_for t outcome) l cur (b - v) v (ahead-end at told.ahead z k)

  -- the last entry is taken back
  pub told_back : {m e later' : ℕ} → later ≡ 0 → keep ≡ suc m → e ≡ get_or order m 0 →
      Told t outcome enters preds mem watched p b order goods m later' (e + 1) last v
  told_back z some q = record {
    ahead = ahead-back at told.ahead z some q;
    kept = λ n k h. told.kept n k (omega arith);
    same = told.same;
  }

  -- e is the lowest event that is left to try.
  module _ {e : ℕ} (some : later ≡ 0 → ⊥) (low : e ≡ count_trailing_zeros slots later) where
    -- the prefix that comes next
    abbrev next : List ℕ
    next = path ++ (e ∷ [])

    abbrev stored : List ℕ
    stored = set order keep e

    first : after cur l ≡ next ∷ after next l
    first = ahead-next at told.ahead some low

    next-is-clean : clean t next ≡ true
    next-is-clean = sym (clean_is w next) ∙ next-clean at some low

    counted : e < t.count
    unfolding memory_mask
    counted =
        ltb-true e t.count (and_l (ltb e t.count) _ (sym (memory-has t e) ∙ sym (mask-has (memory_events t) e)
        ∙ ap (λ (m : ℕ). bit m e) (sym w.memory) ∙ event preds mem placed e (sym (at.holds.current e) ∙ lowest-may at some low)))

    -- no more may be visited
    pub told-spent : v ≡ b → search_from t outcome enters p b 0 ≡ spent cur v
    told-spent q = told.same ∙ step-spent (witness_for t outcome) l cur (b - v) v next first (omega arith)

    -- what is told of the next prefix's last event: whether it is entered
    pub told-enters : (r : Bool) → EntersBy (bit watched e) facts placed (get_or goods keep 0) e r → r ≡ enters next
    told-enters r h =
        enters_is w.known counted r w.entering next-is-clean (told.ahead.goes some) at.holds.mask
        (λ n. told.kept n keep (omega arith)) h

    -- Once it is stored and counted, with its mask.
    module _ {last' c : ℕ} (q : last' ≡ bit_or placed c) (power : c ≡ 2 ^ e) where
      front : take (ones last') stored ≡ next
      front = next-front at some low q power

      -- it is a witness
      pub told-found : v < b → witness_for t outcome next ≡ true → search_from t outcome enters p b 0 ≡ found (take (ones last') stored) (v + 1)
      told-found h g =
          told.same ∙ step-found (witness_for t outcome) l cur (b - v) v next first (b - (v + 1)) (omega arith) g
          ∙ ap₂ found (sym front) (sym (add-one v))

      -- it isn't: the search goes on from there
      onward : v < b → witness_for t outcome next ≡ false →
          search_from t outcome enters p b 0 ≡ search_from t outcome enters (take (ones last') stored) (b - (v + 1)) (v + 1)
      onward h g =
          told.same ∙ step-on (witness_for t outcome) l cur (b - v) v next first (b - (v + 1)) (omega arith) g
          ∙ ap₂ (λ (x : List ℕ) (n : ℕ). search_from t outcome enters x (b - (v + 1)) n) (sym front) (sym (add-one v))

      -- the masks of the good stay
      goods-stay : (watched ≡ 0 → ⊥) → GoodsTo t goods stored keep
      goods-stay n k h =
          told.kept n k h ∙ ap (λ (x : List ℕ). mask_by t (good t (final_value t x))) (sym (take-set-le k order keep e h))

      past-as : {later' : ℕ} → v < b → witness_for t outcome next ≡ false → ((y : ℕ) → reachable (clean_by preds mem) enters (next ++ (y ∷ [])) ≡ false) →
          Told t outcome enters preds mem watched p b stored goods keep later' (e + 1) last' (v + 1)
      past-as h g none = record {
        ahead = ahead-as (sym front) (sym (take-set-le keep order keep e (omega arith))) (ahead_past at told.ahead some low none);
        kept = goods-stay;
        same = onward h g;
      }

      -- it isn't entered, and is passed over
      pub told-past : {words : List ℕ} {later' : ℕ} → Seeking t facts words outcome enters → v < b → enters next ≡ false →
          Told t outcome enters preds mem watched p b stored goods keep later' (e + 1) last' (v + 1)
      told-past k h g = past-as h (unentered-is-none k next g) (λ y. reachable-not enters (clean_by preds mem) next y g)

      -- it is whole: an order
      pub told-order : last' ≡ mem → is_order t next ≡ true
      told-order h = whole-is-order w next next-is-clean (next-mask at some low q power ∙ h)

      -- and no witness, and is passed over
      pub told-whole : {later' : ℕ} → v < b → last' ≡ mem → witness_for t outcome next ≡ false →
          Told t outcome enters preds mem watched p b stored goods keep later' (e + 1) last' (v + 1)
      told-whole h m g =
          past-as h g
          (λ y. reachable-passes enters (clean_by preds mem) (next ++ (y ∷ [])) (whole-shut at some low q power m y))

      -- what is_witness tells of it
      pub told-witness : {words : List ℕ} (seen kept seen' kept' : List ℕ) → Seeking t facts words outcome enters → (r : Bool) → last' ≡ mem →
          Witnesses facts words (take (keep + 1) stored) seen kept r seen' kept' → Keeps t words seen kept →
          (r ≡ witness_for t outcome next) × Keeps t words seen' kept'
      told-witness seen kept seen' kept' k r h j u =
          let s = next-stored at some low in
          let m = j t outcome w.known k.wanted (ap (is_order t) s ∙ told-order h) (ap (clean t) s ∙ next-is-clean) u in
          (subst (λ (x : List ℕ). r ≡ witness_for t outcome x) s m.0, m.1)

      -- it is entered
      pub told-on : {goods' : List ℕ} {later' : ℕ} → v < b → (last' ≡ mem → ⊥) → enters next ≡ true → keep + 1 < length goods →
          goods' ≡ cond (eqb watched 0) goods (set goods (keep + 1) (good_behind facts (get_or goods keep 0) e)) →
          Told t outcome enters preds mem watched p b stored goods' (keep + 1) later' 0 last' (v + 1)
      told-on h n g room s = record {
        ahead = ahead-as (sym front) (sym (next-stored at some low)) (ahead-on at told.ahead some low g);
        kept = λ x. goods-more w.known counted order stored goods keep x (told.kept x) room s (next-stored at some low) (λ k i. take-set-le k order keep e i);
        same = onward h (part-is-none w outcome next next-is-clean (λ m. n (sym (next-mask at some low q power) ∙ m)));
      }
