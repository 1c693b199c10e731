-- The loop that follows a start as the walk would: what holds at each entry.
use Prim.Native.Nat.{ℕ, ◌+◌, ◌^◌, ◌≤◌, ◌<◌}
use native.Mathlib.Omega.{arith}
use native.Mathlib.Numerals.{add-one}
use mathlib.Core.Path.{◌≡◌, refl, sym, ap, ap₂, ◌∙◌, fun_ext}
use mathlib.Core.Bool.{Bool, true, false, cond}
use mathlib.Core.List.{List, [], ◌∷◌, ◌++◌}
use mathlib.Core.Logic.{inl, inr}
use lib.ListN.{length, get_or, take, drop, set, length-set, length-take, take-append-drop}
use lib.Seq.{take-suc, take-take, get_or-take, get_or-set_same}
use lib.Bits.{bit_or}
use lib.Dec.{eqb, ltb}
use borrow.Author.Tests.{ltb-true, lt-ltb}
use Rattle.std.specs.Prelude.{Some, None}
use Rattle.lists.specs.Below.{first_from}
use Rattle.lists.proofs.BoolLaws.{and_l, is_false, not-either}
use Rattle.lists.proofs.KeepLaws.{all-weaken}
use Rattle.lists.proofs.ListLaws.{all_get_d}
use Rattle.masks.specs.Bit.{bit}
use Rattle.masks.specs.MaskOf.{mask_of}
use Rattle.masks.proofs.WithinLaws.{bit_below}
use Rattle.table.specs.declared.Table.{Table}
use Rattle.table.specs.Events.{capacity, memory}
use Rattle.prefixes.specs.Statements.{PrefixClosed}
use Rattle.prefixes.proofs.ListedLaws.{prefix-passes}
use Rattle.model.specs.Returns.{final_value, written_value}
use Rattle.model.specs.Witness.{is_memory_event}
use Rattle.model.specs.Prefixes.{is_prefix, clean}
use Rattle.model.proofs.PrefixLaws.{clean-closed}
use Rattle.order_facts.specs.Facts.{mask_by, good}
use Rattle.fact_rows.specs.FactRows.{mask, Facts, set_row, good_word}
use Rattle.order_test.specs.Testing.{Fitting}
use Rattle.successors.specs.CleanMasks.{slots, limit}
use Rattle.successors.specs.Waiting.{Prepared}
use Rattle.ready_events.proofs.CleanLaws.{clean-events}
use Rattle.engine.specs.State.{Holds}
use Rattle.engine.specs.Entered.{entered, reachable}
use Rattle.engine.proofs.EnteredLaws.{reachable-next, reachable-closed, reachable-not}
use Rattle.engine.proofs.StateLaws.{mask-snoc, room}
use Rattle.witness_walk.specs.Running.{Enters, EntersBy, good_behind, GoodsTo, Follows, LeftOf}
use Rattle.witness_walk.proofs.EntersLaws.{enters_is, goods-more}
use Rattle.witness_walk.proofs.WalkLaws.{noted-long}

-- the first i entries are followed: the walk gets there, and enters what it got to or not
pub record Got (t : Table) (enters : List ℕ → Bool) (watched : ℕ) (order goods : List ℕ) (i : ℕ) (into : Bool) : Type 0 where
  pub reached : reachable (clean t) enters (take i order) ≡ true
  pub enter : enters (take i order) ≡ into
  pub kept : (watched ≡ 0 → ⊥) → GoodsTo t goods order i

-- the same of every table that was handed in, where the start is clean
pub record Following (facts : List (List ℕ)) (watched : ℕ) (order goods : List ℕ) (len i placed : ℕ) (into : Bool) : Type 0 where
  pub long : length goods ≡ slots
  pub mask : placed ≡ mask_of (take i order)
  pub got : (t : Table) (enters : List ℕ → Bool) → Facts t facts → Enters t watched enters → clean t (take len order) ≡ true →
      Got t enters watched order goods i into

-- nothing is followed yet
empty-reached : (t : Table) (enters : List ℕ → Bool) → reachable (clean t) enters [] ≡ true
unfolding reachable entered clean is_prefix first_from
empty-reached t enters = refl

-- nor placed: at each location is its initial value
goods-initial : {t : Table} {facts : List (List ℕ)} → Facts t facts → mask facts set_row good_word ≡ mask_by t (good t (final_value t []))
unfolding final_value written_value
goods-initial {t} f = f.good ∙ ap (λ (v : ℕ → ℕ). mask_by t (good t v)) (fun_ext (λ x. refl))

pub follow-start : {facts : List (List ℕ)} {watched len : ℕ} {order : List ℕ} (goods : List ℕ) → length goods ≡ slots →
    Following facts watched order (set goods 0 (mask facts set_row good_word)) len 0 0 true
unfolding mask_of
follow-start {facts} {order = order} goods long = record {
  long = length-set goods 0 _ ∙ long;
  mask = refl;
  got = λ t enters f e c. record {
    reached = empty-reached t enters;
    enter = e.none;
    kept = λ n k h. first t f k (omega arith);
  };
}
  where
    first : (t : Table) → Facts t facts → (k : ℕ) → k ≡ 0 →
        get_or (set goods 0 (mask facts set_row good_word)) k 0 ≡ mask_by t (good t (final_value t (take k order)))
    first t f k z =
        ap (λ (j : ℕ). get_or (set goods 0 (mask facts set_row good_word)) j 0) z
        ∙ get_or-set_same goods 0 (mask facts set_row good_word) 0 (omega (arith, long)) ∙ goods-initial f
        ∙ ap (λ (j : ℕ). mask_by t (good t (final_value t (take j order)))) (sym z)

module _ {facts : List (List ℕ)} {watched len i placed : ℕ} {order goods : List ℕ} {into : Bool} (fit : Fitting order len)
    (following : Following facts watched order goods len i placed into) where
  module _ (l : i < length (take len order)) where
    inside : i < len
    inside = omega (arith, length-take len order)

    -- the next entry
    abbrev e : ℕ
    e = get_or (take len order) i 0

    -- it has room in a mask
    pub follow-room : e < capacity
    follow-room = ltb-true e capacity (all_get_d (λ x. ltb x capacity) (take len order) i fit.fitting l)

    next-is : take (i + 1) order ≡ take i order ++ (e ∷ [])
    next-is =
        ap (λ (n : ℕ). take n order) (add-one i) ∙ take-suc order i 0 (omega (arith, fit.long, fit.within, inside))
        ∙ ap (λ (x : ℕ). take i order ++ (x ∷ [])) (sym (get_or-take len order i 0 inside))

    -- a test that the start passes, its beginnings pass
    begins : (ok : List ℕ → Bool) → PrefixClosed ok → ok (take len order) ≡ true → ok (take i order ++ (e ∷ [])) ≡ true
    begins ok closed h =
        ap ok (sym next-is)
        ∙ prefix-passes ok [] closed (take (i + 1) order) (drop (i + 1) (take len order))
        (ap ok (ap (λ (p : List ℕ). p ++ drop (i + 1) (take len order)) (sym (take-take (i + 1) len order (omega (arith, inside))))
        ∙ take-append-drop (i + 1) (take len order)) ∙ h)

    counted : (t : Table) → clean t (take len order) ≡ true → e < t.count
    unfolding clean is_prefix is_memory_event
    counted t c =
        ltb-true e t.count (and_l _ (memory t e) (all_get_d (is_memory_event t) (take len order) i (and_l _ _ (and_l _ _ c)) l))

    -- what was got to isn't entered: the walk doesn't get to the start
    pub follow-cut : (can : ℕ) → into ≡ false → Follows facts watched order goods len can None
    follow-cut can n t enters f q c =
        is_false _ (λ h. not-either (reachable (clean t) enters (take i order ++ (e ∷ [])))
        (begins (reachable (clean t) enters) (reachable-closed enters (clean t) (clean-closed t)) h)
        (reachable-not enters (clean t) (take i order) e ((following.got t enters f q c).enter ∙ n)))

    -- it is: one entry more
    pub follow-more : {goods' : List ℕ} {b : ℕ} (r : Bool) → into ≡ true → len < slots →
        EntersBy (bit watched e) facts placed (get_or goods i 0) e r →
        goods' ≡ cond (eqb watched 0) goods (set goods (i + 1) (good_behind facts (get_or goods i 0) e)) → b ≡ 2 ^ e →
        Following facts watched order goods' len (i + 1) (bit_or placed b) r
    follow-more r n short h s power = record {
      long = ap length s ∙ noted-long (eqb watched 0) goods (i + 1) _ ∙ following.long;
      mask = ap₂ bit_or following.mask power ∙ sym (mask-snoc (take i order) e) ∙ ap mask_of (sym next-is);
      got = λ t enters f q c.
          let g = following.got t enters f q c in
          let d = begins (clean t) (clean-closed t) c in
          record {
            reached = ap (reachable (clean t) enters) next-is
                ∙ reachable-next enters (clean t) (take i order) e g.reached (g.enter ∙ n) d;
            enter = ap enters next-is
                ∙ sym (enters_is f (counted t c) r q d (g.enter ∙ n) following.mask (λ x. g.kept x i (omega arith)) h);
            kept = λ x. goods-more f (counted t c) order order goods i x (g.kept x) (omega (arith, following.long, inside)) s next-is (λ k j. refl);
          };
    }

  -- the whole start is followed
  pub follow-end : {can later : ℕ} → i ≤ len → len ≤ i → later ≡ cond into can 0 → Follows facts watched order goods len can (Some later)
  follow-end {can} below above q t enters f w c =
      let g = following.got t enters f w c in
      let same : i ≡ len = omega arith in
      record {
        reached = ap (λ (n : ℕ). reachable (clean t) enters (take n order)) (sym same) ∙ g.reached;
        untried = q ∙ ap (λ (x : Bool). cond x can 0) (sym g.enter ∙ ap (λ (n : ℕ). enters (take n order)) same);
        kept = λ x k h. g.kept x k (omega arith);
      }

-- all that may come behind is left to try, or nothing
pub left-of : (into : Bool) {can later : ℕ} → later ≡ cond into can 0 → LeftOf can (Some later)
left-of true q = inl q
left-of false q = inr q

-- the prefix that a state holds may be followed
pub holds-fitting : {preds succs order : List ℕ} {mem len placed can : ℕ} → Prepared preds succs mem → Holds preds mem order len placed can →
    Fitting order len × (len < slots)
holds-fitting {preds} {order = order} {mem} {len} tables state =
    let short = room tables state in (
      record {
        long = state.long;
        within = omega (arith, short);
        fitting = all-weaken (bit mem) (λ x. ltb x capacity) (take len order)
            (λ x h. lt-ltb x capacity (omega (arith, bit_below limit mem x tables.small h)))
            (clean-events preds mem (take len order) state.clean);
      },
      short,
    )
