-- Laws for the walk along a list of prefixes. The lowest event that is not tried yet comes next; the prefix that it makes is
-- entered or passed over; where nothing is left to try, the last entry is taken back.
use Prim.Native.Nat.{ℕ, suc, ◌+◌, ◌*◌, ◌/◌, ◌^◌, ◌≤◌, ◌<◌}
use native.Mathlib.Omega.{arith}
use native.Mathlib.Numerals.{add-one}
use native.Mathlib.Nat.{lt_of_le_of_lt}
use mathlib.Core.Path.{◌≡◌, refl, sym, ap, ◌∙◌}
use mathlib.Core.Bool.{Bool, true, false, cond, not, ◌&&◌, xor}
use mathlib.Core.List.{List, [], ◌∷◌, ◌++◌, append-eq-nil_iff, cons-ne-nil}
use mathlib.Core.Logic.{◌⊎◌, inl, inr}
use lib.ListN.{get_or, take, set, length-set}
use lib.Seq.{take-set-le}
use lib.Dec.{eqb, leb, leb-zero}
use lib.Bits.{bit_and, bit_or, bit_xor}
use lib.Count.{count_trailing_zeros, ones, ones-le}
use borrow.Author.Tests.{leb-true, leb-false, le-leb, eqb-true, eqb-false}
use Rattle.lists.specs.Lists.{◌∈◌}
use Rattle.lists.proofs.BoolLaws.{and_l, and_r, and_right, xor-false}
use Rattle.masks.specs.Bit.{bit}
use Rattle.masks.specs.MaskOf.{mask_of}
use Rattle.masks.proofs.BitLaws.{bit-zero, bit-xor, bit-pow}
use Rattle.masks.proofs.PowerLaws.{ones-or, bit_high, trailing-lowest}
use Rattle.masks.proofs.WithinLaws.{bit_below, within-le}
use Rattle.prefixes.specs.Listed.{after}
use Rattle.prefixes.specs.Statements.{PrefixClosed}
use Rattle.prefixes.proofs.NextLaws.{from_on, from_start, from-skip, from_next, from_back, from_end}
use Rattle.successors.specs.CleanMasks.{slots, limit, ready, may_follow, clean_by}
use Rattle.successors.specs.Waiting.{Prepared}
use Rattle.ready_events.specs.Current.{Current}
use Rattle.ready_events.proofs.CleanLaws.{event, fresh, clean-snoc, clean-closed, clean-ones, clean-short}
use Rattle.engine.specs.State.{Holds}
use Rattle.engine.specs.Entered.{reachable, Listing}
use Rattle.engine.proofs.EnteredLaws.{reachable-next, reachable-enters, reachable-closed, reachable-not, reachable-passes}
use Rattle.engine.proofs.StateLaws.{mask-snoc, room, clean-next, path-stored, holds-placed, path-last, last-below, holds-back}

-- a prefix on the way: later are the events from lowest on that may come next and are not tried yet
pub record Standing (preds succs : List ℕ) (mem : ℕ) (order : List ℕ) (keep placed can later lowest : ℕ) : Type 0 where
  pub tables : Prepared preds succs mem
  pub holds : Holds preds mem order keep placed can
  pub untried : (k : ℕ) → bit later k ≡ (leb lowest k && bit can k)

-- what a walk along l, which visited cur last, has still to visit from path on
pub record Ahead (preds : List ℕ) (mem : ℕ) (enters : List ℕ → Bool) (l : List (List ℕ)) (cur path : List ℕ) (later lowest : ℕ)
    : Type 0 where
  pub listing : Listing (reachable (clean_by preds mem) enters) l
  pub reached : reachable (clean_by preds mem) enters path ≡ true
  pub goes : (later ≡ 0 → ⊥) → enters path ≡ true
  pub left : after cur l ≡ from_on l path lowest

-- what may come next is an event, and so has a slot
can-below : {preds succs order : List ℕ} {mem keep placed can : ℕ} → Prepared preds succs mem → Holds preds mem order keep placed can →
    (k : ℕ) → slots ≤ k → bit can k ≡ false
can-below {preds} {mem = mem} {placed = placed} {can = can} tables state k h = go (bit can k) refl
  where
    go : (b : Bool) → bit can k ≡ b → b ≡ false
    go true i = absurd (omega (arith, bit_below limit mem k tables.small (event preds mem placed k (sym (state.current k) ∙ i))))
    go false i = refl

-- At first no event is tried, or none is left to try.
module _ {preds succs order : List ℕ} {mem keep placed can later : ℕ} (tables : Prepared preds succs mem)
    (state : Holds preds mem order keep placed can) where
  abbrev pub start_from : (later ≡ can) ⊎ (later ≡ 0) → ℕ
  start_from (inl e) = 0
  start_from (inr e) = slots

  pub stand-start : (c : (later ≡ can) ⊎ (later ≡ 0)) → Standing preds succs mem order keep placed can later (start_from c)
  stand-start (inl e) = record {
    tables = tables;
    holds = state;
    untried = λ k. ap (λ (m : ℕ). bit m k) e ∙ ap (λ (t : Bool). t && bit can k) (sym (leb-zero k));
  }
  stand-start (inr e) = record {
    tables = tables;
    holds = state;
    untried = λ k. ap (λ (m : ℕ). bit m k) e ∙ bit-zero k ∙ none k (leb slots k) refl;
  }
    where
      none : (k : ℕ) (b : Bool) → leb slots k ≡ b → false ≡ (b && bit can k)
      none k true h = sym (can-below tables state k (leb-true slots k h))
      none k false h = refl

  -- along a list, from a prefix that a walk gets to: what goes on with it is left to try exactly if it is entered
  pub ahead-start : {enters : List ℕ → Bool} {l : List (List ℕ)} → Listing (reachable (clean_by preds mem) enters) l →
      reachable (clean_by preds mem) enters (take keep order) ≡ true → later ≡ cond (enters (take keep order)) can 0 →
      (c : (later ≡ can) ⊎ (later ≡ 0)) → Ahead preds mem enters l (take keep order) (take keep order) later (start_from c)
  ahead-start {enters} {l} listing reached left c = record {
    listing = listing;
    reached = reached;
    goes = λ s. go (enters p) refl s;
    left = from_start l p ∙ skip c;
  }
    where
      p : List ℕ
      p = take keep order

      go : (b : Bool) → enters p ≡ b → (later ≡ 0 → ⊥) → b ≡ true
      go true e s = refl
      go false e s = absurd (s (left ∙ ap (λ (b : Bool). cond b can 0) e))

      shut : later ≡ 0 → (y : ℕ) → (b : Bool) → enters p ≡ b → reachable (clean_by preds mem) enters (p ++ (y ∷ [])) ≡ false
      shut z y true e =
          reachable-passes enters (clean_by preds mem) (p ++ (y ∷ []))
          (clean-next tables state y
          ∙ ap (λ (m : ℕ). bit m y) (sym (left ∙ ap (λ (b : Bool). cond b can 0) e) ∙ z) ∙ bit-zero y)
      shut z y false e = reachable-not enters (clean_by preds mem) p y e

      skip : (c : (later ≡ can) ⊎ (later ≡ 0)) → from_on l p 0 ≡ from_on l p (start_from c)
      skip (inl e) = refl
      skip (inr e) =
          from-skip (reachable (clean_by preds mem) enters) l
          (reachable-closed enters (clean_by preds mem) (clean-closed preds mem)) listing.ascending
          (λ r m. ((listing.exactly r).0 m).1) p 0 slots (omega arith) (λ y h k. shut e y (enters p) refl)

module _ {preds succs order : List ℕ} {mem keep placed can later lowest : ℕ}
    (at : Standing preds succs mem order keep placed can later lowest) where
  -- the prefix at the front of the order
  abbrev path : List ℕ
  path = take keep order

  -- an event from the lowest on that is not left to try may not come next
  shut : (y : ℕ) → lowest ≤ y → bit later y ≡ false → clean_by preds mem (path ++ (y ∷ [])) ≡ false
  shut y h n =
      clean-next at.tables at.holds y ∙ ap (λ (t : Bool). t && bit can y) (sym (le-leb lowest y h))
      ∙ sym (at.untried y) ∙ n

  -- there is room for one more entry, and the last one is an event
  pub stand-room : keep < slots
  stand-room = room at.tables at.holds

  pub stand-last : {m e : ℕ} → keep ≡ suc m → e ≡ get_or order m 0 → e < limit
  stand-last some last = last-below at.tables at.holds some last

  -- the last entry is taken back: the events past it are left to try
  pub stand-back : {m e placed' can' later' : ℕ} → keep ≡ suc m → e ≡ get_or order m 0 → placed' ≡ bit_xor placed (2 ^ e) →
      can' ≡ bit_or (bit_xor can (bit_and can (get_or succs e 0))) (2 ^ e) → later' ≡ can' / 2 ^ (e + 1) * 2 ^ (e + 1) →
      Standing preds succs mem order m placed' can' later' (e + 1)
  stand-back {e = e} {can' = can'} some last p c l = record {
    tables = at.tables;
    holds = holds-back at.tables at.holds some last p c;
    untried = λ k. ap (λ (x : ℕ). bit x k) l ∙ bit_high can' (e + 1) k;
  }

  -- what is left to try are events
  later-events : (k : ℕ) → bit later k ≡ true → bit mem k ≡ true
  later-events k i =
      event preds mem placed k (sym (at.holds.current k) ∙ and_r (leb lowest k) (bit can k) (sym (at.untried k) ∙ i))

  later-small : later < 2 ^ limit
  later-small = lt_of_le_of_lt (within-le later mem later-events) at.tables.small

  -- e is the lowest event that is left to try.
  module _ {e : ℕ} (some : later ≡ 0 → ⊥) (low : e ≡ count_trailing_zeros slots later) where
    abbrev Lowest : ℕ → Type 0
    Lowest x = (bit later x ≡ true) × ((y : ℕ) → y < x → bit later y ≡ false)

    is-lowest : Lowest e
    is-lowest = let t = trailing-lowest slots later (omega arith) (omega (arith, later-small)) in rw low (t.1, t.2)

    both : (leb lowest e && bit can e) ≡ true
    both = sym (at.untried e) ∙ is-lowest.0

    from_lowest : lowest ≤ e
    from_lowest = leb-true lowest e (and_l (leb lowest e) (bit can e) both)

    -- it is an event
    pub lowest-below : e < limit
    lowest-below = bit_below limit mem e at.tables.small (later-events e is-lowest.0)

    -- it may come next
    pub lowest-may : bit can e ≡ true
    lowest-may = and_r (leb lowest e) (bit can e) both

    -- the prefix that it makes, as it stands in the order once it is stored
    pub next-stored : take (keep + 1) (set order keep e) ≡ path ++ (e ∷ [])
    next-stored = path-stored at.tables at.holds e

    pub next-clean : clean_by preds mem (path ++ (e ∷ [])) ≡ true
    next-clean = clean-next at.tables at.holds e ∙ lowest-may

    -- its mask, which has as many ones as it has entries
    module _ {last b : ℕ} (q : last ≡ bit_or placed b) (power : b ≡ 2 ^ e) where
      last-is : last ≡ bit_or placed (2 ^ e)
      last-is = q ∙ ap (bit_or placed) power

      pub next-mask : mask_of (path ++ (e ∷ [])) ≡ last
      next-mask = mask-snoc path e ∙ ap (λ (m : ℕ). bit_or m (2 ^ e)) (sym at.holds.mask) ∙ sym last-is

      pub next-ones : ones last ≡ keep + 1
      next-ones =
          omega (
            arith,
            ap ones last-is,
            at.holds.counted,
            ones-or placed e (fresh preds mem placed e (sym (at.holds.current e) ∙ lowest-may)),
          )

      pub next-few : ones last ≤ ones mem
      next-few =
          omega (
            arith,
            ap ones next-mask,
            clean-ones preds mem (path ++ (e ∷ [])) next-clean,
            clean-short preds mem (path ++ (e ∷ [])) next-clean,
          )

      -- there is room behind it
      pub next-room : keep + 1 < slots
      next-room = omega (arith, next-few, next-ones, ones-le limit mem at.tables.small)

      -- it stands at the front of the order
      pub next-front : take (ones last) (set order keep e) ≡ path ++ (e ∷ [])
      next-front = ap (λ (n : ℕ). take n (set order keep e)) next-ones ∙ next-stored

      -- with it all events are placed: none may come behind
      pub whole-shut : last ≡ mem → (y : ℕ) → clean_by preds mem (path ++ (e ∷ []) ++ (y ∷ [])) ≡ false
      whole-shut h y =
          clean-snoc preds mem (path ++ (e ∷ [])) y
          ∙ ap (λ (m : ℕ). clean_by preds mem (path ++ (e ∷ [])) && may_follow preds mem m y) (next-mask ∙ h)
          ∙ and_right (clean_by preds mem (path ++ (e ∷ []))) _ (none (bit mem y) (ready preds mem y))
        where
          none : (b r : Bool) → (b && not b && r) ≡ false
          none true r = refl
          none false r = refl

    -- it is entered
    pub stand-on : {placed' can' : ℕ} → placed' ≡ bit_or placed (2 ^ e) → Current preds mem placed' can' →
        Standing preds succs mem (set order keep e) (keep + 1) placed' can' can' 0
    stand-on p c = stand-start at.tables (holds-placed at.tables at.holds e _ _ lowest-may p c) (inl refl)

    -- once e is tried those past it are left
    tried : (k : ℕ) → bit (bit_xor later (2 ^ e)) k ≡ (leb (e + 1) k && bit can k)
    unfolding xor
    tried k = bit-xor later (2 ^ e) k ∙ ap (xor (bit later k)) (bit-pow e k) ∙ go (leb (e + 1) k) refl (eqb e k) refl
      where
        go : (b : Bool) → leb (e + 1) k ≡ b → (c : Bool) → eqb e k ≡ c → xor (bit later k) c ≡ (b && bit can k)
        go true g true h = absurd (omega (arith, leb-true (e + 1) k g, eqb-true e k h))
        go true g false h =
            xor-false (bit later k) ∙ at.untried k
            ∙ ap (λ (b : Bool). b && bit can k) (le-leb lowest k (omega (arith, leb-true (e + 1) k g, from_lowest)))
        go false g true h = ap (λ (b : Bool). xor b true) (ap (bit later) (sym (eqb-true e k h)) ∙ is-lowest.0)
        go false g false h =
            xor-false (bit later k) ∙ is-lowest.1 k (omega (arith, leb-false (e + 1) k g, eqb-false e k h))

    -- it is passed over
    pub stand-past : {later' : ℕ} → later' ≡ bit_xor later (2 ^ e) →
        Standing preds succs mem (set order keep e) keep placed can later' (e + 1)
    stand-past q = record {
      tables = at.tables;
      holds = kept;
      untried = λ k. ap (λ (m : ℕ). bit m k) q ∙ tried k;
    }
      where
        same : take keep (set order keep e) ≡ path
        same = take-set-le keep order keep e (omega arith)

        kept : Holds preds mem (set order keep e) keep placed can
        kept = record {
          long = length-set order keep e ∙ at.holds.long;
          clean = ap (clean_by preds mem) same ∙ at.holds.clean;
          mask = at.holds.mask ∙ ap mask_of (sym same);
          counted = at.holds.counted;
          current = at.holds.current;
        }

  -- Along a list.
  module _ {enters : List ℕ → Bool} {l : List (List ℕ)} {cur : List ℕ} (ahead : Ahead preds mem enters l cur path later lowest) where
    abbrev reach : List ℕ → Bool
    reach = reachable (clean_by preds mem) enters

    closed : PrefixClosed reach
    closed = reachable-closed enters (clean_by preds mem) (clean-closed preds mem)

    only : (r : List ℕ) → r ∈ l → reach r ≡ true
    only r m = ((ahead.listing.exactly r).0 m).1

    -- what isn't clean isn't got to
    unreached : (p : List ℕ) → clean_by preds mem p ≡ false → reach p ≡ false
    unreached p h = reachable-passes enters (clean_by preds mem) p h

    -- Nothing is left to try.
    module _ (none : later ≡ 0) where
      all-shut : (y : ℕ) → lowest ≤ y → reach (path ++ (y ∷ [])) ≡ false
      all-shut y h = unreached (path ++ (y ∷ [])) (shut y h (ap (λ (m : ℕ). bit m y) none ∙ bit-zero y))

      -- nor to go back over
      pub ahead-end : keep ≡ 0 → after cur l ≡ []
      ahead-end e =
          let first : path ≡ [] = ap (λ (n : ℕ). take n order) e in
          ahead.left ∙ ap (λ (p : List ℕ). from_on l p lowest) first
          ∙ from_end reach l closed ahead.listing.ascending only lowest
          (λ y h. ap (λ (p : List ℕ). reach (p ++ (y ∷ []))) (sym first) ∙ all-shut y h)

      -- the last entry is taken back
      pub ahead-back : {m e later' : ℕ} → keep ≡ suc m → e ≡ get_or order m 0 → Ahead preds mem enters l cur (take m order) later' (e + 1)
      ahead-back {m} {e} some last = record {
        listing = ahead.listing;
        reached = closed (take m order) e got;
        goes = λ s. reachable-enters enters (clean_by preds mem) (take m order) e got;
        left =
            ahead.left ∙ ap (λ (q : List ℕ). from_on l q lowest) shorter
            ∙ from_back reach l closed ahead.listing.ascending only (take m order) e lowest
            (λ y h. ap (λ (q : List ℕ). reach (q ++ (y ∷ []))) (sym shorter) ∙ all-shut y h)
            ∙ ap (from_on l (take m order)) (sym (add-one e));
      }
        where
          shorter : path ≡ take m order ++ (e ∷ [])
          shorter = path-last at.tables at.holds some last

          got : reach (take m order ++ (e ∷ [])) ≡ true
          got = ap reach (sym shorter) ∙ ahead.reached

    -- e is the lowest event that is left to try.
    module _ {e : ℕ} (some : later ≡ 0 → ⊥) (low : e ≡ count_trailing_zeros slots later) where
      -- the prefix that comes next
      abbrev next : List ℕ
      next = path ++ (e ∷ [])

      next-reached : reach next ≡ true
      next-reached =
          reachable-next enters (clean_by preds mem) path e ahead.reached (ahead.goes some) (next-clean some low)

      pub ahead-next : after cur l ≡ next ∷ after next l
      ahead-next =
          ahead.left
          ∙ from_next reach l closed ahead.listing.ascending only path lowest e (from_lowest some low)
          ((ahead.listing.exactly next).1 ((λ h. cons-ne-nil e [] ((append-eq-nil_iff {p = path} {q = e ∷ []}).0 h).1), next-reached))
          (λ y h k. unreached (path ++ (y ∷ [])) (shut y h ((is-lowest some low).1 y k)))

      -- it is entered
      pub ahead-on : {later' : ℕ} → enters next ≡ true → Ahead preds mem enters l next next later' 0
      ahead-on h = record { listing = ahead.listing; reached = next-reached; goes = λ s. h; left = from_start l next }

      -- it is passed over, where a walk gets to none that goes on with it
      pub ahead_past : {later' : ℕ} → ((y : ℕ) → reach (next ++ (y ∷ [])) ≡ false) → Ahead preds mem enters l next path later' (e + 1)
      ahead_past none = record {
        listing = ahead.listing;
        reached = ahead.reached;
        goes = λ s. ahead.goes some;
        left =
            from_start l next ∙ from_back reach l closed ahead.listing.ascending only path e 0 (λ y h. none y)
            ∙ ap (from_on l path) (sym (add-one e));
      }
