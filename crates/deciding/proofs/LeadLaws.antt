-- The least run by the lowest event that leads on, and the next one after a list.
use Prim.Native.Nat.{ℕ, zero, suc, ◌+◌, ◌-◌, ◌<◌, ◌≤◌}
use native.Mathlib.Omega.{arith}
use native.Mathlib.Numerals.{add-one}
use mathlib.Core.Path.{◌≡◌, refl, sym, ap, subst, ◌∙◌}
use mathlib.Core.Bool.{Bool, true, false, ◌&&◌, and-false}
use mathlib.Core.List.{List, [], ◌∷◌, ◌++◌}
use lib.ListN.{length, get_or, set, take, drop, length-set, drop_of_length-le}
use lib.Seq.{length-take-le, take-suc, take-suc-set, take_at, drop_at, drop-cons}
use lib.Dec.{leb, ltb}
use borrow.Author.Tests.{lt-ltb, ltb-true}
use Rattle.lists.specs.Ascending.{less}
use Rattle.lists.proofs.BoolLaws.{and_l, and_r, and_both, not-either}
use Rattle.masks.specs.Bit.{bit}
use Rattle.masks.proofs.BitLaws.{bit_past}
use Rattle.table.specs.declared.Table.{Table}
use Rattle.states.specs.declared.State.{State}
use Rattle.states.specs.States.{accepts, step, ends, runs}
use Rattle.states.specs.Completions.{Told, Reached, Least, LeastAbove, NoneAbove}
use Rattle.states.proofs.ReachedLaws.{accepts-count, reached-ends, reached-left, reached-step, run_length}
use Rattle.states.proofs.LeastLaws.{less-nil, run-may, run_on, least-end, least_more, tail-above, head-above, any-above, none_above, none_any}
use Rattle.state_test.specs.Board.{Board, Accepted, Steps}
use Rattle.std.specs.Prelude.{Option, Some, None}
use Rattle.deciding.specs.Memo.{Fruitless}
use Rattle.deciding.specs.Deciding.{May, Lowest, Leads, LeastAmong, Among, LeadsLeast, Above, Next, GoesOn}
use Rattle.deciding.proofs.TryLaws.{stepped}

pub leb-suc : (x k : ℕ) → leb (x + 1) k ≡ ltb x k
leb-suc x k = ap (λ (y : ℕ). leb y k) (add-one x)

-- no bit of a mask is past its last
pub past-none : (m x : ℕ) → m < 4294967296 → 31 ≤ x → (k : ℕ) → (bit m k && ltb x k) ≡ false
past-none m x l h k = go (ltb x k) refl
  where
    go : (b : Bool) → ltb x k ≡ b → (bit m k && b) ≡ false
    go true q = ap (λ (b : Bool). b && true) (bit_past 32 m k l (omega (arith, ltb-true x k q)))
    go false q = and-false (bit m k)

-- e was written at a place; what was written behind it leaves it
pub record Entered (order written : List ℕ) (at e : ℕ) : Type 0 where
  pub front : take at written ≡ take at order
  pub rest : drop at written ≡ e ∷ drop (at + 1) written

pub entered : (order written : List ℕ) (at e : ℕ) → at < length order → length written ≡ length order →
    take (at + 1) written ≡ take (at + 1) (set order at e) → Entered order written at e
entered order written at e l n q = record {
  front = sym (take_at (take at written) _ at here) ∙ ap (take at) both ∙ take_at (take at order) _ at there;
  rest = drop-cons written at 0 (omega (arith, l, n)) ∙ ap (λ (x : ℕ). x ∷ drop (suc at) written) entry
      ∙ ap (λ (j : ℕ). e ∷ drop j written) (sym (add-one at));
}
  where
    here : length (take at written) ≡ at
    here = length-take-le at written (omega (arith, l, n))

    there : length (take at order) ≡ at
    there = length-take-le at order (omega (arith, l))

    both : take at written ++ (get_or written at 0 ∷ []) ≡ take at order ++ (e ∷ [])
    both =
        sym (take-suc written at 0 (omega (arith, l, n))) ∙ ap (λ (j : ℕ). take j written) (sym (add-one at)) ∙ q
        ∙ ap (λ (j : ℕ). take j (set order at e)) (add-one at) ∙ take-suc-set order at e l

    entry : get_or written at 0 ≡ e
    entry = ap (λ (x : List ℕ). get_or x 0 0)
        (sym (drop_at (take at written) (get_or written at 0 ∷ []) at here) ∙ ap (drop at) both ∙ drop_at (take at order) (e ∷ []) at there)

-- the first n entries from there on
pub entries : {order written : List ℕ} {at e : ℕ} → Entered order written at e → (n : ℕ) → 0 < n →
    take n (drop at written) ≡ e ∷ take (n - 1) (drop (at + 1) written)
entries {written = written} {at} {e} i zero l = absurd (omega arith)
entries {written = written} {at} {e} i (suc n) l =
    let q : n ≡ suc n - 1 = omega arith in ap (take (suc n)) i.rest ∙ ap (λ (j : ℕ). e ∷ take j (drop (at + 1) written)) q

-- e is the lowest event that leads on; w: the least run behind it
behind : {t : Table} {s : State} (n : ℕ) {events at e : ℕ} {order written w : List ℕ} → Entered order written at e → 0 < n →
    Lowest t s events e → take (n - 1) (drop (at + 1) written) ≡ w → Least t (step t s e) w →
    LeastAmong t s events (take n (drop at written))
behind n {e = e} {w = w} i l d q h = record {
  head = e;
  rest = w;
  same = entries i n l ∙ ap (λ (x : List ℕ). e ∷ x) q;
  listed = d.listed;
  least = h;
  lower = d.lower;
}

-- a state that completes and isn't an end: the least of the runs that begin with an accepted event is the least of all
least-of-all : {facts ties : List (List ℕ)} {t : Table} {s : State} (can : ℕ) {w : List ℕ} → Board t facts ties →
    Accepted facts ties s can → ends t s ≡ false → Told t s true → (v : Bool) → Among t s can w v → Least t s w
unfolding runs
least-of-all {t = t} {s} can b a n (([], run)) v h = absurd (not-either _ run n)
least-of-all {t = t} {s} can {w} b a n ((y ∷ q, run)) true h =
    subst (Least t s) (sym h.same)
    (least_more t s h.head h.rest (sym (a t b h.head) ∙ h.listed) h.least (λ k l m. h.lower k l (a t b k ∙ m)) n)
least-of-all {t = t} {s} can b a n ((y ∷ q, run)) false h =
    absurd (not-either _ (run_on t s y q run) (h y (a t b y ∙ run-may t s y q run) q))

module _ {facts ties : List (List ℕ)} {s : State} {n events at : ℕ} {before after order : List ℕ} where
  -- None of the events leads on.
  pub leads-nowhere : (r : Option ℕ) → ((e : ℕ) → r ≡ Some e → ⊥) → Leads facts ties before after s n events r →
      LeadsLeast facts ties before after s n events at order order false
  leads-nowhere None z h = record { front = refl; tells = h.tells }
  leads-nowhere (Some e) z h = absurd (z e refl)

  -- It is the last event that was left.
  pub leads-last : {e : ℕ} → at < length order → n ≡ 1 → Leads facts ties before after s n events (Some e) → May facts ties s events →
      LeadsLeast facts ties before after s n events at order (set order at e) true
  leads-last {e} l o h m = record {
    front = i.front;
    tells = λ t b r f. let d = h.tells t b r f in (
      behind n i (omega (arith, o)) d.0 (ap (λ (j : ℕ). take (j - 1) (drop (at + 1) (set order at e))) o)
          (least-end t (step t s e) (ended t r (m.each t b e d.0.listed))),
      d.1,
    );
  }
    where
      i : Entered order (set order at e) at e
      i = entered order (set order at e) at e l (length-set order at e) refl

      ended : (t : Table) → Reached t s n → accepts t s e ≡ true → ends t (step t s e) ≡ true
      ended t r a =
          let m = reached-step t s n e r a in
          reached-ends t (step t s e) (subst (Reached t (step t s e)) (omega (arith, m.1, o)) m.2)

  -- Others are left, and the least run behind it was written.
  pub leads-more : {e can : ℕ} {next : State} {last written : List ℕ} {v : Bool} → at < length order → 1 < n →
      length written ≡ length order → Leads facts ties before after s n events (Some e) → May facts ties s events →
      Steps facts s e next → Accepted facts ties next can →
      LeadsLeast facts ties after last next (n - 1) can (at + 1) (set order at e) written v →
      LeadsLeast facts ties before last s n events at order written true
  leads-more {e} {can} {next} {last} {written} {v} l o k h m u a g = record {
    front = i.front;
    tells = λ t b r f. let d = h.tells t b r f in
        let x = stepped u b r (m.each t b e d.0.listed) in
        let z = g.tells t b x.1 d.1 in (
          behind n i (omega (arith, o)) d.0 refl (subst (λ (y : State). Least t y (take (n - 1) (drop (at + 1) written))) x.0
              (least-of-all can b a (unended t (n - 1) (omega (arith, o)) x.1) (subst (λ (y : State). Told t y true) (sym x.0) d.0.leads) v z.0)),
          z.1,
        );
  }
    where
      i : Entered order written at e
      i = entered order written at e l k g.front

      unended : (t : Table) (j : ℕ) → 0 < j → Reached t next j → ends t next ≡ false
      unended t zero z r = absurd (omega arith)
      unended t (suc j) z r = reached-left t next j r

-- The next run after a list.
module _ {facts ties : List (List ℕ)} {s : State} {n at : ℕ} {before start order : List ℕ} where
  -- nothing is left to place
  pub goes_end : n ≡ 0 → GoesOn facts ties before before s n start at order order false
  unfolding runs
  goes_end z = record { front = refl; tells = λ t b r f. (none t (subst (Reached t s) z r), f) }
    where
      none : (t : Table) → Reached t s 0 → NoneAbove t s (drop at start)
      none t r l h = ap (less (drop at start)) (short l (run_length t s 0 l r h)) ∙ less-nil (drop at start)
        where
          short : (l : List ℕ) → length l ≡ 0 → l ≡ []
          short [] q = refl
          short (x ∷ l) q = absurd (omega (arith, q))

  -- the list ends here: any run is greater
  pub goes-past : {after written : List ℕ} {can : ℕ} {v : Bool} → length start ≤ at → Accepted facts ties s can →
      LeadsLeast facts ties before after s n can at order written v → GoesOn facts ties before after s n start at order written v
  goes-past {after} {written} {can} {v} l a g = record {
    front = g.front;
    tells = λ t b r f. let d = g.tells t b r f in
        (subst (λ (p : List ℕ). Next t s p (take n (drop at written)) v) (sym (drop_of_length-le start l)) (any t b v d.0), d.1);
  }
    where
      any : (t : Table) → Board t facts ties → (v : Bool) → Among t s can (take n (drop at written)) v →
          Next t s [] (take n (drop at written)) v
      any t b true h = subst (LeastAbove t s []) (sym h.same)
          (any-above t s h.head h.rest (sym (a t b h.head) ∙ h.listed) h.least (λ k l m. h.lower k l (a t b k ∙ m)))
      any t b false h = none_any t s (λ k m. h k (a t b k ∙ m))

-- the list goes on with x
rest-is : (start : List ℕ) (at x : ℕ) → at < length start → x ≡ get_or start at 0 → drop at start ≡ x ∷ drop (at + 1) start
rest-is start at x l q =
    drop-cons start at 0 l ∙ ap (λ (y : ℕ). y ∷ drop (suc at) start) (sym q) ∙ ap (λ (j : ℕ). x ∷ drop j start) (sym (add-one at))

module _ {facts ties : List (List ℕ)} {s : State} {n at x : ℕ} {before start order : List ℕ} (l : at < length start)
    (q : x ≡ get_or start at 0) where
  -- x may be placed, and a run that is greater goes on with it
  pub goes-along : (can : ℕ) {next : State} {after written : List ℕ} → at < length order → 0 < n → length written ≡ length order →
      Accepted facts ties s can → bit can x ≡ true → Steps facts s x next →
      GoesOn facts ties before after next (n - 1) start (at + 1) (set order at x) written true →
      GoesOn facts ties before after s n start at order written true
  goes-along can {next} {after} {written} i o k a m u g = record {
    front = w.front;
    tells = λ t b r f.
        let may : accepts t s x ≡ true = sym (a t b x) ∙ m in
        let z = stepped u b r may in
        let d = g.tells t b z.1 f in (
          subst (λ (p : List ℕ). LeastAbove t s p (take n (drop at written))) (sym (rest-is start at x l q))
              (subst (LeastAbove t s (x ∷ drop (at + 1) start)) (sym (entries w n o))
              (tail-above t s x (drop (at + 1) start) (take (n - 1) (drop (at + 1) written)) may
              (subst (λ (y : State). LeastAbove t y (drop (at + 1) start) (take (n - 1) (drop (at + 1) written))) z.0 d.0))),
          d.1,
        );
  }
    where
      w : Entered order written at x
      w = entered order written at x i k g.front

  -- no run that is greater goes on with x; those that begin with a greater event
  pub goes_above : (can : ℕ) {greater : ℕ} {middle last mid written : List ℕ} {v : Bool} → Accepted facts ties s can →
      Above can x greater → take at mid ≡ take at order →
      ((t : Table) → Board t facts ties → Reached t s n → Fruitless t before →
      (accepts t s x ≡ true → NoneAbove t (step t s x) (drop (at + 1) start)) × Fruitless t middle) →
      LeadsLeast facts ties middle last s n greater at mid written v → GoesOn facts ties before last s n start at order written v
  goes_above can {greater} {middle} {last} {mid} {written} {v} a up same none g = record {
    front = g.front ∙ same;
    tells = λ t b r f.
        let c = none t b r f in
        let d = g.tells t b r c.1 in
        (subst (λ (p : List ℕ). Next t s p (take n (drop at written)) v) (sym (rest-is start at x l q)) (among t b c.0 v d.0), d.1);
  }
    where
      listed : (t : Table) → Board t facts ties → (k : ℕ) → x < k → accepts t s k ≡ true → bit greater k ≡ true
      listed t b k i m = up k ∙ and_both (bit can k) _ (a t b k ∙ m) (lt-ltb x k i)

      among : (t : Table) → Board t facts ties → (accepts t s x ≡ true → NoneAbove t (step t s x) (drop (at + 1) start)) →
          (v : Bool) → Among t s greater (take n (drop at written)) v → Next t s (x ∷ drop (at + 1) start) (take n (drop at written)) v
      among t b c true h =
          let i = sym (up h.head) ∙ h.listed in
          subst (LeastAbove t s (x ∷ drop (at + 1) start)) (sym h.same)
          (head-above t s x h.head (drop (at + 1) start) h.rest (ltb-true x h.head (and_r (bit can h.head) _ i))
          (sym (a t b h.head) ∙ and_l (bit can h.head) _ i) h.least c
          (λ k j e m. h.lower k e (listed t b k j m)))
      among t b c false h = none_above t s x (drop (at + 1) start) c (λ k j m. h k (listed t b k j m))

  -- x may not be placed
  pub goes-beside : (can : ℕ) {greater : ℕ} {after written : List ℕ} {v e : Bool} → Accepted facts ties s can →
      Above can x greater → e ≡ (ltb x 32 && bit can x) → e ≡ false →
      LeadsLeast facts ties before after s n greater at order written v → GoesOn facts ties before after s n start at order written v
  goes-beside can a up i z g = goes_above can a up refl (λ t b r f. (λ m. absurd (no-event t b m), f)) g
    where
      no-event : (t : Table) → Board t facts ties → accepts t s x ≡ true → ⊥
      no-event t b m =
          not-either _ (and_both (ltb x 32) _ (lt-ltb x 32 (omega (arith, accepts-count t s x m, b.known.table.small.events)))
          (a t b x ∙ m)) (sym i ∙ z)

  -- x may be placed, and no run that is greater goes on with it
  pub goes_back : (can : ℕ) {greater : ℕ} {next : State} {middle last mid written : List ℕ} {v : Bool} → at < length order →
      length mid ≡ length order → Accepted facts ties s can → Above can x greater → bit can x ≡ true → Steps facts s x next →
      GoesOn facts ties before middle next (n - 1) start (at + 1) (set order at x) mid false →
      LeadsLeast facts ties middle last s n greater at mid written v → GoesOn facts ties before last s n start at order written v
  goes_back can {next = next} {mid = mid} i k a up m u h g =
      goes_above can a up (entered order mid at x i k h.front).front (λ t b r f.
      let z = stepped u b r (sym (a t b x) ∙ m) in
      let d = h.tells t b z.1 f in
      (λ may. subst (λ (y : State). NoneAbove t y (drop (at + 1) start)) z.0 d.0, d.1)) g

-- the greater of the events that may be placed
pub above-may : {facts ties : List (List ℕ)} {s : State} (can x : ℕ) {greater : ℕ} → Accepted facts ties s can → Above can x greater →
    May facts ties s greater
above-may can x a up = record { each = λ t b e h. sym (a t b e) ∙ and_l (bit can e) _ (sym (up e) ∙ h) }
