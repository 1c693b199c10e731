-- Lines 9 and 10 of all events, told in one pass by what each hart has passed.
use Prim.Native.Nat.{ℕ, ◌+◌, ◌^◌, ◌≤◌, ◌<◌}
use mathlib.Core.Path.{◌≡◌, refl, sym, ap, subst, ◌∙◌}
use mathlib.Core.Bool.{Bool, true, false, cond, ◌&&◌, ◌||◌, not, or-true, false≢true}
use mathlib.Core.List.{List}
use mathlib.Core.Logic.{⊎_elim}
use native.Mathlib.Omega.{arith}
use lib.Bits.{bit_or}
use lib.Dec.{eqb, ltb}
use lib.ListN.{length, get_or, set, replicate, length-set, length-replicate, get_or-replicate}
use lib.Seq.{get_or-set_same, get_or-set_other}
use borrow.Author.Tests.{eqb-true, eqb-false, eq-eqb, ltb-true, lt-ltb, not-true, not-false}
use Rattle.lists.specs.Below.{some}
use Rattle.lists.proofs.BoolLaws.{and_l, and_r, and_both, or_off, or_cases}
use Rattle.lists.proofs.SomeLaws.{some_at, some-none, none-at}
use Rattle.masks.specs.Bit.{bit}
use Rattle.masks.proofs.BitLaws.{bit-or, bit-zero}
use Rattle.masks.proofs.GatherLaws.{bit-if}
use Rattle.edition.specs.Limits.{max_harts}
use Rattle.table.specs.declared.Table.{Table}
use Rattle.table.specs.Events.{capacity, store, lr, sc, fencing_kind, event, kind, hart, location, reads, writes, memory, same_location}
use Rattle.table.specs.Events.{po, between, reserves, paired}
use Rattle.refusals.specs.TableLines.{names_wrongly, data_of_non_writer, lacks_control, line9, paired_here, line10}
use Rattle.dependency_lines.specs.declared.Passed.{Passed}
use Rattle.dependency_lines.specs.Passing.{lacking, may_break, reserved_after, nameable, after}
use Rattle.dependency_lines.proofs.DependencyLaws.{wrongly, wrong-named}

abbrev pub none_passed : Passed
none_passed = record { sources = 0; controls = 0; reserved = 0 }

abbrev reserving : Table → ℕ → Bool
reserving t m = eqb (kind t m) lr || eqb (kind t m) sc

-- an LR of hart h, to location x, stands before k, and no LR or SC of the hart behind it
pub record Open (t : Table) (k h x : ℕ) : Type 0 where
  pub at : ℕ
  pub early : at < k
  pub own : hart t at ≡ h
  pub loads : kind t at ≡ lr
  pub here : location t at ≡ x
  pub last : (m : ℕ) → at < m → m < k → hart t m ≡ h → reserving t m ≡ false

-- p is what hart h has passed before k
pub record PassedOf (t : Table) (k h : ℕ) (p : Passed) : Type 0 where
  pub source : (m : ℕ) → bit p.sources m ≡ true → (m < k) × (hart t m ≡ h) × (nameable (kind t m) ≡ true)
  pub control : (a m : ℕ) → a < k → hart t a ≡ h → bit (event t a).ctrl m ≡ true → bit p.controls m ≡ true
  pub opened : (x : ℕ) → p.reserved ≡ x + 1 → Open t k h x

none_passed_lem : (t : Table) (h : ℕ) → PassedOf t 0 h none_passed
none_passed_lem t h =
    record {
      source = λ m b. absurd (false≢true (sym (bit-zero m) ∙ b));
      control = λ a m l e b. absurd (omega (arith, l));
      opened = λ x e. absurd (omega (arith, e));
    }

module _ (t : Table) (k h : ℕ) (p : Passed) (q : PassedOf t k h p) where
  -- an LR that no event from k on of its hart takes stays open
  still_open : (x : ℕ) → Open t k h x → (hart t k ≡ h → reserving t k ≡ false) → Open t (k + 1) h x
  still_open x o n =
      record {
        at = o.at;
        early = omega (arith, o.early);
        own = o.own;
        loads = o.loads;
        here = o.here;
        last = λ m i j e. go m i j e (eqb m k) refl;
      }
    where
      go : (m : ℕ) → o.at < m → m < k + 1 → hart t m ≡ h → (b : Bool) → eqb m k ≡ b → reserving t m ≡ false
      go m i j e true z =
          let s = eqb-true m k z in ap (reserving t) s ∙ n (ap (hart t) (sym s) ∙ e)
      go m i j e false z = o.last m i (omega (arith, j, eqb-false m k z)) e

  -- k is an event of another hart
  other-passed : (hart t k ≡ h → ⊥) → PassedOf t (k + 1) h p
  other-passed n =
      record {
        source = λ m b. let s = q.source m b in (omega (arith, s.0), s.1, s.2);
        control = λ a m l e b. go a m l e b (eqb a k) refl;
        opened = λ x r. still_open x (q.opened x r) (λ e. absurd (n e));
      }
    where
      go : (a m : ℕ) → a < k + 1 → hart t a ≡ h → bit (event t a).ctrl m ≡ true → (c : Bool) → eqb a k ≡ c → bit p.controls m ≡ true
      go a m l e b true z = absurd (n (ap (hart t) (sym (eqb-true a k z)) ∙ e))
      go a m l e b false z = q.control a m (omega (arith, l, eqb-false a k z)) e b

  -- k is one of this hart
  module _ (own : hart t k ≡ h) where
    source_more : (m : ℕ) → bit (bit_or p.sources (cond (nameable (kind t k)) (2 ^ k) 0)) m ≡ true
        → (m < k + 1) × (hart t m ≡ h) × (nameable (kind t m) ≡ true)
    source_more m b = ⊎_elim old new (or_cases _ _ (sym (bit-or p.sources (cond (nameable (kind t k)) (2 ^ k) 0) m) ∙ b))
      where
        old : bit p.sources m ≡ true → (m < k + 1) × (hart t m ≡ h) × (nameable (kind t m) ≡ true)
        old i = let s = q.source m i in (omega (arith, s.0), s.1, s.2)

        new : bit (cond (nameable (kind t k)) (2 ^ k) 0) m ≡ true → (m < k + 1) × (hart t m ≡ h) × (nameable (kind t m) ≡ true)
        new i =
            let n = sym (bit-if (nameable (kind t k)) k m) ∙ i in
            subst (λ (j : ℕ). (j < k + 1) × (hart t j ≡ h) × (nameable (kind t j) ≡ true)) (eqb-true k m (and_r (nameable (kind t k)) _ n))
            (omega arith, own, and_l _ (eqb k m) n)

    control-more : (a m : ℕ) → a < k + 1 → hart t a ≡ h → bit (event t a).ctrl m ≡ true
        → bit (bit_or p.controls (event t k).ctrl) m ≡ true
    control-more a m l e b = bit-or p.controls (event t k).ctrl m ∙ go (eqb a k) refl
      where
        go : (c : Bool) → eqb a k ≡ c → (bit p.controls m || bit (event t k).ctrl m) ≡ true
        go true z =
            ap (λ (x : Bool). bit p.controls m || x) (ap (λ (j : ℕ). bit (event t j).ctrl m) (sym (eqb-true a k z)) ∙ b)
            ∙ or-true (bit p.controls m)
        go false z = ap (λ (x : Bool). x || bit (event t k).ctrl m) (q.control a m (omega (arith, l, eqb-false a k z)) e b)

    open_more : (x : ℕ) → cond (eqb (kind t k) lr) (location t k + 1) (cond (eqb (kind t k) sc) 0 p.reserved) ≡ x + 1
        → Open t (k + 1) h x
    open_more x = go (eqb (kind t k) lr) refl (eqb (kind t k) sc) refl
      where
        go : (a : Bool) → eqb (kind t k) lr ≡ a → (b : Bool) → eqb (kind t k) sc ≡ b
            → cond a (location t k + 1) (cond b 0 p.reserved) ≡ x + 1 → Open t (k + 1) h x
        go true z b y r =
            record {
              at = k;
              early = omega arith;
              own = own;
              loads = eqb-true _ _ z;
              here = omega (arith, r);
              last = λ m i j e. absurd (omega (arith, i, j));
            }
        go false z true y r = absurd (omega (arith, r))
        go false z false y r = still_open x (q.opened x r) (λ e. rw (z, y) refl)

    own-passed : PassedOf t (k + 1) h (after p k (event t k))
    unfolding after reserved_after kind location
    own-passed = record { source = source_more; control = control-more; opened = open_more }

-- the four tests of an event, each off
four-off : (a b d e : Bool) → (a || b || d || e) ≡ false → (a ≡ false) × (b ≡ false) × (d ≡ false) × (e ≡ false)
four-off a b d e h =
    let abd = or_off (a || b || d) e h in
    let ab = or_off (a || b) d abd.0 in
    let first = or_off a b ab.0 in
    (first.0, first.1, ab.1, abd.1)

-- what isn't lacking
has_all : (a b m : ℕ) → lacking a b ≡ false → m < capacity → bit a m ≡ true → bit b m ≡ true
has_all a b m h l i =
    not-false (bit b m) (sym (ap (λ (x : Bool). x && not (bit b m)) i) ∙ none-at capacity (λ j. bit a j && not (bit b j)) m h l)

earlier : (t : Table) (a b : ℕ) → a < b → hart t a ≡ hart t b → po t a b ≡ true
unfolding po
earlier t a b l e = and_both _ _ (lt-ltb a b l) (eq-eqb _ _ e)

is-earlier : (t : Table) (a b : ℕ) → po t a b ≡ true → (a < b) × (hart t a ≡ hart t b)
unfolding po
is-earlier t a b h = (ltb-true a b (and_l (ltb a b) _ h), eqb-true _ _ (and_r (ltb a b) _ h))

-- k may break neither line, by what its hart has passed
module _ (t : Table) (k : ℕ) (p : Passed) (q : PassedOf t k (hart t k) p) (clear : may_break p (event t k) ≡ false) where
  abbrev named : ℕ
  named = bit_or (bit_or (event t k).addr (event t k).«data») (event t k).ctrl

  tests : (lacking named p.sources ≡ false) × (data_of_non_writer t k ≡ false)
      × ((memory t k && lacking p.controls (event t k).ctrl) ≡ false)
      × ((eqb (kind t k) sc && not (eqb p.reserved (location t k + 1))) ≡ false)
  unfolding may_break data_of_non_writer memory reads writes kind location
  tests = four-off _ _ _ _ clear

  rightly : (m : ℕ) → bit p.sources m ≡ true → wrongly t k m ≡ false
  rightly m i =
      let s = q.source m i in
      let plain = not-true (eqb (kind t m) store) (and_l _ (not (fencing_kind (kind t m))) s.2) in
      let fences = not-true (fencing_kind (kind t m)) (and_r (not (eqb (kind t m) store)) _ s.2) in
      rw (earlier t m k s.0 s.1, plain, fences) refl

  names-right : some capacity (names_wrongly t k) ≡ false
  names-right = wrong-named t k ∙ some-none capacity _ (λ m l. go m l (bit named m) refl)
    where
      go : (m : ℕ) → m < capacity → (b : Bool) → bit named m ≡ b → (b && wrongly t k m) ≡ false
      go m l true i = rightly m (has_all named p.sources m tests.0 l i)
      go m l false i = refl

  control-right : (a : ℕ) → lacks_control t a k ≡ false
  unfolding lacks_control
  control-right a = go (po t a k) refl (memory t k) refl
    where
      kept : po t a k ≡ true → memory t k ≡ true → (m : ℕ) → m < capacity → (b : Bool) → bit (event t a).ctrl m ≡ b
          → (b && not (bit (event t k).ctrl m)) ≡ false
      kept e i m l true z =
          let s = is-earlier t a k e in
          let none = sym (ap (λ (x : Bool). x && lacking p.controls (event t k).ctrl) i) ∙ tests.2 in
          ap not (has_all p.controls (event t k).ctrl m none l (q.control a m s.0 s.1 z))
      kept e i m l false z = refl

      go : (b : Bool) → po t a k ≡ b → (d : Bool) → memory t k ≡ d
          → (b && d && lacking (event t a).ctrl (event t k).ctrl) ≡ false
      go true e true i = some-none capacity _ (λ m l. kept e i m l (bit (event t a).ctrl m) refl)
      go true e false i = refl
      go false e d i = refl

  -- the LR that is open is paired with the SC
  pairs : k < t.count → kind t k ≡ sc → Open t k (hart t k) (location t k) → some t.count (paired_here t k) ≡ true
  unfolding paired_here paired same_location reserves between
  pairs l e o =
      some_at t.count (paired_here t k) o.at (omega (arith, o.early))
      (and_both _ _
      (and_both _ _ (and_both _ _ (and_both _ _ (earlier t o.at k o.early o.own) (eq-eqb _ _ o.loads)) (eq-eqb _ _ e))
      (ap not (some-none t.count (reserves t o.at k) (λ m i. go m (po t o.at m) refl (po t m k) refl))))
      (eq-eqb _ _ o.here))
    where
      go : (m : ℕ) (b : Bool) → po t o.at m ≡ b → (d : Bool) → po t m k ≡ d → (b && d && reserving t m) ≡ false
      go m true y true z = o.last m (is-earlier t o.at m y).0 (is-earlier t m k z).0 (is-earlier t m k z).1
      go m true y false z = refl
      go m false y d z = refl

  paired-right : k < t.count → line10 t k ≡ false
  unfolding line10
  paired-right l = go (eqb (kind t k) sc) refl
    where
      go : (b : Bool) → eqb (kind t k) sc ≡ b → (b && not (some t.count (paired_here t k))) ≡ false
      go true z =
          let same = sym (ap (λ (x : Bool). x && not (eqb p.reserved (location t k + 1))) z) ∙ tests.3 in
          ap not (pairs l (eqb-true _ _ z) (q.opened (location t k) (eqb-true _ _ (not-false _ same))))
      go false z = refl

-- the events before k are passed, and break neither line
pub record Passing (t : Table) (k : ℕ) (harts : List Passed) : Type 0 where
  pub long : length harts ≡ max_harts
  pub each : (h : ℕ) → h < max_harts → PassedOf t k h (get_or harts h none_passed)
  pub named-right : (i : ℕ) → i < k → (some capacity (names_wrongly t i) ≡ false) × (data_of_non_writer t i ≡ false)
  pub controls-right : (a j : ℕ) → j < k → lacks_control t a j ≡ false
  pub all-paired : (i : ℕ) → i < k → line10 t i ≡ false

pub pass-start : (t : Table) → Passing t 0 (replicate max_harts none_passed)
pass-start t =
    record {
      long = length-replicate max_harts none_passed;
      each = λ h l. subst (PassedOf t 0 h) (sym (get_or-replicate max_harts h none_passed none_passed l)) (none_passed_lem t h);
      named-right = λ i l. absurd (omega (arith, l));
      controls-right = λ a j l. absurd (omega (arith, l));
      all-paired = λ i l. absurd (omega (arith, l));
    }

-- what holds of all before k, and of k, holds of all before k + 1
one_more : (P : ℕ → Type 0) (k i : ℕ) → (i < k → P i) → P k → i < k + 1 → P i
one_more P k i old new l = go (eqb i k) refl
  where
    go : (b : Bool) → eqb i k ≡ b → P i
    go true z = subst P (sym (eqb-true i k z)) new
    go false z = old (omega (arith, l, eqb-false i k z))

pub pass-more : (t : Table) (k : ℕ) (harts : List Passed) (h : ℕ) (v : Passed) → Passing t k harts → k < t.count → h ≡ hart t k → h < max_harts
    → may_break (get_or harts h none_passed) (event t k) ≡ false
    → v ≡ after (get_or harts h none_passed) k (event t k)
    → Passing t (k + 1) (set harts h v)
pass-more t k harts h v s l own room clear e =
    record {
      long = simp length-set s.long;
      each = λ g i. turn g i (eqb g h) refl;
      named-right = λ i. one_more right k i (s.named-right i) (names-right t k p now clear, (tests t k p now clear).1);
      controls-right = λ a j. one_more (λ x. lacks_control t a x ≡ false) k j (s.controls-right a j) (control-right t k p now clear a);
      all-paired = λ i. one_more (λ x. line10 t x ≡ false) k i (s.all-paired i) (paired-right t k p now clear l);
    }
  where
    p : Passed
    p = get_or harts h none_passed

    right : ℕ → Type 0
    right i = (some capacity (names_wrongly t i) ≡ false) × (data_of_non_writer t i ≡ false)

    now : PassedOf t k (hart t k) p
    now = subst (λ (x : ℕ). PassedOf t k x p) own (s.each h room)

    turn : (g : ℕ) → g < max_harts → (b : Bool) → eqb g h ≡ b → PassedOf t (k + 1) g (get_or (set harts h v) g none_passed)
    turn g i true z =
        let same = eqb-true g h z in
        subst (λ (x : ℕ). PassedOf t (k + 1) x (get_or (set harts h v) x none_passed)) (sym same)
        (subst (PassedOf t (k + 1) h) (sym (get_or-set_same harts h v none_passed (omega (arith, s.long, room)) ∙ e))
        (own-passed t k h p (s.each h room) (sym own)))
    turn g i false z =
        let other = eqb-false g h z in
        subst (PassedOf t (k + 1) g) (sym (get_or-set_other harts h g v none_passed other))
        (other-passed t k g (get_or harts g none_passed) (s.each g i) (λ y. other (sym y ∙ sym own)))

pub pass-end : (t : Table) (k : ℕ) (harts : List Passed) → Passing t k harts → t.count ≤ k
    → (some t.count (line9 t) ≡ false) × (some t.count (line10 t) ≡ false)
unfolding line9
pass-end t k harts s l = (
  some-none t.count (line9 t) (λ i r. go i (omega (arith, r))),
  some-none t.count (line10 t) (λ i r. s.all-paired i (omega (arith, r))),
)
  where
    go : (i : ℕ) → i < k → (some capacity (names_wrongly t i) || data_of_non_writer t i || some t.count (lacks_control t i)) ≡ false
    go i r =
        rw (
          (s.named-right i r).0,
          (s.named-right i r).1,
          some-none t.count (lacks_control t i) (λ j u. s.controls-right i j (omega (arith, u))),
        ) refl
