-- Laws of tests.
use Prim.Native.Nat.{ℕ, zero, suc}
use mathlib.Core.Path.{◌≡◌, refl, sym, ◌∙◌}
use mathlib.Core.Bool.{Bool, true, false, ◌&&◌, ◌||◌, not, xor, true≢false, false≢true}
use mathlib.Core.Logic.{◌⊎◌, inl, inr}
use lib.Dec.{eqb, eqb-zero-suc, eqb-suc-zero, eqb-suc-suc}

-- a test that passed drops out of a conjunction
pub and-taken : (a b : Bool) → a ≡ true → b ≡ (a && b)
and-taken true b h = refl
and-taken false b h = absurd (false≢true h)

-- a test that failed decides it
pub and_left : (a b : Bool) → a ≡ false → false ≡ (a && b)
and_left true b h = absurd (true≢false h)
and_left false b h = refl

-- the first of three tests that passed drops out
pub and-taken3 : (a b d : Bool) → a ≡ true → (b && d) ≡ (a && b && d)
and-taken3 true b d h = refl
and-taken3 false b d h = absurd (false≢true h)

-- not both: the first failed, or what says that the second did
pub not-both : (a s : Bool) → (not a || s) ≡ not (a && not s)
not-both true true = refl
not-both true false = refl
not-both false s = refl

-- the second test failed
pub and_right : (a b : Bool) → b ≡ false → (a && b) ≡ false
and_right true b h = h
and_right false b h = refl

-- both tests passed
pub and_both : (a b : Bool) → a ≡ true → b ≡ true → (a && b) ≡ true
and_both true b h k = k
and_both false b h k = h

-- a test that passed decides a disjunction
pub or-taken : (a b : Bool) → a ≡ true → true ≡ (a || b)
or-taken true b h = refl
or-taken false b h = absurd (false≢true h)

-- a test that failed drops out of it
pub or_left : (a b : Bool) → a ≡ false → b ≡ (a || b)
or_left true b h = absurd (true≢false h)
or_left false b h = refl

-- the left side of a conjunction that holds
pub and_l : (s t : Bool) → (s && t) ≡ true → s ≡ true
and_l true t h = refl
and_l false t h = h

-- the right side of a conjunction that holds
pub and_r : (s t : Bool) → (s && t) ≡ true → t ≡ true
and_r true t h = h
and_r false t h = absurd (false≢true h)

-- a conjunction with what follows adds nothing
pub and-within : (s t : Bool) → (s ≡ true → t ≡ true) → (s && t) ≡ s
and-within true t f = f refl
and-within false t f = refl

-- tests that imply each other are the same
pub bool-ext : (s t : Bool) → (s ≡ true → t ≡ true) → (t ≡ true → s ≡ true) → s ≡ t
bool-ext true t f g = sym (f refl)
bool-ext false true f g = g refl
bool-ext false false f g = refl

-- a test does not differ from itself
pub xor_self : (s : Bool) → xor s s ≡ false
unfolding xor
xor_self true = refl
xor_self false = refl

-- tests that do not differ are the same
pub xor-none : (s t : Bool) → xor s t ≡ false → s ≡ t
unfolding xor
xor-none true true e = refl
xor-none true false e = e
xor-none false true e = sym e
xor-none false false e = refl

-- a test differs from false where it holds
pub xor-false : (s : Bool) → xor s false ≡ s
unfolding xor
xor-false true = refl
xor-false false = refl

-- a conjunction differs from its left side where the right one fails
pub xor-and : (s t : Bool) → xor (s && t) s ≡ (s && not t)
unfolding xor
xor-and true true = refl
xor-and true false = refl
xor-and false t = refl

-- both sides of a disjunction that fails
pub or_off : (s t : Bool) → (s || t) ≡ false → (s ≡ false) × (t ≡ false)
or_off true t h = absurd (true≢false h)
or_off false t h = (refl, h)

pub or_l : (s t : Bool) → (s || t) ≡ false → s ≡ false
or_l s t h = (or_off s t h).0

pub or_r : (s t : Bool) → (s || t) ≡ false → t ≡ false
or_r s t h = (or_off s t h).1

-- neither of two tests passes
pub neither : (s t : Bool) → (not s && not t) ≡ not (s || t)
neither true t = refl
neither false t = refl

-- one side of a disjunction that holds does
pub or_cases : (s t : Bool) → (s || t) ≡ true → (s ≡ true) ⊎ (t ≡ true)
or_cases true t h = inl refl
or_cases false t h = inr h

-- no test both passes and fails
pub not-either : (s : Bool) → s ≡ true → s ≡ false → ⊥
not-either s h k = true≢false (sym h ∙ k)

-- one that can't pass fails
pub is_false : (s : Bool) → (s ≡ true → ⊥) → s ≡ false
is_false true h = absurd (h refl)
is_false false h = refl

-- one that can't fail passes
pub is_true : (s : Bool) → (s ≡ false → ⊥) → s ≡ true
is_true true h = refl
is_true false h = absurd (h refl)

-- "if s then t" as a test
pub or-implied : (s t : Bool) → (s ≡ true → t ≡ true) → (not s || t) ≡ true
or-implied true t f = f refl
or-implied false t f = refl

-- such a test, where s passes
pub implied : (s t : Bool) → (not s || t) ≡ true → s ≡ true → t ≡ true
implied true t h k = h
implied false t h k = absurd (false≢true k)

-- a test of equality reads the same both ways
pub eqb_comm : (a b : ℕ) → eqb a b ≡ eqb b a
eqb_comm zero zero = refl
eqb_comm zero (suc b) = eqb-zero-suc b ∙ sym (eqb-suc-zero b)
eqb_comm (suc a) zero = eqb-suc-zero a ∙ sym (eqb-zero-suc a)
eqb_comm (suc a) (suc b) = eqb-suc-suc a b ∙ eqb_comm a b ∙ sym (eqb-suc-suc b a)
