-- What the memo knows is true: it says nothing at first, and only states that don't complete are stored.
use Prim.Native.Nat.{ℕ, ◌+◌, ◌*◌, ◌<◌, ◌≤◌}
use native.Mathlib.Omega.{arith}
use native.Mathlib.Nat.{le_antisymm}
use mathlib.Core.Path.{◌≡◌, refl, sym, ap₂, ◌∙◌, subst}
use mathlib.Core.Bool.{Bool, true, false, not, ◌&&◌}
use mathlib.Core.List.{List}
use mathlib.Core.Logic.{◌⊎◌, inl, inr, ⊎_elim}
use lib.ListN.{length, get_or, set}
use lib.Seq.{get_or-set_same, get_or-set_other}
use lib.Dec.{eqb}
use borrow.Author.Tests.{eqb-true, eqb-false, not-true}
use Rattle.lists.proofs.BoolLaws.{and_l, and_r}
use Rattle.table.specs.declared.Table.{Table}
use Rattle.states.specs.declared.State.{State}
use Rattle.states.specs.Completions.{Told}
use Rattle.deciding.specs.Memo.{word_of, Fruitless, Kept, Knows, Stored}

-- the two halves of a word
half_le : (a b c d : ℕ) → b < 4294967296 → d < 4294967296 → a * 4294967296 + b ≡ c * 4294967296 + d → (a ≤ c) × (c ≤ a)
half_le a b c d h k e = (omega (arith, h, k, e), omega (arith, h, k, e))

halves : (a b c d : ℕ) → b < 4294967296 → d < 4294967296 → a * 4294967296 + b ≡ c * 4294967296 + d → (a ≡ c) × (b ≡ d)
halves a b c d h k e =
    let q : a ≡ c = le_antisymm (half_le a b c d h k e).0 (half_le a b c d h k e).1 in
    (q, omega (arith, q, e))

-- one word, one state
pub one_state : (s u : State) → s.placed < 4294967296 → u.placed < 4294967296 → word_of s ≡ word_of u → s ≡ u
one_state s u h k e =
    let q = halves s.good s.placed u.good u.placed h k e in ap₂ (λ (g p : ℕ). the-state g p) q.0 q.1
  where
    the-state : ℕ → ℕ → State
    the-state g p = record { placed = p; good = g }

-- a word that is found in its slot, and isn't 0
pub knows_as : (memo : List ℕ) (s : State) (slot w : ℕ) → w ≡ word_of s → Knows memo s (not (eqb w 0) && eqb (get_or memo slot 0) w)
knows_as memo s slot w q = go (not (eqb w 0) && eqb (get_or memo slot 0) w) refl
  where
    go : (b : Bool) → (not (eqb w 0) && eqb (get_or memo slot 0) w) ≡ b → Knows memo s b
    go true h = record {
      slot = slot;
      here = eqb-true _ _ (and_r (not (eqb w 0)) _ h) ∙ q;
      some = λ z. eqb-false w 0 (not-true _ (and_l (not (eqb w 0)) _ h)) (q ∙ z);
    }
    go false h = tt

pub stored-as : (memo : List ℕ) (s : State) (slot w : ℕ) → slot < length memo → w ≡ word_of s → Stored memo s (set memo slot w)
stored-as memo s slot w l q = record { each = λ i. go i (eqb slot i) refl }
  where
    go : (i : ℕ) (b : Bool) → eqb slot i ≡ b → (get_or (set memo slot w) i 0 ≡ get_or memo i 0) ⊎ (get_or (set memo slot w) i 0 ≡ word_of s)
    go i true h = inr (subst (λ (j : ℕ). get_or (set memo slot w) j 0 ≡ word_of s) (eqb-true slot i h) (get_or-set_same memo slot w 0 l ∙ q))
    go i false h = inl (get_or-set_other memo slot i w 0 (λ e. eqb-false slot i h (sym e)))

module _ (t : Table) where
  -- a state that is known
  pub known-told : (memo : List ℕ) (s : State) → s.placed < 4294967296 → Fruitless t memo → Kept memo s → Told t s false
  known-told memo s l f k = f.none k.slot s l k.here k.some

  -- one more state stored
  pub stored-fruitless : (before after : List ℕ) (s : State) → s.placed < 4294967296 → Fruitless t before → Stored before s after →
      Told t s false → Fruitless t after
  stored-fruitless before after s l f k told = record {
    none = λ i u m e n.
        ⊎_elim (λ (q : get_or after i 0 ≡ get_or before i 0). f.none i u m (sym q ∙ e) n)
        (λ q. subst (λ (x : State). Told t x false) (one_state s u l m (sym q ∙ e)) told) (k.each i);
  }

  -- a cleared memo says nothing
  pub cleared : (memo : List ℕ) → ((i : ℕ) → get_or memo i 0 ≡ 0) → Fruitless t memo
  cleared memo z = record { none = λ i s l e n. absurd (n (sym e ∙ z i)) }
