-- Which prefix of an ascending list comes next: with the lowest entry that may follow; where none may, further back.
use Prim.Native.Nat.{ℕ, suc, ◌≤◌, ◌<◌}
use native.Mathlib.Omega.{arith}
use native.Mathlib.Nat.{eq-or-lt_of_le}
use mathlib.Core.Path.{◌≡◌, refl, sym, ap, ◌∙◌, subst}
use mathlib.Core.Bool.{Bool, true, false, not, true≢false}
use mathlib.Core.List.Memᴰ
use mathlib.Core.List.{List, [], ◌∷◌, ◌++◌, append_assoc}
use mathlib.Core.Logic.{◌⊎◌, inl, inr, ⊎_elim}
use Rattle.lists.specs.Lists.{◌∈◌, keep}
use Rattle.lists.specs.Ascending.{less, Ascending}
use Rattle.lists.proofs.KeepLaws.{keep_same, keep-none}
use Rattle.lists.proofs.AscendingLaws.{less-head, less-irrefl, less-trans, less-asym, less-append, above_at}
use Rattle.lists.proofs.BetweenLaws.{less-after, Begins, begins-at, between, between-up}
use Rattle.prefixes.specs.Listed.{after}
use Rattle.prefixes.specs.Statements.{PrefixClosed}
use Rattle.prefixes.proofs.ListedLaws.{prefix-passes}

-- the entries that are at least a
abbrev at_least : List ℕ → List (List ℕ) → List (List ℕ)
at_least a l = keep (λ r. not (less r a)) l

-- what is still to come: the entries from p with lo behind it on
abbrev pub from_on : List (List ℕ) → List ℕ → ℕ → List (List ℕ)
from_on l p lo = at_least (p ++ (lo ∷ [])) l

-- after p come the entries from p with 0 behind it on
pub from_start : (l : List (List ℕ)) (p : List ℕ) → after p l ≡ from_on l p 0
from_start l p = keep_same (less p) (λ r. not (less r (p ++ (0 ∷ [])))) l (λ r m. less-after p r)

-- where no entry is between a and b, what is at least a is what is at least b
at-least-skip : (a b : List ℕ) (l : List (List ℕ)) → less a b ≡ true → ((r : List ℕ) → r ∈ l → less r a ≡ false → less r b ≡ true → ⊥) →
    at_least a l ≡ at_least b l
at-least-skip a b l h none =
    keep_same (λ r. not (less r a)) (λ r. not (less r b)) l (λ r m. ap not (agree r m (less r a) (less r b) refl refl))
  where
    agree : (r : List ℕ) → r ∈ l → (s t : Bool) → less r a ≡ s → less r b ≡ t → s ≡ t
    agree r m true true d e = refl
    agree r m true false d e = absurd (true≢false (sym (less-trans r a b d h) ∙ e))
    agree r m false true d e = absurd (none r m d e)
    agree r m false false d e = refl

-- what is at least q, an entry, is q and what is greater
at-least-entry : (q : List ℕ) (l : List (List ℕ)) → Ascending l → q ∈ l → at_least q l ≡ q ∷ after q l
at-least-entry q [] a m = absurd (Memᴰ.not-nil m)
at-least-entry q (p ∷ l) a m = ⊎_elim first (λ i. later i (at-least-entry q l a.1 i)) (Memᴰ.cases_cons m)
  where
    greater : at_least p l ≡ after p l
    greater = keep_same (λ r. not (less r p)) (less p) l (λ r i. let h = above_at p l a.0 r i in rw (h, less-asym p r h))

    here : at_least p (p ∷ l) ≡ p ∷ after p (p ∷ l)
    here = rw (less-irrefl p) (ap (λ (m : List (List ℕ)). p ∷ m) greater)

    first : q ≡ p → at_least q (p ∷ l) ≡ q ∷ after q (p ∷ l)
    first e = subst (λ (x : List ℕ). at_least x (p ∷ l) ≡ x ∷ after x (p ∷ l)) (sym e) here

    later : q ∈ l → at_least q l ≡ q ∷ after q l → at_least q (p ∷ l) ≡ q ∷ after q (p ∷ l)
    later i t = let h = above_at p l a.0 q i in rw (h, less-asym p q h) t

-- An ascending list of prefixes, each of which passes a test with all before it.
module _ (ok : List ℕ → Bool) (l : List (List ℕ)) (closed : PrefixClosed ok) (asc : Ascending l)
    (only : (r : List ℕ) → r ∈ l → ok r ≡ true) where
  -- no entry begins with p and what may not follow it
  none-begins : (p : List ℕ) (lo : ℕ) (r : List ℕ) → r ∈ l → (b : Begins p lo r) → ok (p ++ (b.entry ∷ [])) ≡ false → ⊥
  none-begins p lo r m b shut =
      true≢false (sym (prefix-passes ok [] closed (p ++ (b.entry ∷ [])) b.rest passes) ∙ shut)
    where
      passes : ok (p ++ (b.entry ∷ []) ++ b.rest) ≡ true
      passes = ap ok (append_assoc p (b.entry ∷ []) b.rest ∙ sym b.whole) ∙ only r m

  -- none from lo up to x may follow p: what is to come begins with p and x, or is greater
  pub from-skip : (p : List ℕ) (lo x : ℕ) → lo ≤ x → ((y : ℕ) → lo ≤ y → y < x → ok (p ++ (y ∷ [])) ≡ false) →
      from_on l p lo ≡ from_on l p x
  from-skip p lo x h shut = skip (eq-or-lt_of_le h)
    where
      none : (r : List ℕ) → r ∈ l → less r (p ++ (lo ∷ [])) ≡ false → less r (p ++ (x ∷ [])) ≡ true → ⊥
      none r i d e = let b = between p lo x r d e in none-begins p lo r i b.0 (shut b.0.entry b.0.low b.1)

      skip : (lo ≡ x) ⊎ (lo < x) → from_on l p lo ≡ from_on l p x
      skip (inl e) = ap (from_on l p) e
      skip (inr q) =
          at-least-skip (p ++ (lo ∷ [])) (p ++ (x ∷ [])) l (less-append p (lo ∷ []) (x ∷ []) ∙ less-head lo x [] [] q) none

  -- x is the lowest entry from lo on that may follow p: it comes next
  pub from_next : (p : List ℕ) (lo x : ℕ) → lo ≤ x → (p ++ (x ∷ [])) ∈ l → ((y : ℕ) → lo ≤ y → y < x → ok (p ++ (y ∷ [])) ≡ false) →
      from_on l p lo ≡ (p ++ (x ∷ [])) ∷ after (p ++ (x ∷ [])) l
  from_next p lo x h m shut = from-skip p lo x h shut ∙ at-least-entry (p ++ (x ∷ [])) l asc m

  -- none from lo on may follow p and e: what is to come begins with p and a greater entry than e
  pub from_back : (p : List ℕ) (e lo : ℕ) → ((y : ℕ) → lo ≤ y → ok (p ++ (e ∷ []) ++ (y ∷ [])) ≡ false) →
      from_on l (p ++ (e ∷ [])) lo ≡ from_on l p (suc e)
  from_back p e lo shut =
      at-least-skip (p ++ (e ∷ []) ++ (lo ∷ [])) (p ++ (suc e ∷ [])) l order
      (λ r i d k. let b = between-up p e lo r d k in none-begins (p ++ (e ∷ [])) lo r i b (shut b.entry b.low))
    where
      order : less (p ++ (e ∷ []) ++ (lo ∷ [])) (p ++ (suc e ∷ [])) ≡ true
      order =
          ap (λ (m : List ℕ). less m (p ++ (suc e ∷ []))) (append_assoc p (e ∷ []) (lo ∷ [])) ∙
          less-append p (e ∷ lo ∷ []) (suc e ∷ []) ∙ less-head e (suc e) (lo ∷ []) [] (omega arith)

  -- none from lo on may come first: nothing is to come
  pub from_end : (lo : ℕ) → ((y : ℕ) → lo ≤ y → ok (y ∷ []) ≡ false) → from_on l [] lo ≡ []
  from_end lo shut = keep-none (λ r. not (less r (lo ∷ []))) l (λ r m. ap not (less-not-from r m (less r (lo ∷ [])) refl))
    where
      less-not-from : (r : List ℕ) → r ∈ l → (b : Bool) → less r (lo ∷ []) ≡ b → b ≡ true
      less-not-from r m true e = refl
      less-not-from r m false e = let b = begins-at lo r e in absurd (none-begins [] lo r m b (shut b.entry b.low))
