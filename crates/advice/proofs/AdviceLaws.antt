-- What an advice says of witnesses: an answer first, then the first set that isn't found, then the advice of a table.
use Prim.Native.Nat.{ℕ, suc}
use native.Mathlib.Omega.{arith}
use mathlib.Core.Path.{◌≡◌, refl, sym, ap, ◌∙◌, subst}
use mathlib.Core.Bool.{Bool, true, false, true≢false, false≢true}
use mathlib.Core.List.Memᴰ
use mathlib.Core.List.{List, [], ◌∷◌}
use mathlib.Core.Logic.{◌⊎◌, inl, inr, ⊎_elim}
use lib.ListN.{length, take}
use lib.Seq.{take_all}
use lib.Dec.{leb}
use borrow.Author.Tests.{leb-true}
use Rattle.lists.specs.Below.{some}
use Rattle.lists.specs.Lists.{◌∈◌, any, has, first_or, leading}
use Rattle.lists.proofs.BoolLaws.{or_l, or_r, or_cases, is_false}
use Rattle.lists.proofs.MemberLaws.{has_all}
use Rattle.lists.proofs.AscendingLaws.{less-asym, after-above}
use Rattle.prefixes.specs.Listed.{after}
use Rattle.prefixes.specs.Answer.{Answer, found, none_left, spent, pick, last_visited, answer}
use Rattle.prefixes.specs.Statements.{Rising}
use Rattle.prefixes.proofs.ListedLaws.{rising-keep}
use Rattle.table.specs.declared.Table.{Table}
use Rattle.table.specs.Events.{memory}
use Rattle.model.specs.Witness.{stated_outcome, witness}
use Rattle.model.specs.Prefixes.{clean, prefixes_by, search_by, search}
use Rattle.model.proofs.PrefixLaws.{clean-closed, passing-listed, passing-nonempty, witness-clean, witness-nonempty}
use Rattle.advice.specs.Sets.{by_size}
use Rattle.advice.specs.Advice.{clear_fence, clear_fences, with_fences, search_with, Advice, advised, undecided, fences_dont_help, decided_by, first_unfound, advice}
use Rattle.advice.specs.Statements.{IsSet, Earlier, Pairwise, SetsRight, AllowedWith, ForbiddenWith, IsSpent, Decides, AdviceRight}
use Rattle.advice.proofs.SetsLaws.{sets-right}
use Rattle.advice.proofs.FenceLaws.{memory-stays}

abbrev IsFound : Answer → Type 0
IsFound (found p v) = Unit {0}
IsFound (none_left v) = ⊥
IsFound (spent p v) = ⊥

abbrev IsNoneLeft : Answer → Type 0
IsNoneLeft (found p v) = ⊥
IsNoneLeft (none_left v) = Unit {0}
IsNoneLeft (spent p v) = ⊥

-- What one answer says.
module _ (goal : List ℕ → Bool) where
  any-goal : (l : List (List ℕ)) → any goal l ≡ true → (p : List ℕ) × (goal p ≡ true)
  any-goal [] h = absurd (false≢true h)
  any-goal (p ∷ l) h = ⊎_elim (λ e. (p, e)) (λ m. any-goal l m) (or_cases (goal p) (any goal l) h)

  no-goal : (l : List (List ℕ)) → any goal l ≡ false → (p : List ℕ) → p ∈ l → goal p ≡ false
  no-goal [] h p m = absurd (Memᴰ.not-nil m)
  no-goal (q ∷ l) h p m =
      ⊎_elim (λ (e : p ≡ q). ap goal e ∙ or_l (goal q) (any goal l) h) (λ i. no-goal l (or_r (goal q) (any goal l) h) p i) (Memᴰ.cases_cons m)

  module _ (l : List (List ℕ)) (s : List ℕ) (b : ℕ) where
    -- the three cases of an answer
    abbrev cases : Bool → Bool → Answer
    cases c d = pick c (found (first_or goal [] l) (suc (leading goal l))) (pick d (none_left (length l)) (spent (last_visited s (take b l)) b))

    found-says : IsFound (answer goal l s b) → (p : List ℕ) × (goal p ≡ true)
    unfolding answer
    found-says h = go (any goal (take b l)) (leb (length l) b) refl h
      where
        go : (c d : Bool) → any goal (take b l) ≡ c → IsFound (cases c d) → (p : List ℕ) × (goal p ≡ true)
        go true d e h = any-goal (take b l) e
        go false true e h = absurd h
        go false false e h = absurd h

    none-says : IsNoneLeft (answer goal l s b) → (p : List ℕ) → p ∈ l → goal p ≡ false
    unfolding answer
    none-says h = go (any goal (take b l)) (leb (length l) b) refl refl h
      where
        go : (c d : Bool) → any goal (take b l) ≡ c → leb (length l) b ≡ d → IsNoneLeft (cases c d) →
            (p : List ℕ) → p ∈ l → goal p ≡ false
        go true d e f h = absurd h
        go false true e f h = no-goal l (sym (ap (any goal) (take_all b l (leb-true (length l) b f))) ∙ e)
        go false false e f h = absurd h

-- two sets aren't tried before each other
earlier-asym : (a b : List ℕ) → Earlier a b → Earlier b a → ⊥
earlier-asym a b (inl p) (inl q) = omega arith
earlier-asym a b (inl p) (inr q) = omega (arith, q.0)
earlier-asym a b (inr p) (inl q) = omega (arith, p.0)
earlier-asym a b (inr p) (inr q) = true≢false (sym q.1 ∙ less-asym a b p.1)

-- The first set that isn't found, of any list of sets in order.
module _ (answer_of : List ℕ → Answer) where
  abbrev FoundBefore : List (List ℕ) → List ℕ → Type 0
  FoundBefore l s = (q : List ℕ) → q ∈ l → Earlier q s → IsFound (answer_of q)

  abbrev Told : List (List ℕ) → Advice → Type 0
  Told l (advised s) = (s ∈ l) × IsNoneLeft (answer_of s) × FoundBefore l s
  Told l (undecided s) = (s ∈ l) × IsSpent (answer_of s) × FoundBefore l s
  Told l fences_dont_help = (q : List ℕ) → q ∈ l → IsFound (answer_of q)

  first-before : (s : List ℕ) (l : List (List ℕ)) → ((q : List ℕ) → q ∈ l → Earlier s q) → FoundBefore (s ∷ l) s
  first-before s l h q m e =
      ⊎_elim (λ (d : q ≡ s). absurd (let e' = subst (λ (z : List ℕ). Earlier z s) d e in earlier-asym s s e' e'))
      (λ i. absurd (earlier-asym s q (h q i) e)) (Memᴰ.cases_cons m)

  -- one that was found leaves it to the others
  later : (s : List ℕ) (l : List (List ℕ)) (a : Advice) → IsFound (answer_of s) → Told l a → Told (s ∷ l) a
  later s l a f = go a
    where
      each : (q : List ℕ) → q ∈ (s ∷ l) → (q ∈ l → IsFound (answer_of q)) → IsFound (answer_of q)
      each q m h = ⊎_elim (λ (d : q ≡ s). subst (λ (w : List ℕ). IsFound (answer_of w)) (sym d) f) h (Memᴰ.cases_cons m)

      go : (a : Advice) → Told l a → Told (s ∷ l) a
      go (advised z) d = (Memᴰ.tail d.0, d.1, λ q m e. each q m (λ i. d.2 q i e))
      go (undecided z) d = (Memᴰ.tail d.0, d.1, λ q m e. each q m (λ i. d.2 q i e))
      go fences_dont_help d = λ q m. each q m (d q)

  first-told : (l : List (List ℕ)) → Pairwise Earlier l → Told l (first_unfound answer_of l)
  unfolding first_unfound
  first-told [] o = λ q m. absurd (Memᴰ.not-nil m)
  first-told (s ∷ l) o = go (answer_of s) refl (first-told l o.1)
    where
      advises : IsNoneLeft (answer_of s) → Told (s ∷ l) (advised s)
      advises n = (Memᴰ.head refl, n, first-before s l o.0)

      leaves : IsSpent (answer_of s) → Told (s ∷ l) (undecided s)
      leaves n = (Memᴰ.head refl, n, first-before s l o.0)

      go : (a : Answer) → answer_of s ≡ a → Told l (first_unfound answer_of l) → Told (s ∷ l) (decided_by a s (first_unfound answer_of l))
      go (found p v) e d = later s l (first_unfound answer_of l) (subst IsFound (sym e) tt) d
      go (none_left v) e d = advises (subst IsNoneLeft (sym e) tt)
      go (spent p v) e d = leaves (subst IsSpent (sym e) tt)

-- A table with a memory event.
module _ (t : Table) (b : ℕ) (m : some t.count (memory t) ≡ true) where
  -- found: allowed
  found-allows : (s : List ℕ) → IsFound (search_with t b s) → AllowedWith t s
  unfolding search_with search search_by witness
  found-allows s h = found-says (witness (with_fences t s)) (after [] (prefixes_by (with_fences t s) (clean (with_fences t s)))) [] b h

  -- none left: forbidden
  none-forbids : (s : List ℕ) → IsNoneLeft (search_with t b s) → ForbiddenWith t s
  unfolding search_with search search_by witness with_fences
  none-forbids s h gmo = is_false (witness u gmo) (λ e. true≢false (sym e ∙ none-says (witness u) (after [] l) [] b h gmo
      (subst (λ (k : List (List ℕ)). gmo ∈ k) (sym (after-above [] l (passing-nonempty u (clean u))))
      ((passing-listed u (clean u) (clean-closed u) (λ p c. c) gmo).1
      (witness-nonempty u (stated_outcome u) gmo (memory-stays t s ∙ m) e, witness-clean u (stated_outcome u) gmo e)))))
    where
      u : Table
      u = with_fences t s

      l : List (List ℕ)
      l = prefixes_by u (clean u)

  fences-rise : Rising (clear_fences t)
  unfolding clear_fences
  fences-rise = rising-keep (clear_fence t) t.count

  abbrev tried : List (List ℕ)
  tried = by_size (clear_fences t)

  right : SetsRight (clear_fences t)
  right = sets-right (clear_fences t) fences-rise

  decides : (s : List ℕ) → s ∈ tried → FoundBefore (search_with t b) tried s → Decides t s
  decides s i f = record {
    fences = (right.exactly s).0 i;
    allowed-before = λ q h e. found-allows q (f q ((right.exactly q).1 h) e);
  }

  told-right : (a : Advice) → Told (search_with t b) tried a → AdviceRight t b a
  told-right (advised s) d = (decides s d.0 d.2, none-forbids s d.1)
  told-right (undecided s) d = (decides s d.0 d.2, d.1)
  told-right fences_dont_help d =
      (each (clear_fences t) (fences-rise, has_all (λ x. has x (clear_fences t)) (clear_fences t) (λ x i. i)), each)
    where
      each : (q : List ℕ) → IsSet (clear_fences t) q → AllowedWith t q
      each q h = found-allows q (d q ((right.exactly q).1 h))

  pub advice-right : AdviceRight t b (advice t b)
  unfolding advice
  advice-right = told-right (first_unfound (search_with t b) tried) (first-told (search_with t b) tried right.in_order)
