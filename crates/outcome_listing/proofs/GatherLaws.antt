-- What a walk from one lawful order to the next has gathered, and what its end says.
use Prim.Native.Nat.{ℕ, ◌+◌, ◌≤◌, ◌<◌}
use native.Mathlib.Omega.{arith}
use mathlib.Core.Path.{◌≡◌, refl, sym, ap, ◌∙◌, subst, fun_ext}
use mathlib.Core.Bool.{Bool, true, false, cond}
use mathlib.Core.List.Memᴰ
use mathlib.Core.List.{List, [], ◌∷◌, ◌++◌, map, append-nil}
use lib.ListN.{length, take}
use lib.Seq.{take-nil}
use Rattle.lists.specs.Lists.{◌∈◌, keep}
use Rattle.lists.proofs.MemberLaws.{keep-only}
use Rattle.lists.specs.Ascending.{less, Ascending}
use Rattle.lists.proofs.AscendingLaws.{ascending-keep, after-above}
use Rattle.sorted_rows.specs.Sorted.{insert, sorted}
use Rattle.sorted_rows.proofs.SortedLaws.{sorted-ascending, ascending-take, sorted_more, kept_same, kept_more}
use Rattle.table.specs.declared.Table.{Table}
use Rattle.prefixes.specs.Listed.{after}
use Rattle.prefixes.specs.Answer.{Answer, found, none_left, spent}
use Rattle.prefixes.specs.Statements.{seek}
use Rattle.prefixes.proofs.AnswerLaws.{Counts, seek-counts}
use Rattle.prefixes.proofs.WalkLaws.{Moved, stay, move-on, Says, seek-says}
use Rattle.model.specs.Witness.{lawful, witness_for}
use Rattle.model.specs.Prefixes.{clean_prefixes, prefixes_by, clean}
use Rattle.model.proofs.PrefixLaws.{clean-ascending, passing-nonempty}
use Rattle.condition_test.specs.Wanted.{any_order}
use Rattle.outcomes.specs.Outcomes.{outcome_of, outcomes}
use Rattle.outcomes.proofs.OutcomeLaws.{lawful-any, outcomes-met}

map_snoc : {A B : Type 0} (f : A → B) (l : List A) (x : A) → map f (l ++ (x ∷ [])) ≡ map f l ++ (f x ∷ [])
map_snoc f [] x = refl
map_snoc {B = B} f (y ∷ l) x = ap (λ (m : List B). f y ∷ m) (map_snoc f l x)

module _ (t : Table) (previous : List ℕ) (room : ℕ) where
  abbrev goal : List ℕ → Bool
  goal = witness_for t any_order

  abbrev l : List (List ℕ)
  l = clean_prefixes t

  -- the rows that are to be kept of what these orders give
  abbrev pub kept_of : List (List ℕ) → List (List ℕ)
  kept_of orders = take room (after previous (sorted (map (outcome_of t) orders)))

  -- one order more
  kept-order : (orders : List (List ℕ)) (gmo : List ℕ) →
      kept_of (orders ++ (gmo ∷ []))
      ≡ cond (less previous (outcome_of t gmo)) (take room (insert (outcome_of t gmo) (kept_of orders))) (kept_of orders)
  kept-order orders gmo =
      ap (λ (m : List (List ℕ)). take room (after previous (sorted m))) (map_snoc (outcome_of t) orders gmo)
      ∙ ap (λ (m : List (List ℕ)). take room (after previous m)) (sorted_more (map (outcome_of t) orders) (outcome_of t gmo))
      ∙ go (less previous (outcome_of t gmo)) refl
    where
      o : List ℕ
      o = outcome_of t gmo

      m : List (List ℕ)
      m = sorted (map (outcome_of t) orders)

      go : (b : Bool) → less previous o ≡ b →
          take room (after previous (insert o m)) ≡ cond b (take room (insert o (take room (after previous m)))) (take room (after previous m))
      go true e = kept_more previous o room m (sorted-ascending (map (outcome_of t) orders)) e
      go false e = ap (take room) (kept_same previous o m e)

  -- The walk stands at the prefix p, v were visited, and the rows are those kept of the lawful orders that it met.
  pub record Gathering (p : List ℕ) (v : ℕ) (kept : List (List ℕ)) : Type 0 where
    pub met : List (List ℕ)
    pub moved : Moved goal l [] 0 met p v
    pub held : kept ≡ kept_of met

  pub gather-start : Gathering [] 0 []
  unfolding sorted
  gather-start = record { met = []; moved = stay goal l; held = sym (take-nil {A = List ℕ} room) }

  -- the rows ascend
  pub gathered-ascend : {p : List ℕ} {v : ℕ} {kept : List (List ℕ)} → Gathering p v kept → Ascending kept
  gathered-ascend g =
      let all_of = sorted (map (outcome_of t) g.met) in
      subst Ascending (sym g.held) (ascending-take room (after previous all_of)
      (ascending-keep (less previous) all_of (sorted-ascending (map (outcome_of t) g.met))))

  start-all : after [] l ≡ l
  unfolding clean_prefixes
  start-all = after-above [] (prefixes_by t (clean t)) (passing-nonempty t (clean t))

  keep-lawful : keep goal l ≡ keep (lawful t) l
  keep-lawful = ap (λ (f : List ℕ → Bool). keep f l) (fun_ext (lawful-any t))

  module _ {p : List ℕ} {v : ℕ} {kept : List (List ℕ)} (g : Gathering p v kept) (left : ℕ) where
    abbrev next : Answer
    next = seek goal (after p l) p left 0

    says : (a : Answer) → next ≡ a → Says goal l p 0 a
    says a e = subst (Says goal l p 0) e (seek-says goal l (clean-ascending t) (after p l) p left 0 refl)

    counts : (a : Answer) → next ≡ a → Counts goal (after p l) left 0 a
    counts a e = subst (Counts goal (after p l) left 0) e (seek-counts goal (after p l) p left 0)

    -- all together
    whole : v + length (after p l) ≡ length l
    whole = omega (arith, g.moved.count, ap length start-all)

    -- the next lawful order
    pub gather-found : (q : List ℕ) (n : ℕ) → next ≡ found q n → (after· : List (List ℕ)) →
        after· ≡ cond (less previous (outcome_of t q)) (take room (insert (outcome_of t q) kept)) kept → Gathering q (v + n) after·
    gather-found q n e after· h = record {
      met = g.met ++ (q ∷ []);
      moved = move-on goal l g.moved (says (found q n) e) (v + n) (omega arith);
      held =
          h ∙ ap (λ (k : List (List ℕ)). cond (less previous (outcome_of t q)) (take room (insert (outcome_of t q) k)) k) g.held
          ∙ sym (kept-order g.met q);
    }

    -- it is lawful, and so a clean order
    pub found-lawful : (q : List ℕ) (n : ℕ) → next ≡ found q n → witness_for t any_order q ≡ true
    found-lawful q n e =
        (keep-only goal (after p l) q
        (subst (λ (m : List (List ℕ)). q ∈ m) (says (found q n) e).witnesses (Memᴰ.head refl))).1

    -- its number is at least 1 and within what is left
    pub found-counts : (q : List ℕ) (n : ℕ) → next ≡ found q n → (0 < n) × (n ≤ left)
    found-counts q n e = let c = counts (found q n) e in (c.0, omega (arith, c.1))

    -- there is no other
    pub gather-end : (n : ℕ) → next ≡ none_left n → (length l ≤ v + left) × (kept ≡ take room (after previous (outcomes t)))
    gather-end n e = (
      omega (arith, whole, counts (none_left n) e),
      g.held ∙ ap (λ (m : List (List ℕ)). take room (after previous (sorted (map (outcome_of t) m)))) all-met
          ∙ ap (λ (m : List (List ℕ)). take room (after previous m)) (sym (outcomes-met t)),
    )
      where
        all-met : g.met ≡ keep (lawful t) l
        all-met =
            sym (append-nil g.met) ∙ ap (λ (m : List (List ℕ)). g.met ++ m) (sym (says (none_left n) e)) ∙ g.moved.witnesses
            ∙ ap (keep goal) start-all ∙ keep-lawful

    -- there are more prefixes
    pub gather-over : (q : List ℕ) (n : ℕ) → next ≡ spent q n → v + left < length l
    gather-over q n e = omega (arith, whole, counts (spent q n) e)
