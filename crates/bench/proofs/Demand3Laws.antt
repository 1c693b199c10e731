-- Demand 3, of whatever is searched and any list of search calls.
use Prim.Native.Nat.{ℕ, ◌≤◌}
use mathlib.Core.Path.{◌≡◌, refl, sym, ap, ◌∙◌, subst}
use mathlib.Core.Bool.{Bool, true, false, not, true≢false}
use mathlib.Core.List.Memᴰ
use mathlib.Core.List.{List, [], ◌∷◌}
use mathlib.Core.Logic.{◌↔◌}
use borrow.Author.Tests.{not-true}
use Rattle.lists.specs.Lists.{◌∈◌, keep}
use Rattle.lists.specs.Reply.{Reply, answered}
use Rattle.lists.specs.Ascending.{less, Ascending}
use Rattle.lists.proofs.MemberLaws.{keep-only, keep-each}
use Rattle.refusals.specs.Lines.{Refused, accepted, by_line, by_record, by_place, reply_unless}
use Rattle.refusals.proofs.LineLaws.{line-refuses, record-refuses, place-refuses}
use Rattle.prefixes.specs.Listed.{after}
use Rattle.prefixes.specs.Answer.{Answer}
use Rattle.prefixes.specs.Walk.{start_after, reached, handed, finished}
use Rattle.prefixes.specs.Statements.{Walked}
use Rattle.prefixes.proofs.AnswerLaws.{larger-allowance}
use Rattle.prefixes.proofs.WalkLaws.{walked}
use Rattle.prefixes.proofs.AlikeLaws.{Alike, reached-alike, handed-alike, visited-alike, finished-alike}
use Rattle.model.specs.Witness.{witness_for}
use Rattle.model.specs.Prefixes.{prefixes_by, search_by}
use Rattle.bench.specs.Search.{Searched, refusal_to, reply_to}
use Rattle.bench.specs.Demands.{is_witness, prefixes, Call, Walk, refusal_in, FinalReply, Demand3}
use Rattle.bench.proofs.ReplyLaws.{Sound, replied, listed-are, listed-ascending, listed-nonempty, honest, declined, witness-is-listed}

-- a list of exactly the entries that pass is empty exactly where none passes
pub empty-where-none : {A : Type 0} (passes : A → Bool) (l : List A) → ((x : A) → x ∈ l → passes x ≡ true) →
    ((x : A) → passes x ≡ true → x ∈ l) → (l ≡ []) ↔ ((x : A) → passes x ≡ false)
empty-where-none {A = A} passes l only each = (
  λ e x. none x (passes x) (λ k. subst (λ (l : List A). x ∈ l) e (each x k)),
  λ f. without l (λ x m. true≢false (sym (only x m) ∙ f x)),
)
  where
    none : (x : A) (b : Bool) → (b ≡ true → x ∈ []) → b ≡ false
    none x true m = absurd (Memᴰ.not-nil (m refl))
    none x false m = refl

    without : (l : List A) → ((x : A) → x ∈ l → ⊥) → l ≡ []
    without [] h = refl
    without (x ∷ l) h = absurd (h x (Memᴰ.head refl))

-- what demand 3 says of the goal, the start reached, the orders handed out and whether the walk is finished
abbrev pub Holds : (goal : List ℕ → Bool) (reached : List ℕ) (orders : List (List ℕ)) (finished : Bool) → Type 0
Holds goal p orders done =
    ((gmo : List ℕ) → (gmo ∈ orders) ↔ ((goal gmo ≡ true) × (less p gmo ≡ false)))
    × Ascending orders
    × (done ≡ true → (gmo : List ℕ) → goal gmo ≡ true → gmo ∈ orders)
    × (done ≡ true → (orders ≡ []) ↔ ((gmo : List ℕ) → goal gmo ≡ false))

-- a walk along a list that has every goal
module _ {C : Type 0} (goal : List ℕ → Bool) (l : List (List ℕ)) (each : (p : List ℕ) → goal p ≡ true → p ∈ l)
    (reply : List ℕ → C → Reply Refused Answer) (cs : List C) (walk : Walked goal l reply cs) where
  abbrev end : List ℕ
  end = reached reply [] cs

  abbrev orders : List (List ℕ)
  orders = handed reply [] cs

  -- handed out are the goals that aren't greater than the start reached
  exact : (gmo : List ℕ) → (gmo ∈ orders) ↔ ((goal gmo ≡ true) × (less end gmo ≡ false))
  exact gmo = (only, all)
    where
      upto : List ℕ → Bool
      upto p = not (less end p)

      only : gmo ∈ orders → (goal gmo ≡ true) × (less end gmo ≡ false)
      only m =
          let r = keep-only goal (keep upto l) gmo (subst (λ (l : List (List ℕ)). gmo ∈ l) walk.exact m) in
          (r.1, not-true _ (keep-only upto l gmo r.0).1)

      all : (goal gmo ≡ true) × (less end gmo ≡ false) → gmo ∈ orders
      all h =
          subst (λ (l : List (List ℕ)). gmo ∈ l) (sym walk.exact)
          (keep-each goal (keep upto l) gmo (keep-each upto l gmo (each gmo h.0) (ap not h.1)) h.0)

  -- once none are left, every goal was handed out
  complete : finished reply [] cs ≡ true → (gmo : List ℕ) → goal gmo ≡ true → gmo ∈ orders
  complete h gmo k = go (less end gmo) refl
    where
      go : (b : Bool) → less end gmo ≡ b → gmo ∈ orders
      go true e =
          absurd (Memᴰ.not-nil (subst (λ (l : List (List ℕ)). gmo ∈ l) (walk.complete h)
          (keep-each goal (after end l) gmo (keep-each (less end) l gmo (each gmo k) e) k)))
      go false e = (exact gmo).1 (k, e)

  -- by whatever replies alike
  pub holds : (by : List ℕ → C → Reply Refused Answer) → Alike by reply [] cs →
      Holds goal (reached by [] cs) (handed by [] cs) (finished by [] cs)
  holds by a =
      rw (reached-alike by reply [] cs a, handed-alike by reply [] cs a, finished-alike by reply [] cs a)
      (exact, walk.ascending, complete, λ h. empty-where-none goal orders (λ gmo m. ((exact gmo).0 m).0) (complete h))

-- what the entry promised agrees with the definition's replies, call by call
alike : (q : Searched) (start : List ℕ) (cs : List Call) → Walk q start cs → Alike (λ p c. c.told) (replied q) start cs
alike q start [] w = tt
alike q start (c ∷ cs) w = (w.0.0, alike q (start_after start c.told) cs w.1)

-- from one start, with any two buffers, a larger allowance gives the same reply, if that is found or none left
larger : (q : Searched) (start out more : List ℕ) (b c : ℕ) → b ≤ c → FinalReply (reply_to q start out b)
    → refusal_in (reply_to q start more c) ≡ accepted → reply_to q start more c ≡ reply_to q start out b
unfolding reply_to search_by
larger q start out more b c h = go (refusal_to q start out b) (refusal_to q start more c)
  where
    a : ℕ → Answer
    a n = search_by q.table q.passes q.outcome start n

    go : (x y : Refused) → FinalReply (reply_unless x (a b)) → refusal_in (reply_unless y (a c)) ≡ accepted →
        reply_unless y (a c) ≡ reply_unless x (a b)
    go accepted accepted f n =
        ap answered (larger-allowance (witness_for q.table q.outcome) (after start (prefixes_by q.table q.passes)) start b c h f)
    go accepted (by_line k) f n = absurd (line-refuses k n)
    go accepted (by_record k i) f n = absurd (record-refuses k i n)
    go accepted (by_place k p) f n = absurd (place-refuses k p n)
    go (by_line k) r f n = absurd f
    go (by_record k i) r f n = absurd f
    go (by_place k p) r f n = absurd f

-- demand 3, of whatever is searched
pub demand3 : (q : Searched) → Sound q → (cs : List Call) → Walk q [] cs → Demand3 q cs
demand3 q sound cs w = record {
  exact = h.0;
  ascending = h.1;
  complete = h.2;
  counted = rw (visited-alike by (replied q) [] cs a, reached-alike by (replied q) [] cs a) walk.counted;
  forbidden = h.3;
  listed = listed-are q sound;
  in_order = listed-ascending q;
  declined = λ n start c p. p.0 ∙ declined q n start c;
  larger-allowance = λ start c d p r l f n.
      r.0
      ∙ larger q start c.buffer d.buffer c.allowance d.allowance l (subst FinalReply p.0 f) (sym (ap refusal_in r.0) ∙ n)
      ∙ sym p.0;
}
  where
    by : List ℕ → Call → Reply Refused Answer
    by p c = c.told

    a : Alike by (replied q) [] cs
    a = alike q [] cs w

    walk : Walked (is_witness q) (prefixes q) (replied q) cs
    walk = walked (is_witness q) (prefixes q) (replied q) (listed-nonempty q) (listed-ascending q) (honest q) cs

    h : Holds (is_witness q) (reached by [] cs) (handed by [] cs) (finished by [] cs)
    h = holds (is_witness q) (prefixes q) (witness-is-listed q sound) (replied q) cs walk by a
