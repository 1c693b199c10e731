-- A whole walk: what it has handed out, how many it has visited, and what it says once none are left.
use Prim.Native.Nat.{ℕ, zero, suc, ◌+◌}
use native.Mathlib.Omega.{arith}
use mathlib.Core.Path.{◌≡◌, refl, sym, ap, ◌∙◌, subst}
use mathlib.Core.Bool.{Bool, true, false, not, ◌||◌, false≢true}
use mathlib.Core.List.{List, [], ◌∷◌, ◌++◌, append_assoc, append-eq-nil_iff, append_cancel_right}
use mathlib.Core.Logic.{⊎_elim}
use lib.ListN.{length, length-append}
use Rattle.lists.specs.Reply.{Reply, refused, answered}
use Rattle.lists.specs.Lists.{keep}
use Rattle.lists.specs.Ascending.{less, AllAbove, Ascending}
use Rattle.lists.proofs.ListLaws.{keep_append}
use Rattle.lists.proofs.AscendingLaws.{ascending-keep, ascending-split, after-above, after_next}
use Rattle.prefixes.specs.Listed.{after}
use Rattle.prefixes.specs.Answer.{Answer, found, none_left, spent, pick, answer}
use Rattle.prefixes.specs.Walk.{start_after, handed_by, visited_by, said_none_left}
use Rattle.prefixes.specs.Walk.{reached, handed, visited, finished}
use Rattle.prefixes.specs.Statements.{seek, Honest, Walked}
use Rattle.prefixes.proofs.AnswerLaws.{seek-answer}

module _ (goal : List ℕ → Bool) (l : List (List ℕ)) where
  -- from the start s to the start p: the witnesses between them are w, and the count of those visited went from n to v
  pub record Moved (s : List ℕ) (n : ℕ) (w : List (List ℕ)) (p : List ℕ) (v : ℕ) : Type 0 where
    pub witnesses : w ++ keep goal (after p l) ≡ keep goal (after s l)
    pub count : v + length (after p l) ≡ n + length (after s l)

  -- to stay where one is
  pub stay : {s : List ℕ} {n : ℕ} → Moved s n [] s n
  stay = record { witnesses = refl; count = refl }

  -- two moves, one after the other; the second counts from k
  pub move-on : {s p q : List ℕ} {n v k t : ℕ} {w x : List (List ℕ)} → Moved s n w p v → Moved p k x q t →
      (u : ℕ) → u + k ≡ v + t → Moved s n (w ++ x) q u
  move-on {s} {p} {q} {w = w} {x = x} f g u e = record {
    witnesses =
        append_assoc w x (keep goal (after q l)) ∙ ap (λ (y : List (List ℕ)). w ++ y) g.witnesses ∙ f.witnesses;
    count = omega arith;
  }

  -- what an answer says of a call from the start s, where n were visited before
  abbrev pub Says : List ℕ → ℕ → Answer → Type 0
  Says s n (found p v) = Moved s n (p ∷ []) p v
  Says s n (none_left v) = keep goal (after s l) ≡ []
  Says s n (spent p v) = Moved s n [] p v

  -- an answer from p says the same from s, if p is next after s and no witness
  says-further : (s p : List ℕ) (n : ℕ) → Moved s n [] p (suc n) → (a : Answer) → Says p (suc n) a → Says s n a
  says-further s p n m (found q v) h = move-on m h v (omega arith)
  says-further s p n m (none_left v) h = sym m.witnesses ∙ h
  says-further s p n m (spent q v) h = move-on m h v (omega arith)

  -- what a reply does: a move, and none left only where no witness is greater than the start
  record Called {R : Type 0} (s : List ℕ) (r : Reply R Answer) : Type 0 where
    moved : Moved s 0 (handed_by r) (start_after s r) (visited_by r)
    ended : said_none_left r ≡ true → keep goal (after s l) ≡ []

  -- the reply that hands on an answer does what the answer says
  answered-called : {R : Type 0} (s : List ℕ) (a : Answer) → Says s 0 a → Called {R = R} s (answered a)
  answered-called s (found p v) h = record { moved = h; ended = λ e. absurd (false≢true e) }
  answered-called s (none_left v) h = record { moved = stay; ended = λ e. h }
  answered-called s (spent p v) h = record { moved = h; ended = λ e. absurd (false≢true e) }

  -- what the walk along the list says, from the start s on
  pub seek-says : Ascending l → (m : List (List ℕ)) (s : List ℕ) (b n : ℕ) → after s l ≡ m → Says s n (seek goal m s b n)
  unfolding seek
  seek-says a [] s b n e = ap (keep goal) e
  seek-says a (p ∷ m) s zero n e = stay
  seek-says a (p ∷ m) s (suc b) n e = go (goal p) refl (seek-says a m p b (suc n) next)
    where
      next : after p l ≡ m
      next = after_next s p l m a e

      further : suc n + length (after p l) ≡ n + length (after s l)
      further = rw (e, next) (omega arith)

      go : (g : Bool) → goal p ≡ g → Says p (suc n) (seek goal m p b (suc n)) →
          Says s n (pick g (found p (suc n)) (seek goal m p b (suc n)))
      go true d h = record { witnesses = rw (e, next, d); count = further }
      go false d h = says-further s p n (record { witnesses = rw (e, next, d); count = further }) (seek goal m p b (suc n)) h

  module _ {R C : Type 0} (reply : List ℕ → C → Reply R Answer) (asc : Ascending l) (honest : Honest goal l reply) where
    -- what each call does
    call : (s : List ℕ) (c : C) → Called s (reply s c)
    call s c = ⊎_elim declined said (honest s c)
      where
        declined : (r : R) × (reply s c ≡ refused r) → Called s (reply s c)
        declined t = rw t.1 (record { moved = stay; ended = λ e. absurd (false≢true e) })

        said : (b : ℕ) × (reply s c ≡ answered (answer goal (after s l) s b)) → Called s (reply s c)
        said t =
            rw (t.1, seek-answer goal (after s l) s t.0)
            (answered-called s (seek goal (after s l) s t.0 0) (seek-says asc (after s l) s t.0 0 refl))

    -- the calls together make one move
    walk-moved : (s : List ℕ) (cs : List C) → Moved s 0 (handed reply s cs) (reached reply s cs) (visited reply s cs)
    unfolding handed reached visited
    walk-moved s [] = stay
    walk-moved s (c ∷ cs) = move-on (call s c).moved (walk-moved (start_after s (reply s c)) cs) _ (omega arith)

    -- where no witness is greater than the start, none is handed out, and none is greater than the start reached
    walk-without : (s : List ℕ) (cs : List C) → keep goal (after s l) ≡ [] →
        (handed reply s cs ≡ []) × (keep goal (after (reached reply s cs) l) ≡ [])
    walk-without s cs h =
        (append-eq-nil_iff {p = handed reply s cs} {q = keep goal (after (reached reply s cs) l)}).0 ((walk-moved s cs).witnesses ∙ h)

    -- once a call has said none left, no witness is greater than the start reached
    walk-ended : (s : List ℕ) (cs : List C) → finished reply s cs ≡ true → keep goal (after (reached reply s cs) l) ≡ []
    unfolding finished reached
    walk-ended s [] h = absurd (false≢true h)
    walk-ended s (c ∷ cs) h = go (said_none_left (reply s c)) refl h (walk-ended (start_after s (reply s c)) cs)
      where
        next : List ℕ
        next = start_after s (reply s c)

        go : (b : Bool) → said_none_left (reply s c) ≡ b → (b || finished reply next cs) ≡ true →
            (finished reply next cs ≡ true → keep goal (after (reached reply next cs) l) ≡ []) →
            keep goal (after (reached reply next cs) l) ≡ []
        go true e h t = (walk-without s (c ∷ cs) ((call s c).ended e)).1
        go false e h t = t h

-- every walk from the empty start, over an ascending list of nonempty prefixes and honest replies
pub walked : {R C : Type 0} (goal : List ℕ → Bool) (l : List (List ℕ)) (reply : List ℕ → C → Reply R Answer) →
    AllAbove [] l → Ascending l → Honest goal l reply → (cs : List C) → Walked goal l reply cs
walked goal l reply nonempty asc honest cs = record {
  exact = exact;
  ascending = subst Ascending (sym exact) (ascending-keep goal upto (ascending-keep (λ p. not (less end p)) l asc));
  complete = ended;
  counted = omega (arith, moved.count, ap length start, ap length whole, length-append upto (after end l));
  forbidden = λ h k. sym (ap (keep goal) start) ∙ sym moved.witnesses ∙ rw (k, ended h);
  conversely = λ h. (walk-without goal l reply asc honest [] cs (ap (keep goal) start ∙ h)).0;
}
  where
    end : List ℕ
    end = reached reply [] cs

    upto : List (List ℕ)
    upto = keep (λ p. not (less end p)) l

    moved : Moved goal l [] 0 (handed reply [] cs) end (visited reply [] cs)
    moved = walk-moved goal l reply asc honest [] cs

    ended : finished reply [] cs ≡ true → keep goal (after end l) ≡ []
    ended = walk-ended goal l reply asc honest [] cs

    start : after [] l ≡ l
    start = after-above [] l nonempty

    whole : upto ++ after end l ≡ l
    whole = ascending-split end l asc

    exact : handed reply [] cs ≡ keep goal upto
    exact =
        append_cancel_right (handed reply [] cs) (keep goal upto) (keep goal (after end l))
        (moved.witnesses ∙ ap (keep goal) (start ∙ sym whole) ∙ keep_append goal upto (after end l))
