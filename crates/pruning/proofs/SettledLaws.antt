-- What is settled of a listed reader is what every clean order that begins with the prefix makes it return.
use Prim.Native.Nat.{ℕ, ◌<◌}
use native.Mathlib.Omega.{arith}
use mathlib.Core.Path.{◌≡◌, sym, ap, ap₂, ◌∙◌, fun_ext}
use mathlib.Core.Bool.{Bool, true, cond, not, ◌&&◌}
use mathlib.Core.List.{List, [], ◌∷◌, ◌++◌}
use mathlib.Core.Logic.{⊎_elim}
use lib.ListN.{length, get_or, take, length-append, get_or-append}
use lib.Seq.{take-append-le, take-append_seam, get_or-append_seam}
use lib.Dec.{eqb, ltb}
use borrow.Author.Tests.{eqb-true, eq-eqb, ltb-true, le-ltb}
use Rattle.lists.specs.Below.{below}
use Rattle.lists.specs.Lists.{has, distinct, last_or}
use Rattle.lists.proofs.ListLaws.{all-has}
use Rattle.lists.proofs.MemberLaws.{all_from}
use Rattle.lists.proofs.SomeLaws.{at_every}
use Rattle.lists.proofs.TakeLaws.{all-every}
use Rattle.lists.proofs.BoolLaws.{and_r, not-either}
use Rattle.lists.proofs.DistinctLaws.{distinct-left, distinct_apart, before-left}
use Rattle.lists.proofs.BeforeLaws.{before-has}
use Rattle.lists.proofs.LastLaws.{last-append, last-map}
use Rattle.lists.proofs.LatestLaws.{last-either, last_taken}
use Rattle.table.specs.declared.Table.{Table}
use Rattle.table.specs.Events.{location, writes, same_location, po}
use Rattle.table.specs.Counts.{Small}
use Rattle.model.specs.Rules.{initially}
use Rattle.model.specs.Returns.{return_of, written_value, last_write, final_value}
use Rattle.model.specs.Witness.{is_order}
use Rattle.model.specs.Prefixes.{clean}
use Rattle.model.specs.Settled.{unlisted_own, listed_writer, settled}
use Rattle.placing.specs.Guards.{own, forwarder, value_now}
use Rattle.placing.specs.GoodTable.{GoodTable}
use Rattle.placing.specs.Entries.{ahead, among}
use Rattle.placing.proofs.KeptLaws.{Kept, event-initial, clean-kept}
use Rattle.placing.proofs.EntryLaws.{ahead-among, written_either, entry-returns}

-- of the numbers below n the last that passes, with n in place of the default
last-or : (f : ℕ → Bool) (n d : ℕ) → last_or f d (below n) ≡ cond (ltb (last_or f n (below n)) n) (last_or f n (below n)) d
last-or f n d =
    ap (λ (x : ℕ). last_or f x (below n)) none
    ∙ last-map (λ x. ltb x n) (λ x. cond (ltb x n) x d) f n (below n) (all_from n 0 n (omega arith)) (λ x h. rw h)
  where
    none : d ≡ cond (ltb n n) n d
    none = rw (le-ltb n n (omega arith))

-- what e returns from, if it is placed behind p: its forwarder, else the last write of p
abbrev pub source : Table → List ℕ → ℕ → ℕ
source t p e =
    let f = forwarder t (λ a. has a p) e in
    cond (ltb f t.count) f (last_write t p (location t e))

-- Of entry i, by the entries before it.
module _ (t : Table) (p : List ℕ) (d : distinct p ≡ true) (i : ℕ) (l : i < length p) where
  abbrev e : ℕ
  e = get_or p i 0

  -- what it is settled to
  settled-entry : settled t p e ≡ source t (take i p) e
  unfolding settled unlisted_own listed_writer forwarder own same_location
  settled-entry =
      last-or (unlisted_own t p e) t.count (last_or (listed_writer t p e) initially p)
      ∙ ap₂ (λ (g : ℕ → Bool) (v : ℕ). cond (ltb (forwarder t g e) t.count) (forwarder t g e) v)
      (ahead-among p i d l) (last_taken (λ w. writes t w && same_location t w e) initially p i d l)

  -- the value of that write
  pub settled-value : Small t → written_value t (location t e) (settled t p e) ≡ value_now t (among p i) (final_value t (take i p)) e
  unfolding value_now final_value
  settled-value small =
      ap (written_value t (location t e)) settled-entry
      ∙ written_either t (location t e) f (last_write t (take i p) (location t e)) (ltb f t.count)
      (λ h. event-initial t small f (ltb-true f t.count h))
    where
      f : ℕ
      f = forwarder t (among p i) e

-- Behind a list with no entry twice.
module _ (t : Table) where
  -- an event placed last is settled by those before it
  pub settled-last : (p : List ℕ) (e : ℕ) → distinct (p ++ (e ∷ [])) ≡ true → settled t (p ++ (e ∷ [])) e ≡ source t p e
  settled-last p e d =
      let at = get_or-append_seam p e [] 0 in
      ap (settled t (p ++ (e ∷ []))) (sym at)
      ∙ settled-entry t (p ++ (e ∷ [])) d (length p) (omega (arith, length-append p (e ∷ [])))
      ∙ ap₂ (source t) (take-append_seam p (e ∷ [])) at

  -- what is settled stays settled
  pub settled-more : (p q : List ℕ) (r : ℕ) → distinct (p ++ q) ≡ true → has r p ≡ true → settled t (p ++ q) r ≡ settled t p r
  unfolding settled unlisted_own listed_writer
  settled-more p q r d h =
      ap₂ (λ (g : ℕ → Bool) (v : ℕ). last_or (λ w. writes t w && same_location t w r && po t w r && not (g w)) v (below t.count))
      same
      (ap (λ (g : ℕ → Bool). last_or (λ w. writes t w && same_location t w r && g w) initially (p ++ q)) same
      ∙ last-append (listed_writer t p r) initially p q ∙ none)
    where
      same : ahead (p ++ q) r ≡ ahead p r
      same = fun_ext (λ w. before-left p q w r (distinct_apart p q r d h))

      last : ℕ
      last = last_or (listed_writer t p r) initially p

      found : ℕ
      found = last_or (listed_writer t p r) last q

      none : found ≡ last
      none =
          ⊎_elim (λ (e : found ≡ last). e)
          (λ f. absurd (not-either _ f.0
          (distinct_apart p q found d (before-has p found r (and_r (writes t found && same_location t found r) _ f.1)).0)))
          (last-either (listed_writer t p r) last q)

-- In every clean order that begins with p the determined return of each listed reader is the settled one.
module _ {t : Table} (good : GoodTable t) (gmo p rest : List ℕ) (o : is_order t gmo ≡ true) (c : clean t gmo ≡ true)
    (begins : gmo ≡ p ++ rest) where
  kept : Kept t gmo
  kept = clean-kept good o c

  -- entry i
  same_at : (i : ℕ) → i < length p → return_of t gmo (get_or p i 0) ≡ settled t p (get_or p i 0)
  same_at i l =
      ap (return_of t gmo) (sym entry) ∙ entry-returns kept i long ∙ ap₂ (source t) ahead entry
      ∙ sym (settled-entry t p (distinct-left p rest (sym (ap distinct begins) ∙ kept.different)) i l)
    where
      entry : get_or gmo i 0 ≡ get_or p i 0
      entry = ap (λ (m : List ℕ). get_or m i 0) begins ∙ get_or-append p rest 0 i l

      ahead : take i gmo ≡ take i p
      ahead = ap (take i) begins ∙ take-append-le i p rest (omega arith)

      long : i < length gmo
      long = omega (arith, ap length begins, length-append p rest)

  pub settled-returns : (r : ℕ) → has r p ≡ true → return_of t gmo r ≡ settled t p r
  settled-returns r h =
      eqb-true _ _ (all-has same p r
      (all-every same p ∙ at_every (length p) (λ i. same (get_or p i 0)) (λ i l. eq-eqb _ _ (same_at i l))) h)
    where
      same : ℕ → Bool
      same e = eqb (return_of t gmo e) (settled t p e)
