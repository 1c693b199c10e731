-- Orders told entry by entry, each by those before it: clean, lawful, what each reader returns, witness.
use Prim.Native.Nat.{ℕ, ◌<◌}
use mathlib.Core.Path.{◌≡◌, refl, sym, ap, ap₂, ◌∙◌, fun_ext}
use mathlib.Core.Bool.{Bool, true, false, cond, not, ◌&&◌, ◌||◌, and_assoc}
use mathlib.Core.List.{List, [], ◌∷◌, ◌++◌}
use lib.ListN.{length, get_or, take}
use lib.Dec.{eqb, ltb}
use borrow.Author.Tests.{ltb-true, not-true}
use Rattle.lists.specs.Below.{every}
use Rattle.lists.specs.Lists.{all, has, distinct}
use Rattle.lists.proofs.BoolLaws.{and_l, and_r, bool-ext, not-both, not-either, is_false}
use Rattle.lists.proofs.SomeLaws.{some-none, none-at, every-same, every-both}
use Rattle.lists.proofs.ListLaws.{all-has, all_get_d}
use Rattle.lists.proofs.MemberLaws.{has_all}
use Rattle.lists.proofs.TakeLaws.{all-every}
use Rattle.lists.proofs.BeforeLaws.{before-taken}
use Rattle.lists.proofs.LastLaws.{last-append}
use Rattle.lists.proofs.LatestLaws.{last_taken}
use Rattle.table.specs.declared.Table.{Table}
use Rattle.table.specs.Events.{event, location, reads, writes, same_location}
use Rattle.table.specs.Counts.{Small}
use Rattle.model.specs.Rules.{initially, from}
use Rattle.model.specs.Returns.{return_of, returns, written_value, last_write, final_value}
use Rattle.model.specs.Axioms.{breaks_value_read, values_read, final_values}
use Rattle.model.specs.Witness.{is_memory_event, is_order, lawful, witness_for, stated_outcome, witness}
use Rattle.model.specs.Prefixes.{is_prefix, predecessors_listed, clean}
use Rattle.model.proofs.VerdictLaws.{returns-at}
use Rattle.placing.specs.Guards.{within, ready, forwarder, may_place, value_now, reads_stated}
use Rattle.placing.specs.GoodTable.{GoodTable}
use Rattle.placing.specs.Entries.{ahead, among, ready_at, lawful_at, stated_at}
use Rattle.placing.proofs.KeptLaws.{Kept, event-initial, counted, reader-in, clean-kept}
use Rattle.placing.proofs.SourceLaws.{return-is}
use Rattle.placing.proofs.ReturnedLaws.{lawful-left}
use Rattle.placing.proofs.PlacingLaws.{returned-placed}

-- before entry i stand the first i
pub ahead-among : (gmo : List ℕ) (i : ℕ) → distinct gmo ≡ true → i < length gmo → ahead gmo (get_or gmo i 0) ≡ among gmo i
ahead-among gmo i d l = fun_ext (λ a. before-taken gmo i a d l)

-- what is asked of every entry, by those ahead of it, is asked at every place, by those before the place
pub by_place : (gmo : List ℕ) (f : (ℕ → Bool) → ℕ → Bool) → distinct gmo ≡ true →
    all (λ e. f (ahead gmo e) e) gmo ≡ every (length gmo) (λ i. f (among gmo i) (get_or gmo i 0))
by_place gmo f d =
    all-every (λ e. f (ahead gmo e) e) gmo
    ∙ every-same (length gmo) _ _ (λ i l. ap (λ (g : ℕ → Bool). f g (get_or gmo i 0)) (ahead-among gmo i d l))

-- A prefix is clean exactly if at each entry no steady predecessor is missing.
pub clean-entries : (t : Table) (p : List ℕ) → clean t p ≡ (is_prefix t p && every (length p) (ready_at t p))
unfolding clean is_prefix predecessors_listed ready_at ready within
clean-entries t p = go (is_prefix t p) refl
  where
    go : (b : Bool) → is_prefix t p ≡ b → (b && all (predecessors_listed t p) p) ≡ (b && every (length p) (ready_at t p))
    go true h = by_place p (ready t) (and_r (all (is_memory_event t) p) _ h)
    go false h = refl

-- the value that one of two writes leaves
pub written_either : (t : Table) (x w v : ℕ) (b : Bool) → (b ≡ true → eqb w initially ≡ false) →
    written_value t x (cond b w v) ≡ cond b (event t w).written (written_value t x v)
unfolding written_value
written_either t x w v true h = rw (h refl)
written_either t x w v false h = refl

-- What is at location x once e is placed too: what e writes there, else what was there.
pub value-more : (t : Table) → Small t → (p : List ℕ) (e x : ℕ) → e < t.count →
    final_value t (p ++ (e ∷ [])) x ≡ cond (writes t e && eqb (location t e) x) (event t e).written (final_value t p x)
unfolding final_value
value-more t small p e x l =
    ap (written_value t x) (last-append (λ w. writes t w && eqb (location t w) x) initially p (e ∷ []))
    ∙ written_either t x e (last_write t p x) (writes t e && eqb (location t e) x) (λ h. event-initial t small e l)

module _ {t : Table} {gmo : List ℕ} (k : Kept t gmo) where
  -- Entry i.
  module _ (i : ℕ) (l : i < length gmo) where
    abbrev e : ℕ
    e = get_or gmo i 0

    abbrev f : ℕ
    f = forwarder t (among gmo i) e

    -- what it returns from: its forwarder, else the last write before it
    pub entry-returns : return_of t gmo e ≡ cond (ltb f t.count) f (last_write t (take i gmo) (location t e))
    unfolding same_location
    entry-returns =
        return-is k e
        ∙ ap₂ (λ (g : ℕ → Bool) (v : ℕ). cond (ltb (forwarder t g e) t.count) (forwarder t g e) v)
        (ahead-among gmo i k.different l) (last_taken (λ u. writes t u && same_location t u e) initially gmo i k.different l)

    -- the value of that write
    pub entry_value : written_value t (location t e) (return_of t gmo e) ≡ value_now t (among gmo i) (final_value t (take i gmo)) e
    unfolding value_now final_value
    entry_value =
        ap (written_value t (location t e)) entry-returns
        ∙ written_either t (location t e) f (last_write t (take i gmo) (location t e)) (ltb f t.count)
        (λ h. event-initial t k.table.small f (ltb-true f t.count h))

    pub entry_in : has e gmo ≡ true
    entry_in = all_get_d (λ x. has x gmo) gmo i (has_all (λ x. has x gmo) gmo (λ x h. h)) l

    -- it is the stated one exactly if the order says so
    entry-stated : not (breaks_value_read t (returns t gmo) e) ≡ stated_at t gmo i
    unfolding breaks_value_read stated_at reads_stated
    entry-stated = sym (not-both (reads t e) _) ∙ go (reads t e) refl
      where
        go : (b : Bool) → reads t e ≡ b →
            (not b || eqb (written_value t (location t e) (from (returns t gmo) e)) (event t e).read)
            ≡ (not b || eqb (value_now t (among gmo i) (final_value t (take i gmo)) e) (event t e).read)
        go true h =
            ap (λ (v : ℕ). eqb v (event t e).read)
            (ap (written_value t (location t e)) (returns-at t gmo e (counted k e entry_in) h) ∙ entry_value)
        go false h = refl

  -- every reader is an entry
  readers-listed : values_read t (returns t gmo) ≡ all (λ e. not (breaks_value_read t (returns t gmo) e)) gmo
  unfolding values_read breaks_value_read
  readers-listed =
      bool-ext _ (all right gmo)
      (λ h. has_all right gmo (λ e i. ap not (none-at t.count wrong e (not-true _ h) (counted k e i))))
      (λ h. ap not (some-none t.count wrong (λ r l. is_false _ (λ b.
      not-either _ b (not-true _ (all-has right gmo r h (reader-in k r l (and_l (reads t r) _ b))))))))
    where
      wrong : ℕ → Bool
      wrong = breaks_value_read t (returns t gmo)

      right : ℕ → Bool
      right e = not (wrong e)

  -- Each reader returns its stated value exactly if it does at its place.
  pub stated-entries : values_read t (returns t gmo) ≡ every (length gmo) (stated_at t gmo)
  stated-entries =
      readers-listed ∙ all-every (λ e. not (breaks_value_read t (returns t gmo) e)) gmo
      ∙ every-same (length gmo) (λ i. not (breaks_value_read t (returns t gmo) (get_or gmo i 0))) (stated_at t gmo) entry-stated

-- Of a clean order of a good table.
module _ (t : Table) (gmo : List ℕ) (good : GoodTable t) (o : is_order t gmo ≡ true) (c : clean t gmo ≡ true) where
  kept : Kept t gmo
  kept = clean-kept good o c

  -- It is lawful exactly if each entry may be placed behind those before it.
  pub lawful-placed : lawful t gmo ≡ all (λ e. may_place t (ahead gmo e) e) gmo
  lawful-placed = lawful-left t gmo o c ∙ returned-placed kept

  pub lawful-entries : lawful t gmo ≡ every (length gmo) (lawful_at t gmo)
  unfolding lawful_at
  lawful-entries = lawful-placed ∙ by_place gmo (may_place t) kept.different

  -- It is a witness exactly if besides that each reader returns its stated value, and the stated final values are left.
  pub witness-entries : witness t gmo ≡ (every (length gmo) (λ i. lawful_at t gmo i && stated_at t gmo i) && final_values t gmo)
  unfolding witness witness_for stated_outcome
  witness-entries =
      rw (lawful-entries, stated-entries kept, every-both (length gmo) (lawful_at t gmo) (stated_at t gmo))
      (sym (and_assoc (every (length gmo) (lawful_at t gmo)) _ (final_values t gmo)))
