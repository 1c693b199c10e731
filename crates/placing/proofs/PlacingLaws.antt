-- Of an order that keeps rules 1, 9 and 10: the rules that look at what was returned and atomicity hold exactly if each entry may
-- be placed behind those before it.
use Prim.Native.Nat.{ℕ, ◌<◌}
use mathlib.Core.Path.{◌≡◌, refl, sym, ap, ◌∙◌}
use mathlib.Core.Bool.{Bool, true, false, not, ◌&&◌, ◌||◌, or-true, or_assoc}
use mathlib.Core.List.{List}
use mathlib.Core.Logic.{⊎_elim}
use lib.Dec.{eqb}
use borrow.Author.Tests.{not-true, not-false}
use Rattle.lists.specs.Below.{some}
use Rattle.lists.specs.Lists.{all, has, before}
use Rattle.lists.proofs.BoolLaws.{and_l, and_r, and_both, bool-ext, or_cases, not-either, is_false, or-implied, implied}
use Rattle.lists.proofs.SomeLaws.{some-none, none-at}
use Rattle.lists.proofs.ListLaws.{all-has}
use Rattle.lists.proofs.MemberLaws.{has_all}
use Rattle.table.specs.declared.Table.{Table}
use Rattle.table.specs.Events.{hart, reads, writes, same_location}
use Rattle.model.specs.Rules.{rule2, rule3, rule12, may_order}
use Rattle.model.specs.Returns.{returns}
use Rattle.model.specs.Axioms.{breaks_pair, breaks_atomicity, atomicity}
use Rattle.placing.specs.Guards.{may_read, open_read, intruding, may_write, may_place}
use Rattle.placing.specs.ReturnedRules.{returned_ppo, breaks_returned}
use Rattle.placing.specs.Entries.{ahead}
use Rattle.placing.proofs.KeptLaws.{Kept, counted, reader-in}
use Rattle.placing.proofs.ReadLaws.{late-kept, read_kept}
use Rattle.placing.proofs.WindowLaws.{Foreign, Closed, pairs-kept, pairs-closed}
use Rattle.placing.proofs.RereadLaws.{SecondKept, reads-closed, second-kept}

-- rules 3 and 12 order readers only
pub late-reads : (t : Table) (rf : List ℕ) (a b : ℕ) → (rule3 t rf a b || rule12 t rf a b) ≡ true → reads t b ≡ true
unfolding rule3 rule12
late-reads t rf a b h =
    ⊎_elim (λ (q : rule3 t rf a b ≡ true). search (and_l, and_r)) (λ (q : rule12 t rf a b ≡ true). and_l (reads t b) _ q)
    (or_cases (rule3 t rf a b) (rule12 t rf a b) h)

module _ {t : Table} {gmo : List ℕ} (k : Kept t gmo) where
  abbrev rf : List ℕ
  rf = returns t gmo

  -- the rules that look at what was returned keep the order
  abbrev rules_kept : Bool
  rules_kept = not (some t.count (λ a. some t.count (breaks_returned t rf gmo a)))

  -- each entry may be placed behind those before it
  abbrev all_placed : Bool
  all_placed = all (λ e. may_place t (ahead gmo e) e) gmo

  -- Where the rules and atomicity hold:
  module _ (kept : rules_kept ≡ true) (atomic : atomicity t rf gmo ≡ true) where
    three-kept : (a b : ℕ) → a < t.count → b < t.count → may_order t a b ≡ true →
        (rule2 t rf a b || rule3 t rf a b || rule12 t rf a b) ≡ true → before gmo a b ≡ true
    unfolding breaks_returned returned_ppo
    three-kept a b i j m h =
        let none = none-at t.count (λ a. some t.count (breaks_returned t rf gmo a)) a (not-true _ kept) i in
        not-false _ (rw (m, h) at (none-at t.count (breaks_returned t rf gmo a) b none j))

    second : SecondKept k
    second a b i j m h = three-kept a b i j m (rw h refl)

    late : (r : ℕ) → r < t.count → (a : ℕ) → a < t.count → may_order t a r ≡ true →
        (rule3 t rf a r || rule12 t rf a r) ≡ true → before gmo a r ≡ true
    late r l a i m h =
        three-kept a r i l m (rw (or_assoc (rule2 t rf a r) (rule3 t rf a r) (rule12 t rf a r), h) (or-true (rule2 t rf a r)))

    pairs : (l s : ℕ) → l < t.count → s < t.count → breaks_pair t rf gmo l s ≡ false
    unfolding atomicity breaks_atomicity
    pairs l s i j = none-at t.count (breaks_pair t rf gmo l) s (none-at t.count _ l (not-true _ atomic) i) j

    writer-placed : (w : ℕ) → has w gmo ≡ true → writes t w ≡ true → may_write t (ahead gmo w) w ≡ true
    unfolding may_write intruding
    writer-placed w i h = ap not (some-none t.count _ (λ r l. is_false _ (λ q.
        let f : Foreign t gmo w r =
        record { listed = i; writer = h; here = search (and_l, and_r); other = not-true _ (search (and_l, and_r)) } in
        ⊎_elim (λ o. not-either _ o (reads-closed k second w r f l)) (λ o. not-either _ o (pairs-closed k pairs w r f l))
        (or_cases (open_read t (ahead gmo w) r) _ (and_r (same_location t w r && not (eqb (hart t w) (hart t r))) _ q)))))

    entry-placed : (e : ℕ) → has e gmo ≡ true → may_place t (ahead gmo e) e ≡ true
    unfolding may_place
    entry-placed e i =
        and_both (not (reads t e) || may_read t (ahead gmo e) e) _
        (or-implied (reads t e) _ (λ r. read_kept k e (counted k e i) r (late e (counted k e i))))
        (or-implied (writes t e) _ (writer-placed e i))

  -- And back.
  module _ (placed : all_placed ≡ true) where
    entry : (e : ℕ) → has e gmo ≡ true → may_place t (ahead gmo e) e ≡ true
    entry e i = all-has (λ e. may_place t (ahead gmo e) e) gmo e placed i

    closed : Closed k
    unfolding may_place
    closed w i h = implied (writes t w) _ (and_r (not (reads t w) || may_read t (ahead gmo w) w) _ (entry w i)) h

    may-read : (r : ℕ) → r < t.count → reads t r ≡ true → may_read t (ahead gmo r) r ≡ true
    unfolding may_place
    may-read r l h =
        implied (reads t r) _ (and_l (not (reads t r) || may_read t (ahead gmo r) r) _ (entry r (reader-in k r l h))) h

    late-back : (a b : ℕ) → a < t.count → b < t.count → (rule3 t rf a b || rule12 t rf a b) ≡ true → before gmo a b ≡ true
    late-back a b i j h = let r = late-reads t rf a b h in late-kept k b j r (may-read b j r) a i h

    none-broken : (a b : ℕ) → a < t.count → b < t.count → breaks_returned t rf gmo a b ≡ false
    unfolding breaks_returned returned_ppo
    none-broken a b i j = is_false _ (λ q.
        let m : may_order t a b ≡ true = search (and_l, and_r) in
        let h = and_r (may_order t a b) _ (and_l _ (not (before gmo a b)) q) in
        not-either (before gmo a b)
        (⊎_elim (second-kept k closed may-read a b i j m) (late-back a b i j)
        (or_cases (rule2 t rf a b) _ (sym (or_assoc (rule2 t rf a b) _ _) ∙ h)))
        (not-true _ (and_r (returned_ppo t rf a b) _ q)))

    rules-kept : rules_kept ≡ true
    rules-kept = ap not (some-none t.count _ (λ a i. some-none t.count _ (λ b j. none-broken a b i j)))

    atomic-kept : atomicity t rf gmo ≡ true
    unfolding atomicity breaks_atomicity
    atomic-kept = ap not (some-none t.count _ (λ l i. some-none t.count _ (λ s j. pairs-kept k closed l s i j)))

  pub returned-placed :
      (not (some t.count (λ a. some t.count (breaks_returned t (returns t gmo) gmo a))) && atomicity t (returns t gmo) gmo)
      ≡ all (λ e. may_place t (ahead gmo e) e) gmo
  returned-placed =
      bool-ext (rules_kept && atomicity t rf gmo) all_placed
      (λ h. has_all _ gmo (entry-placed (and_l rules_kept _ h) (and_r rules_kept _ h)))
      (λ h. and_both rules_kept _ (rules-kept h) (atomic-kept h))
