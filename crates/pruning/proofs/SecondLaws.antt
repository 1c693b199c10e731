-- The second list is what the request says; whole walks along both lists hand out the same witnesses.
use Prim.Native.Nat.{ℕ}
use mathlib.Core.Path.{◌≡◌, sym, ap, ◌∙◌}
use mathlib.Core.Bool.{Bool, true, not}
use mathlib.Core.List.{List, [], ◌++◌, append-nil}
use mathlib.Core.Logic.{◌↔◌, ◌≢◌}
use Rattle.lists.specs.Reply.{Reply}
use Rattle.lists.specs.Lists.{◌∈◌, keep}
use Rattle.lists.specs.Ascending.{less, AllAbove, Ascending}
use Rattle.lists.proofs.ListLaws.{keep_append}
use Rattle.lists.proofs.MemberLaws.{keep-only, keep-each}
use Rattle.lists.proofs.AscendingLaws.{ascending-keep, ascending-split, ascending-same}
use Rattle.table.specs.declared.Table.{Table}
use Rattle.prefixes.specs.Listed.{after}
use Rattle.prefixes.specs.Answer.{Answer}
use Rattle.prefixes.specs.Walk.{reached, handed, finished}
use Rattle.prefixes.specs.Statements.{Honest, Walked}
use Rattle.prefixes.proofs.WalkLaws.{walked}
use Rattle.model.specs.Witness.{witness}
use Rattle.model.specs.Prefixes.{clean, clean_prefixes}
use Rattle.model.specs.Settled.{unpruned, unpruned_prefixes}
use Rattle.model.proofs.PrefixLaws.{passing-listed, passing-ascending, passing-nonempty, clean-listed, clean-ascending}
use Rattle.placing.specs.GoodTable.{GoodTable}
use Rattle.pruning.specs.Statements.{SecondList, SameHandedOut}
use Rattle.pruning.proofs.UnprunedLaws.{unpruned-clean, unpruned-closed, unpruned-exactly, witness-unpruned}

module _ (t : Table) where
  -- listed are the nonempty prefixes that pass
  unpruned-listed : (p : List ℕ) → (p ∈ unpruned_prefixes t) ↔ ((p ≢ []) × (unpruned t p ≡ true))
  unfolding unpruned_prefixes
  unpruned-listed = passing-listed t (unpruned t) (unpruned-closed t) (unpruned-clean t)

  unpruned-ascending : Ascending (unpruned_prefixes t)
  unfolding unpruned_prefixes
  unpruned-ascending = passing-ascending t (unpruned t)

  -- each is one of the first list
  unpruned-first : (p : List ℕ) → p ∈ unpruned_prefixes t → p ∈ clean_prefixes t
  unpruned-first p m = let r = (unpruned-listed p).0 m in (clean-listed t p).1 (r.0, unpruned-clean t p r.1)

  part : unpruned_prefixes t ≡ keep (unpruned t) (clean_prefixes t)
  part =
      ascending-same (unpruned_prefixes t) (keep (unpruned t) (clean_prefixes t)) unpruned-ascending
      (ascending-keep (unpruned t) (clean_prefixes t) (clean-ascending t))
      (λ p m. keep-each (unpruned t) (clean_prefixes t) p (unpruned-first p m) ((unpruned-listed p).0 m).1)
      (λ p m. let r = keep-only (unpruned t) (clean_prefixes t) p m in (unpruned-listed p).1 (((clean-listed t p).0 r.0).0, r.1))

module _ {t : Table} (good : GoodTable t) where
  witnesses : keep (witness t) (unpruned_prefixes t) ≡ keep (witness t) (clean_prefixes t)
  unfolding witness
  witnesses =
      ascending-same (keep (witness t) second) (keep (witness t) first)
      (ascending-keep (witness t) second (unpruned-ascending t)) (ascending-keep (witness t) first (clean-ascending t))
      (λ p m. let r = keep-only (witness t) second p m in keep-each (witness t) first p (unpruned-first t p r.0) r.1)
      (λ p m. let r = keep-only (witness t) first p m in
      keep-each (witness t) second p
      ((unpruned-listed t p).1 (((clean-listed t p).0 r.0).0, witness-unpruned good p r.1)) r.1)
    where
      first : List (List ℕ)
      first = clean_prefixes t

      second : List (List ℕ)
      second = unpruned_prefixes t

  pub second-list : SecondList t
  second-list = record {
    exactly = λ p. (
      λ m. let r = (unpruned-listed t p).0 m in (r.0, (unpruned-exactly t p).0 r.1),
      λ h. (unpruned-listed t p).1 (h.0, (unpruned-exactly t p).1 h.1),
    );
    ascending = unpruned-ascending t;
    part = part t;
    witnesses = witnesses;
  }

-- a finished walk from the beginning has handed out every witness
walk-whole : {R C : Type 0} (goal : List ℕ → Bool) (l : List (List ℕ)) (reply : List ℕ → C → Reply R Answer) (cs : List C) →
    AllAbove [] l → Ascending l → Honest goal l reply → finished reply [] cs ≡ true → handed reply [] cs ≡ keep goal l
walk-whole goal l reply cs nonempty asc honest f =
    w.exact ∙ sym (append-nil (keep goal upto)) ∙ ap (λ (m : List (List ℕ)). keep goal upto ++ m) (sym (w.complete f))
    ∙ sym (keep_append goal upto (after end l)) ∙ ap (keep goal) (ascending-split end l asc)
  where
    w : Walked goal l reply cs
    w = walked goal l reply nonempty asc honest cs

    end : List ℕ
    end = reached reply [] cs

    upto : List (List ℕ)
    upto = keep (λ p. not (less end p)) l

-- whole walks along both lists, of any calls with honest replies, hand out the same
pub both-engines : {t : Table} → GoodTable t →
    {R C S D : Type 0} (first : List ℕ → C → Reply R Answer) (second : List ℕ → D → Reply S Answer) →
    Honest (witness t) (clean_prefixes t) first → Honest (witness t) (unpruned_prefixes t) second → SameHandedOut first second
unfolding clean_prefixes unpruned_prefixes
both-engines {t} good first second honest-first honest-second cs ds f g =
    walk-whole (witness t) (unpruned_prefixes t) second ds (passing-nonempty t (unpruned t)) (unpruned-ascending t) honest-second g
    ∙ witnesses good
    ∙ sym (walk-whole (witness t) (clean_prefixes t) first cs (passing-nonempty t (clean t)) (clean-ascending t) honest-first f)
