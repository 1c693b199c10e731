-- One event more: whether its prefix is entered, and the mask of the good behind it.
use Prim.Native.Nat.{ℕ, ◌+◌, ◌≤◌, ◌<◌}
use native.Mathlib.Omega.{arith}
use mathlib.Core.Path.{◌≡◌, refl, sym, ap, ap₂, ◌∙◌, fun_ext}
use mathlib.Core.Bool.{Bool, true, false, cond, not, ◌||◌, true≢false}
use mathlib.Core.List.{List, [], ◌∷◌, ◌++◌}
use lib.ListN.{length, get_or, take, set}
use lib.Seq.{get_or-set_same, get_or-set_other}
use lib.Bits.{bit_and, bit_or, bit_xor}
use lib.Dec.{eqb}
use borrow.Author.Tests.{eqb-true, eqb-false, ne_eqb}
use Rattle.lists.specs.Lists.{has}
use Rattle.masks.specs.Bit.{bit}
use Rattle.masks.specs.MaskOf.{mask_of}
use Rattle.masks.proofs.BitLaws.{bit-zero}
use Rattle.masks.proofs.MaskOfLaws.{mask-has}
use Rattle.table.specs.declared.Table.{Table}
use Rattle.model.specs.Returns.{final_value}
use Rattle.model.specs.Prefixes.{clean}
use Rattle.placing.specs.Guards.{reads_stated}
use Rattle.order_facts.specs.Facts.{mask_by, good, here, right}
use Rattle.order_facts.proofs.GoodLaws.{good_more}
use Rattle.fact_rows.specs.FactRows.{Facts, here_row, right_row}
use Rattle.order_test.proofs.TellLaws.{mask_is}
use Rattle.engine.specs.Entered.{always}
use Rattle.witness_walk.specs.Running.{Enters, EntersBy, GoodsTo, good_behind}

module _ {t : Table} {facts : List (List ℕ)} {watched e : ℕ} (known : Facts t facts) (counted : e < t.count) where
  -- what is told of e, behind p with its mask and that of the good, is whether the prefix with it is entered
  pub enters_is : {enters : List ℕ → Bool} {p : List ℕ} {placed now : ℕ} (r : Bool) → Enters t watched enters →
      clean t (p ++ (e ∷ [])) ≡ true → enters p ≡ true → placed ≡ mask_of p →
      ((watched ≡ 0 → ⊥) → now ≡ mask_by t (good t (final_value t p))) → EntersBy (bit watched e) facts placed now e r →
      r ≡ enters (p ++ (e ∷ []))
  enters_is {p = p} {placed} {now} r entering c into q kept h = go (bit watched e) refl h ∙ sym (entering.more p e c into)
    where
      stated : Bool
      stated = reads_stated t (λ a. has a p) (final_value t p) e

      listed : bit placed ≡ (λ a. has a p)
      listed = fun_ext (λ a. ap (λ (m : ℕ). bit m a) q ∙ mask-has p a)

      go : (x : Bool) → bit watched e ≡ x → EntersBy x facts placed now e r → r ≡ (not (bit watched e) || stated)
      go true i h =
          h t known counted (final_value t p) (kept (λ z. true≢false (sym i ∙ ap (λ (m : ℕ). bit m e) z ∙ bit-zero e)))
          ∙ ap (λ (f : ℕ → Bool). reads_stated t f (final_value t p) e) listed
          ∙ ap (λ (x : Bool). not x || stated) (sym i)
      go false i h = h ∙ ap (λ (x : Bool). not x || stated) (sym i)

  -- the masks of the good, once e is noted behind keep entries; longer: the order with e stored there
  module _ (order longer goods : List ℕ) {goods' : List ℕ} (keep : ℕ) (some : watched ≡ 0 → ⊥) (kept : GoodsTo t goods order keep)
      (room : keep + 1 < length goods)
      (noted : goods' ≡ cond (eqb watched 0) goods (set goods (keep + 1) (good_behind facts (get_or goods keep 0) e)))
      (last : take (keep + 1) longer ≡ take keep order ++ (e ∷ [])) (rest : (k : ℕ) → k ≤ keep → take k longer ≡ take k order) where
    abbrev behind : ℕ
    behind = good_behind facts (get_or goods keep 0) e

    behind-is : behind ≡ mask_by t (good t (final_value t (take keep order ++ (e ∷ []))))
    behind-is =
        ap₂ (λ (x y : ℕ). bit_or (bit_xor (get_or goods keep 0) (bit_and (get_or goods keep 0) x)) y)
        (mask_is known here_row (here t) known.here e counted) (mask_is known right_row (right t) known.right e counted)
        ∙ ap (λ (x : ℕ). bit_or (bit_xor x (bit_and x (mask_by t (here t e)))) (mask_by t (right t e))) (kept keep (omega arith))
        ∙ sym (good_more t known.table.small (take keep order) e counted)

    pub goods-more : GoodsTo t goods' longer (keep + 1)
    goods-more k h = ap (λ (x : List ℕ). get_or x k 0) set_is ∙ go (eqb k (keep + 1)) refl
      where
        set_is : goods' ≡ set goods (keep + 1) behind
        set_is = noted ∙ ap (λ (x : Bool). cond x goods (set goods (keep + 1) behind)) (ne_eqb watched 0 some)

        go : (x : Bool) → eqb k (keep + 1) ≡ x → get_or (set goods (keep + 1) behind) k 0 ≡ mask_by t (good t (final_value t (take k longer)))
        go true q =
            let i = eqb-true k (keep + 1) q in
            ap (λ (j : ℕ). get_or (set goods (keep + 1) behind) j 0) i ∙ get_or-set_same goods (keep + 1) behind 0 room ∙ behind-is
            ∙ ap (λ (x : List ℕ). mask_by t (good t (final_value t x))) (sym last ∙ ap (λ (j : ℕ). take j longer) (sym i))
        go false q =
            get_or-set_other goods (keep + 1) k behind 0 (λ i. eqb-false k (keep + 1) q i)
            ∙ kept k (omega (arith, eqb-false k (keep + 1) q))
            ∙ ap (λ (x : List ℕ). mask_by t (good t (final_value t x))) (sym (rest k (omega (arith, eqb-false k (keep + 1) q))))

-- where no reader is watched, every prefix is entered
pub enters-always : (t : Table) → Enters t 0 always
enters-always t = record {
  none = refl;
  more = λ p e c h. sym (ap (λ (x : Bool). not x || reads_stated t (λ a. has a p) (final_value t p) e) (bit-zero e));
}
