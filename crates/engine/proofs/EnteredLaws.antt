-- Laws of the prefixes that a walk gets to, over any test of those that it enters.
use Prim.Native.Nat.{ℕ, ◌+◌}
use native.Mathlib.Nat.{le_of_lt}
use mathlib.Core.Path.{◌≡◌, refl, sym, ap, ap₂, ◌∙◌, fun_ext}
use mathlib.Core.Bool.{Bool, true, false, not, ◌&&◌, ◌||◌, and-true}
use mathlib.Core.List.{List, [], ◌∷◌, ◌++◌}
use lib.ListN.{length, take, length-append}
use lib.Seq.{take-append-le, take-append_seam}
use Rattle.lists.specs.Below.{some, every}
use Rattle.lists.proofs.BoolLaws.{and_l, and_r, and_both, and_right}
use Rattle.lists.proofs.SomeLaws.{some_more, every-same, at_every}
use Rattle.prefixes.specs.Statements.{PrefixClosed}
use Rattle.engine.specs.Entered.{entered, reachable, always}

-- every number below one more
every_more : (n : ℕ) (f : ℕ → Bool) → every (n + 1) f ≡ (every n f && f n)
every_more n f = ap not (some_more n (λ k. not (f k))) ∙ split (some n (λ k. not (f k))) (f n)
  where
    split : (a b : Bool) → not (a || not b) ≡ (not a && b)
    split true b = refl
    split false true = refl
    split false false = refl

module _ (enters : List ℕ → Bool) where
  -- the proper prefixes of a list with one more entry are those of the list, and the list
  entered-more : (p : List ℕ) (x : ℕ) → entered enters (p ++ (x ∷ [])) ≡ (entered enters p && enters p)
  unfolding entered
  entered-more p x =
      ap (λ (n : ℕ). every n f) (length-append p (x ∷ [])) ∙ every_more (length p) f
      ∙ ap₂ (λ (a b : Bool). a && b)
      (every-same (length p) f (λ k. enters (take k p)) (λ k l. ap enters (take-append-le k p (x ∷ []) (le_of_lt l))))
      (ap enters (take-append_seam p (x ∷ [])))
    where
      f : ℕ → Bool
      f k = enters (take k (p ++ (x ∷ [])))

  module _ (passes : List ℕ → Bool) where
    -- a walk gets to one entry more where that passes, and the prefix was got to and is entered
    pub reachable-more : (p : List ℕ) (x : ℕ) →
        reachable passes enters (p ++ (x ∷ [])) ≡ (passes (p ++ (x ∷ [])) && (entered enters p && enters p))
    unfolding reachable
    reachable-more p x = ap (λ (b : Bool). passes (p ++ (x ∷ [])) && b) (entered-more p x)

    pub reachable-next : (p : List ℕ) (x : ℕ) → reachable passes enters p ≡ true → enters p ≡ true → passes (p ++ (x ∷ [])) ≡ true →
        reachable passes enters (p ++ (x ∷ [])) ≡ true
    unfolding reachable
    reachable-next p x r e h =
        reachable-more p x ∙ and_both _ _ h (and_both _ _ (and_r (passes p) (entered enters p) r) e)

    -- what goes on with a prefix that was got to: that was entered
    pub reachable-enters : (p : List ℕ) (x : ℕ) → reachable passes enters (p ++ (x ∷ [])) ≡ true → enters p ≡ true
    reachable-enters p x h = and_r (entered enters p) _ (and_r (passes (p ++ (x ∷ []))) _ (sym (reachable-more p x) ∙ h))

    pub reachable-closed : PrefixClosed passes → PrefixClosed (reachable passes enters)
    unfolding reachable
    reachable-closed closed p x h =
        let r = sym (reachable-more p x) ∙ h in
        and_both _ _ (closed p x (and_l (passes (p ++ (x ∷ []))) _ r))
        (and_l _ (enters p) (and_r (passes (p ++ (x ∷ []))) _ r))

    -- what isn't entered has no extension that is got to
    pub reachable-not : (p : List ℕ) (x : ℕ) → enters p ≡ false → reachable passes enters (p ++ (x ∷ [])) ≡ false
    reachable-not p x h =
        reachable-more p x ∙ and_right (passes (p ++ (x ∷ []))) _ (and_right (entered enters p) (enters p) h)

    pub reachable-passes : (p : List ℕ) → passes p ≡ false → reachable passes enters p ≡ false
    unfolding reachable
    reachable-passes p h = ap (λ (b : Bool). b && entered enters p) h

    pub reachable-only : (p : List ℕ) → reachable passes enters p ≡ true → passes p ≡ true
    unfolding reachable
    reachable-only p h = and_l (passes p) _ h

-- where every prefix is entered, a walk gets to all that pass
pub reachable-always : (passes : List ℕ → Bool) → reachable passes always ≡ passes
unfolding reachable entered
reachable-always passes = fun_ext (λ p. ap (λ (b : Bool). passes p && b) (at_every (length p) (λ k. true) (λ k l. refl)) ∙ and-true (passes p))
