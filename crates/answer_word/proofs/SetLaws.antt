-- A set of rules as a mask, from its rules.
use Prim.Native.Nat.{ℕ, suc, ◌+◌, ◌*◌, ◌-◌, ◌^◌, ◌<◌}
use mathlib.Core.Path.{◌≡◌, sym, ap, ap₂, ◌∙◌}
use mathlib.Core.Bool.{Bool, true, false}
use mathlib.Core.List.{List, [], ◌∷◌}
use native.Mathlib.Nat.{mul_assoc, mul-suc}
use native.Mathlib.Omega.{arith}
use Rattle.model.specs.Rules.{numbered}
use Rattle.rule_sets.specs.RuleMask.{set_mask, bits_of, rules_in}
use Rattle.rule_sets.proofs.MaskLaws.{bits-mask}
use Rattle.model.specs.Verdict.{broken_ppo}
use Rattle.answer_word.specs.Words.{word, rules_mask, lowest_of, verdict_word}

double : (k m : ℕ) → 2 ^ suc k * m ≡ 2 ^ k * (2 * m)
double k m =
    let twice : 2 ^ suc k ≡ 2 ^ k * 2 = omega arith in
    ap (λ (x : ℕ). x * m) twice ∙ mul_assoc (2 ^ k) 2 m

one_more : (p n : ℕ) → p + p * n ≡ p * (1 + n)
one_more p n =
    let e : 1 + n ≡ suc n = omega arith in
    let s = mul-suc p n in
    omega (arith, s) ∙ sym (ap (λ (x : ℕ). p * x) e)

-- the mask of the numbers, from k + 1 on, of the tests that hold
numbered-mask : (bs : List Bool) (k : ℕ) → rules_mask (numbered (suc k) bs) ≡ 2 ^ k * set_mask bs
unfolding rules_mask
numbered-mask [] k = omega arith
numbered-mask (true ∷ bs) k =
    let e : suc k - 1 ≡ k = omega arith in
    rw (e, numbered-mask bs (suc k), double k (set_mask bs)) (one_more (2 ^ k) (2 * set_mask bs))
numbered-mask (false ∷ bs) k =
    let e : 2 * set_mask bs ≡ 0 + 2 * set_mask bs = omega arith in
    numbered-mask bs (suc k) ∙ double k (set_mask bs) ∙ ap (λ (x : ℕ). 2 ^ k * x) e

-- the mask of a set's rules is the set
pub set-mask : (set : ℕ) → set < 2 ^ 16 → set ≡ rules_mask (rules_in set)
set-mask set h = sym (numbered-mask (bits_of 16 set) 0 ∙ omega (arith, bits-mask 16 set h))

-- the word of a broken pair, from its parts
pub pair-word : (a b l m : ℕ) (rs : List ℕ) → l ≡ lowest_of rs → m ≡ rules_mask rs → word 2 a b l m ≡ verdict_word (broken_ppo a b rs)
pair-word a b l m rs e h = ap₂ (word 2 a b) e h
