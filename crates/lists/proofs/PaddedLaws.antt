-- Laws for a loop that fills the first n of an array's m entries, entry k with f k; the rest stay 0.
use Prim.Native.Nat.{ℕ, ◌+◌, ◌≤◌, ◌<◌}
use mathlib.Core.Path.{◌≡◌, refl, sym, ap, ◌∙◌}
use mathlib.Core.Bool.{Bool, true, false, cond}
use mathlib.Core.List.{List}
use native.Mathlib.Omega.{arith}
use lib.Dec.{ltb, eqb}
use lib.ListN.{length, get_or, set, replicate, length-set, length-replicate, get_or-replicate}
use lib.Seq.{get_or-set_same, get_or-set_other}
use borrow.Author.Tests.{ltb-true, lt-ltb, le-ltb, eqb-true, eqb-false}
use Rattle.lists.specs.Filled.{up_to, padded}
use Rattle.lists.proofs.BoolLaws.{bool-ext}
use Rattle.lists.proofs.FilledLaws.{length-up_to, get_or-up_to, up_to-same}

-- an array of zeros is made from any function that is 0
pub zeros-same : (m : ℕ) (f : ℕ → ℕ) → ((k : ℕ) → k < m → f k ≡ 0) → replicate m 0 ≡ up_to m f
zeros-same m f h =
    up_to-same m f 0 (replicate m 0) (length-replicate m 0) (λ k i. get_or-replicate m k 0 0 i ∙ sym (h k i))

-- an array that was made from f is made from a function that agrees
pub up_to-as : (m : ℕ) (f g : ℕ → ℕ) (l : List ℕ) → l ≡ up_to m f → ((k : ℕ) → k < m → f k ≡ g k) → l ≡ up_to m g
up_to-as m f g l e h =
    up_to-same m g 0 l (ap length e ∙ length-up_to m f) (λ k i. ap (λ (x : List ℕ). get_or x k 0) e ∙ get_or-up_to m f k 0 i ∙ h k i)

-- with entry i stored anew it is made from a function that agrees but for i
pub up_to-set : (m : ℕ) (f g : ℕ → ℕ) (l : List ℕ) (i v : ℕ) → l ≡ up_to m f → i < m → v ≡ g i →
    ((k : ℕ) → k < m → eqb i k ≡ false → f k ≡ g k) → set l i v ≡ up_to m g
up_to-set m f g l i v e h q same = up_to-same m g 0 (set l i v) (length-set l i v ∙ long) (λ k b. go k b (eqb i k) refl)
  where
    long : length l ≡ m
    long = ap length e ∙ length-up_to m f

    go : (k : ℕ) → k < m → (b : Bool) → eqb i k ≡ b → get_or (set l i v) k 0 ≡ g k
    go k b true z = let s = eqb-true i k z in ap (λ (j : ℕ). get_or (set l i v) j 0) (sym s) ∙ get_or-set_same l i v 0 (omega (arith, long)) ∙ q ∙ ap g s
    go k b false z =
        get_or-set_other l i k v 0 (λ s. eqb-false i k z (sym s)) ∙ ap (λ (x : List ℕ). get_or x k 0) e ∙ get_or-up_to m f k 0 b ∙ same k b z

module _ (f : ℕ → ℕ) (m n : ℕ) where
  -- entry j, once the first k are filled
  abbrev pub entry_at : ℕ → ℕ → ℕ
  entry_at k j = cond (ltb j k) (f j) 0

  -- of the n entries to fill the first k are
  abbrev pub Padded : ℕ → List ℕ → Type 0
  Padded k l = (k ≤ n) × (l ≡ up_to m (entry_at k))

  -- but for entry k one more filled makes no difference
  other : (k j : ℕ) → eqb k j ≡ false → entry_at k j ≡ entry_at (k + 1) j
  other k j e =
      ap (λ (b : Bool). cond b (f j) 0)
      (bool-ext (ltb j k) (ltb j (k + 1))
      (λ h. lt-ltb j (k + 1) (omega (arith, ltb-true j k h)))
      (λ h. lt-ltb j k (omega (arith, ltb-true j (k + 1) h, eqb-false k j e))))

  -- nothing is filled yet
  pub pad-start : Padded 0 (replicate m 0)
  pad-start = (omega arith, zeros-same m (entry_at 0) (λ j i. ap (λ (b : Bool). cond b (f j) 0) (le-ltb j 0 (omega arith))))

  -- one more entry is
  pub pad-more : (k : ℕ) (l : List ℕ) (v : ℕ) → n ≤ m → Padded k l → k < n → v ≡ f k → Padded (k + 1) (set l k v)
  pad-more k l v room s h e = (
    omega arith,
    up_to-set m (entry_at k) (entry_at (k + 1)) l k v s.1 (omega arith)
        (e ∙ sym (ap (λ (b : Bool). cond b (f k) 0) (lt-ltb k (k + 1) (omega arith))))
        (λ j i. other k j),
  )

  -- one more is, that is 0
  pub pad-skip : (k : ℕ) (l : List ℕ) → Padded k l → k < n → f k ≡ 0 → Padded (k + 1) l
  pad-skip k l s h e = (omega arith, up_to-as m (entry_at k) (entry_at (k + 1)) l s.1 (λ j i. go j (eqb k j) refl))
    where
      go : (j : ℕ) (b : Bool) → eqb k j ≡ b → entry_at k j ≡ entry_at (k + 1) j
      go j true z =
          let q : f j ≡ 0 = ap f (sym (eqb-true k j z)) ∙ e in
          none (ltb j k) (f j) q ∙ sym (none (ltb j (k + 1)) (f j) q)
        where
          none : (b : Bool) (v : ℕ) → v ≡ 0 → cond b v 0 ≡ 0
          none true v h = h
          none false v h = refl
      go j false z = other k j z

  -- all are
  pub pad-end : (k : ℕ) (l : List ℕ) → Padded k l → n ≤ k → l ≡ padded m n f
  unfolding padded
  pad-end k l s h = let e : k ≡ n = omega arith in s.1 ∙ ap (λ (j : ℕ). up_to m (entry_at j)) e

  -- what stands there
  pub padded-at : (k : ℕ) → n ≤ m → k < n → get_or (padded m n f) k 0 ≡ f k
  unfolding padded
  padded-at k h l = get_or-up_to m (entry_at n) k 0 (omega arith) ∙ ap (λ (b : Bool). cond b (f k) 0) (lt-ltb k n l)
