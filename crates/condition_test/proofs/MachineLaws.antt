-- Running a condition's words gives its truth, whatever its atoms are.
use Prim.Native.Nat.{ℕ, zero, suc, ◌/◌, ◌≤◌, ◌<◌}
use mathlib.Core.Path.{◌≡◌, refl, ap, ◌∙◌}
use mathlib.Core.Bool.{Bool, true, false, cond, not, ◌&&◌, ◌||◌}
use mathlib.Core.List.{List, [], ◌∷◌, ◌++◌, append_assoc}
use native.Mathlib.Omega.{arith}
use lib.ListN.{length, drop}
use lib.Dec.{eqb, leb}
use borrow.Author.Tests.{leb-true}
use Rattle.lists.proofs.BoolLaws.{and_l, and_r}
use Rattle.text_format.specs.Condition.{Condition, returns, ends, negated, both, either, max_number, max_value, fits}
use Rattle.condition_reader.specs.Words.{returns_node, ends_node, not_node, and_node, or_node, node_word, skip_word, code}
use Rattle.condition_test.specs.Machine.{kind_of, decided, run, evaluated}

pub node-kind : (kind k v : ℕ) → kind < 256 → kind_of (node_word kind k v) ≡ kind
node-kind kind k v h = omega arith

pub skip-kind : (kind n : ℕ) → kind < 256 → kind_of (skip_word kind n) ≡ kind
skip-kind kind n h = omega arith

skip-side : (kind n : ℕ) → kind < 256 → skip_word kind n / 256 ≡ n
skip-side kind n h = omega arith

-- an atom that fits
pub within : (k v : ℕ) → (leb k max_number && leb v max_value) ≡ true → (k ≤ max_number) × (v ≤ max_value)
within k v f = (
  leb-true k max_number (and_l (leb k max_number) (leb v max_value) f),
  leb-true v max_value (and_r (leb k max_number) (leb v max_value) f),
)

module _ (holds : ℕ → Bool) where
  -- skipping is leaving out
  pub run-skip : (n : ℕ) (b : Bool) (ws : List ℕ) → run holds n b ws ≡ run holds 0 b (drop n ws)
  unfolding run
  run-skip zero b ws = refl
  run-skip (suc n) b [] = refl
  run-skip (suc n) b (w ∷ ws) = run-skip n b ws

  run_past : (us ws : List ℕ) (b : Bool) → run holds (length us) b (us ++ ws) ≡ run holds 0 b ws
  unfolding run
  run_past [] ws b = refl
  run_past (u ∷ us) ws b = run_past us ws b

  -- one word more, by its kind
  run-word : (kind w : ℕ) (b : Bool) (ws : List ℕ) → kind_of w ≡ kind → run holds 0 b (w ∷ ws)
      ≡ run holds (cond (eqb kind (decided b)) (w / 256) 0)
      (cond (leb kind ends_node) (holds w) (cond (eqb kind not_node) (not b) b)) ws
  unfolding run
  run-word kind w b ws e =
      ap (λ (k : ℕ). run holds (cond (eqb k (decided b)) (w / 256) 0)
      (cond (leb k ends_node) (holds w) (cond (eqb k not_node) (not b) b)) ws) e

  run-returns : (e v : ℕ) (b : Bool) (ws : List ℕ) →
      run holds 0 b (node_word returns_node e v ∷ ws) ≡ run holds 0 (holds (node_word returns_node e v)) ws
  run-returns e v true ws = run-word returns_node (node_word returns_node e v) true ws (node-kind returns_node e v (omega arith))
  run-returns e v false ws = run-word returns_node (node_word returns_node e v) false ws (node-kind returns_node e v (omega arith))

  run_ends : (x v : ℕ) (b : Bool) (ws : List ℕ) →
      run holds 0 b (node_word ends_node x v ∷ ws) ≡ run holds 0 (holds (node_word ends_node x v)) ws
  run_ends x v true ws = run-word ends_node (node_word ends_node x v) true ws (node-kind ends_node x v (omega arith))
  run_ends x v false ws = run-word ends_node (node_word ends_node x v) false ws (node-kind ends_node x v (omega arith))

  run-not : (b : Bool) (ws : List ℕ) → run holds 0 b (not_node ∷ ws) ≡ run holds 0 (not b) ws
  unfolding run
  run-not true ws = refl
  run-not false ws = refl

  module _ (us ws : List ℕ) where
    -- a connective whose left side decides skips the words of its right side; else it is as if it weren't there
    run-and : (b : Bool) → run holds 0 b (skip_word and_node (length us) ∷ (us ++ ws))
        ≡ cond b (run holds 0 true (us ++ ws)) (run holds 0 false ws)
    run-and true = run-word and_node _ true (us ++ ws) (skip-kind and_node (length us) (omega arith))
    run-and false =
        run-word and_node _ false (us ++ ws) (skip-kind and_node (length us) (omega arith))
        ∙ ap (λ (n : ℕ). run holds n false (us ++ ws)) (skip-side and_node (length us) (omega arith)) ∙ run_past us ws false

    run-or : (b : Bool) → run holds 0 b (skip_word or_node (length us) ∷ (us ++ ws))
        ≡ cond b (run holds 0 true ws) (run holds 0 false (us ++ ws))
    run-or true =
        run-word or_node _ true (us ++ ws) (skip-kind or_node (length us) (omega arith))
        ∙ ap (λ (n : ℕ). run holds n true (us ++ ws)) (skip-side or_node (length us) (omega arith)) ∙ run_past us ws true
    run-or false = run-word or_node _ false (us ++ ws) (skip-kind or_node (length us) (omega arith))

  module _ (test : Bool → ℕ → ℕ → Bool)
      (reads : (e v : ℕ) → e ≤ max_number → v ≤ max_value → holds (node_word returns_node e v) ≡ test true e v)
      (left : (x v : ℕ) → x ≤ max_number → v ≤ max_value → holds (node_word ends_node x v) ≡ test false x v) where
    pub run-code : (c : Condition) → fits c ≡ true → (b : Bool) (ws : List ℕ) →
        run holds 0 b (code c ++ ws) ≡ run holds 0 (evaluated test c) ws
    unfolding code evaluated
    run-code (returns e v) f b ws =
        run-returns e v b ws
        ∙ ap (λ (d : Bool). run holds 0 d ws) (reads e v (within e v f).0 (within e v f).1)
    run-code (ends x v) f b ws =
        run_ends x v b ws
        ∙ ap (λ (d : Bool). run holds 0 d ws) (left x v (within x v f).0 (within x v f).1)
    run-code (negated c) f b ws =
        ap (run holds 0 b) (append_assoc (code c) (not_node ∷ []) ws)
        ∙ run-code c f b (not_node ∷ ws) ∙ run-not (evaluated test c) ws
    run-code (both l r) f b ws =
        ap (run holds 0 b) (append_assoc (code l) (skip_word and_node (length (code r)) ∷ code r) ws)
        ∙ run-code l (and_l (fits l) (fits r) f) b (skip_word and_node (length (code r)) ∷ (code r ++ ws))
        ∙ run-and (code r) ws (evaluated test l)
        ∙ go (evaluated test l) (run-code r (and_r (fits l) (fits r) f) true ws)
      where
        go : (d : Bool) → run holds 0 true (code r ++ ws) ≡ run holds 0 (evaluated test r) ws →
            cond d (run holds 0 true (code r ++ ws)) (run holds 0 false ws) ≡ run holds 0 (d && evaluated test r) ws
        go true h = h
        go false h = refl
    run-code (either l r) f b ws =
        ap (run holds 0 b) (append_assoc (code l) (skip_word or_node (length (code r)) ∷ code r) ws)
        ∙ run-code l (and_l (fits l) (fits r) f) b (skip_word or_node (length (code r)) ∷ (code r ++ ws))
        ∙ run-or (code r) ws (evaluated test l)
        ∙ go (evaluated test l) (run-code r (and_r (fits l) (fits r) f) false ws)
      where
        go : (d : Bool) → run holds 0 false (code r ++ ws) ≡ run holds 0 (evaluated test r) ws →
            cond d (run holds 0 true ws) (run holds 0 false (code r ++ ws)) ≡ run holds 0 (d || evaluated test r) ws
        go true h = refl
        go false h = h
