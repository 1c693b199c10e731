-- The readers of a condition, once the readers of its parts are known.
use Prim.Native.Nat.{ℕ, ◌+◌, ◌<◌}
use mathlib.Core.Path.{◌≡◌, refl, sym, ap, ◌∙◌}
use mathlib.Core.Bool.{true, Bool, false}
use mathlib.Core.List.{List, [], ◌∷◌, ◌++◌}
use native.Mathlib.Numerals.{add-one}
use lib.ListN.{length, drop, take, set}
use lib.Seq.{take-suc-set}
use Rattle.text_format.specs.Bytes.{equals}
use Rattle.text_format.specs.Condition.{Condition, max_number, max_value}
use Rattle.text_format.specs.Reading.{word, number, atom, got, breach}
use Rattle.condition_reader.specs.Steps.{lettered}
use Rattle.condition_reader.specs.Words.{returns_node, ends_node, node_word, atom_of, code}
use Rattle.condition_reader.proofs.NumberLaws.{here}

-- one more word in the buffer
pub put : (out : List ℕ) (n w : ℕ) → n < length out → take (n + 1) (set out n w) ≡ take n out ++ (w ∷ [])
put out n w h = rw (add-one n, take-suc-set out n w h)

pub put-node : (out : List ℕ) (n w : ℕ) (c : Condition) → n < length out → code c ≡ w ∷ []
    → take (n + 1) (set out n w) ≡ take n out ++ code c
put-node out n w c h e = put out n w h ∙ ap (λ (l : List ℕ). take n out ++ l) (sym e)

-- the words of atoms
pub returns-word : (k v : ℕ) → code (atom_of true k v) ≡ node_word returns_node k v ∷ []
unfolding code
returns-word k v = refl

pub ends-word : (k v : ℕ) → code (atom_of false k v) ≡ node_word ends_node k v ∷ []
unfolding code
ends-word k v = refl

module _ (made : ℕ → ℕ → Condition) (s r : List ℕ) where
  pub atom-number : (n : ℕ) → number max_number s ≡ breach n r → atom made s ≡ breach n r
  unfolding atom
  atom-number n e = rw e

  module _ (k : ℕ) (e : number max_number s ≡ got k r) (r' : List ℕ) where
    pub atom-equals : (n : ℕ) → word (equals ∷ []) r ≡ breach n r' → atom made s ≡ breach n r'
    unfolding atom
    atom-equals n f = rw (e, f)

    module _ (f : word (equals ∷ []) r ≡ got [] r') (r'' : List ℕ) where
      pub atom-value : (n : ℕ) → number max_value r' ≡ breach n r'' → atom made s ≡ breach n r''
      unfolding atom
      atom-value n g = rw (e, f, g)

      pub atom-got : (v : ℕ) → number max_value r' ≡ got v r'' → atom made s ≡ got (made k v) r''
      unfolding atom
      atom-got v g = rw (e, f, g)

-- the atom whose letter stands at a place
pub lettered-at : (s : List ℕ) (at : ℕ) (returned : Bool) → at < length s → lettered returned (drop at s) ≡ atom (atom_of returned) (drop (at + 1) s)
unfolding lettered
lettered-at s at returned h = ap (λ (r : List ℕ). atom (atom_of returned) (drop 1 r)) (here s at h)
