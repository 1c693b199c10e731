-- The words of a condition, run one after the other with one bit: a connective skips its right side where its left side decides.
use Rattle.std.specs.Prelude.{ℕ, zero, suc, ◌/◌, ◌%◌, Bool, true, false, cond, not, ◌&&◌, ◌||◌, List, [], ◌∷◌, eqb, leb}
use Rattle.text_format.specs.Condition.{Condition, returns, ends, negated, both, either}
use Rattle.condition_reader.specs.Words.{ends_node, not_node, and_node, or_node}

abbrev pub kind_of : ℕ → ℕ
kind_of w = w % 256

-- the number and the value of an atom
abbrev pub number_of : ℕ → ℕ
number_of w = w / 256 % 256

abbrev pub value_of : ℕ → ℕ
value_of w = w / 65536

-- the connective whose left side decides, if it is this
abbrev pub decided : Bool → ℕ
decided true = or_node
decided false = and_node

-- how many words are skipped behind a word: where its left side decides, those of a connective's right side
abbrev pub skip_behind : (now : Bool) → ℕ → ℕ
skip_behind now w = cond (eqb (kind_of w) (decided now)) (w / 256) 0

-- the bit behind a word: that of an atom, which holds tells; turned by `not`; behind a connective it stays
abbrev pub bit_behind : (holds : ℕ → Bool) → (now : Bool) → ℕ → Bool
bit_behind holds now w = cond (leb (kind_of w) ends_node) (holds w) (cond (eqb (kind_of w) not_node) (not now) now)

unfoldable pub run : (holds : ℕ → Bool) → (skip : ℕ) → (now : Bool) → List ℕ → Bool
run holds zero now [] = now
run holds (suc n) now [] = now
run holds zero now (w ∷ ws) = run holds (skip_behind now w) (bit_behind holds now w) ws
run holds (suc n) now (w ∷ ws) = run holds n now ws

-- a condition, by a test of its atoms: true for `r`
unfoldable pub evaluated : (test : Bool → ℕ → ℕ → Bool) → Condition → Bool
evaluated test (returns e v) = test true e v
evaluated test (ends x v) = test false x v
evaluated test (negated c) = not (evaluated test c)
evaluated test (both l r) = evaluated test l && evaluated test r
evaluated test (either l r) = evaluated test l || evaluated test r

-- a word of a condition that only joins its atoms by `and`
abbrev pub plain_word : ℕ → Bool
plain_word w = leb (kind_of w) ends_node || eqb (kind_of w) and_node
