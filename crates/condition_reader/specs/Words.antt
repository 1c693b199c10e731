-- A condition as words, which can be run one after the other.
use Rattle.std.specs.Prelude.{ℕ, ◌+◌, ◌*◌, Bool, true, false, List, [], ◌∷◌, ◌++◌, length}
use Rattle.text_format.specs.Condition.{Condition, returns, ends, negated, both, either}

-- what a word stands for: `r`, `x`, `not`, `and`, `or`
abbrev pub returns_node : ℕ
returns_node = 0

abbrev pub ends_node : ℕ
ends_node = 1

abbrev pub not_node : ℕ
not_node = 2

abbrev pub and_node : ℕ
and_node = 3

abbrev pub or_node : ℕ
or_node = 4

-- the kind of an atom in byte 0, its number in byte 1, its value in bytes 2 and 3
abbrev pub node_word : ℕ → ℕ → ℕ → ℕ
node_word kind k v = kind + 256 * k + 65536 * v

-- the kind of a connective in byte 0, and above it how many words its right side takes
abbrev pub skip_word : ℕ → ℕ → ℕ
skip_word kind n = kind + 256 * n

-- the atom of `r`, or else of `x`
abbrev pub atom_of : Bool → ℕ → ℕ → Condition
atom_of true k v = returns k v
atom_of false k v = ends k v

-- a connective stands behind its left side and says how many words its right side takes, so that they can be skipped
unfoldable pub code : Condition → List ℕ
code (returns e v) = node_word returns_node e v ∷ []
code (ends x v) = node_word ends_node x v ∷ []
code (negated c) = code c ++ (not_node ∷ [])
code (both l r) = code l ++ (skip_word and_node (length (code r)) ∷ code r)
code (either l r) = code l ++ (skip_word or_node (length (code r)) ∷ code r)

-- the kind of a connective
abbrev pub joint_node : Bool → ℕ
joint_node true = and_node
joint_node false = or_node

-- the words of any condition: each takes four bytes of a text or more
abbrev pub max_words : ℕ
max_words = 512
