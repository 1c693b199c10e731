-- "Tests as text": what a condition is, and how it is written.
use Rattle.std.specs.Prelude.{ℕ, zero, suc, ◌+◌, ◌/◌, ◌%◌, Bool, true, false, cond, ◌&&◌, List, [], ◌∷◌, ◌++◌, ltb, leb}
use Rattle.text_format.specs.Bytes.{space, zero_digit, equals, letter_r, letter_x, not_word, open_word, and_word, or_word, close_word}

-- "A condition is `r3=1` (event 3 returns 1), `x0=2` (location 0 ends at 2), `not` and a condition, or `(`, a condition, `and`
-- or `or`, a condition, `)`"
pub data Condition : Type 0 where
  returns : ℕ → ℕ → Condition
  ends : ℕ → ℕ → Condition
  negated : Condition → Condition
  both : Condition → Condition → Condition
  either : Condition → Condition → Condition

-- by `and`, or else by `or`
abbrev pub joined : Bool → Condition → Condition → Condition
joined true l r = both l r
joined false l r = either l r

abbrev pub deeper : ℕ → ℕ → ℕ
deeper a b = cond (ltb a b) b a

-- "each `not` or bracket adding one"
abbrev pub levels : Condition → ℕ
levels (returns e v) = 0
levels (ends x v) = 0
levels (negated c) = suc (levels c)
levels (both l r) = suc (deeper (levels l) (levels r))
levels (either l r) = suc (deeper (levels l) (levels r))

-- "Conditions may nest up to eight deep"
abbrev pub max_levels : ℕ
max_levels = 8

-- "event and location numbers in a condition go to 255"
abbrev pub max_number : ℕ
max_number = 255

-- the largest value of an edition 2 field: a condition's values are compared with such
abbrev pub max_value : ℕ
max_value = 65535

abbrev pub fits : Condition → Bool
fits (returns e v) = leb e max_number && leb v max_value
fits (ends x v) = leb x max_number && leb v max_value
fits (negated c) = fits c
fits (both l r) = fits l && fits r
fits (either l r) = fits l && fits r

-- "in decimal", "no leading zero": the digits of v, at most n of them before the last
unfoldable pub decimal_in : ℕ → ℕ → List ℕ
decimal_in zero v = (zero_digit + v % 10) ∷ []
decimal_in (suc n) v = let more = decimal_in n (v / 10) in cond (ltb v 10) [] more ++ ((zero_digit + v % 10) ∷ [])

-- no number of a text has more than ten digits
abbrev pub decimal : ℕ → List ℕ
decimal v = decimal_in 9 v

-- "single spaces between parts, as `( r3=1 and x0=2 )`"
unfoldable pub printed : Condition → List ℕ
printed (returns e v) = (letter_r ∷ decimal e) ++ (equals ∷ decimal v)
printed (ends x v) = (letter_x ∷ decimal x) ++ (equals ∷ decimal v)
printed (negated c) = not_word ++ printed c
printed (both l r) = open_word ++ printed l ++ (space ∷ and_word) ++ printed r ++ close_word
printed (either l r) = open_word ++ printed l ++ (space ∷ or_word) ++ printed r ++ close_word
