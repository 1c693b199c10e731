-- "Tests as text": reading from left to right. A reader gives what it found at the front of a text and the rest of it, or the
-- first breach. Theorems says what this has to do with legal texts.
use Rattle.std.specs.Prelude.{ℕ, zero, suc, ◌+◌, ◌-◌, ◌*◌, Bool, true, false, cond, ◌||◌, List, [], ◌∷◌, length, get_or, drop, eqb, ltb}
use Rattle.text_format.specs.Bytes.{newline, space, zero_digit, nine_digit, equals, letter_r, letter_x, letter_n, open_bracket, letter_o, not_word, open_word, and_word, or_word, close_word}
use Rattle.text_format.specs.Condition.{Condition, returns, ends, negated, joined, max_levels, max_number, max_value}
use Rattle.text_format.specs.Document.{Document, field_bounds}

-- a value and the rest; or refusal n, at the first byte of the rest (at the end, if that is empty)
pub data Read (A : Type 0) : Type 0 where
  got : A → List ℕ → Read A
  breach : ℕ → List ℕ → Read A

-- "with its place (bytes count from 0, and the end's place is the length)"
abbrev pub place_of : (text rest : List ℕ) → ℕ
place_of text rest = length text - length rest

-- "The first breach decides"
abbrev pub and_then : {A B : Type 0} → Read A → (A → List ℕ → Read B) → Read B
and_then (got a s) f = f a s
and_then (breach n s) f = breach n s

-- the next bytes have to be these
unfoldable pub word : List ℕ → List ℕ → Read (List ℕ)
word [] s = got [] s
word (b ∷ bs) [] = breach 19 []
word (b ∷ bs) (c ∷ s) = let more = word bs s in cond (eqb c b) more (breach 19 (c ∷ s))

abbrev pub not_digit : ℕ → Bool
not_digit c = ltb c zero_digit || ltb nine_digit c

-- "no leading zero and fit": behind a 0 no digit may follow, nor one that makes the number more than `most`
unfoldable pub may_not_follow : (most v d : ℕ) → Bool
may_not_follow most v d = eqb v 0 || ltb most (10 * v + d)

-- further digits of a number that is v so far
unfoldable pub digits : (most : ℕ) → ℕ → List ℕ → Read ℕ
digits most v [] = got v []
digits most v (c ∷ s) =
    let more = digits most (10 * v + (c - zero_digit)) s in
    cond (not_digit c) (got v (c ∷ s)) (cond (may_not_follow most v (c - zero_digit)) (breach 19 (c ∷ s)) more)

-- a number up to `most`; the first digit always fits, since every bound of a text is 9 or more
unfoldable pub number : (most : ℕ) → List ℕ → Read ℕ
number most [] = breach 19 []
number most (c ∷ s) = cond (not_digit c) (breach 19 (c ∷ s)) (digits most (c - zero_digit) s)

-- behind `r` or `x`: a number, `=` and a value
unfoldable pub atom : (ℕ → ℕ → Condition) → List ℕ → Read Condition
atom made s =
    and_then (number max_number s) (λ k r. and_then (word (equals ∷ []) r) (λ _ t.
    and_then (number max_value t) (λ v u. got (made k v) u)))

-- ` and ` (true) or ` or `
unfoldable pub joint : List ℕ → Read Bool
joint s =
    and_then (word (space ∷ []) s) (λ _ r.
    cond (eqb (get_or r 0 0) letter_o) (and_then (word or_word r) (λ _ t. got false t)) (and_then (word and_word r) (λ _ t. got true t)))

-- "`not` and a condition", which `inner` reads
unfoldable pub negation : (inner : List ℕ → Read Condition) → List ℕ → Read Condition
negation inner s = and_then (word not_word s) (λ _ r. and_then (inner r) (λ c t. got (negated c) t))

-- "`(`, a condition, `and` or `or`, a condition, `)`"
unfoldable pub bracket : (inner : List ℕ → Read Condition) → List ℕ → Read Condition
bracket inner s =
    and_then (word open_word s) (λ _ s₁. and_then (inner s₁) (λ left s₂. and_then (joint s₂) (λ b s₃.
    and_then (inner s₃) (λ right s₄. and_then (word close_word s₄) (λ _ s₅. got (joined b left right) s₅)))))

-- what a condition begins with
unfoldable pub opening : (onNot onBracket : List ℕ → Read Condition) → List ℕ → Read Condition
opening onNot onBracket [] = breach 19 []
opening onNot onBracket (c ∷ s) =
    cond (eqb c letter_r) (atom returns s)
    (cond (eqb c letter_x) (atom ends s)
    (cond (eqb c letter_n) (onNot (c ∷ s))
    (cond (eqb c open_bracket) (onBracket (c ∷ s)) (breach 19 (c ∷ s)))))

-- a condition in which `depth` levels may still begin: "an `n` or `(` that would begin a ninth level is refusal 20"
unfoldable pub condition : (depth : ℕ) → List ℕ → Read Condition
condition zero s = opening (breach 20) (breach 20) s
condition (suc depth) s = opening (negation (λ r. condition depth r)) (bracket (λ r. condition depth r)) s

-- a number for each bound, with single spaces between, and a newline
unfoldable pub line : (bounds : List ℕ) → List ℕ → Read (List ℕ)
line [] s = word (newline ∷ []) s
line (m ∷ []) s = and_then (number m s) (λ v r. and_then (word (newline ∷ []) r) (λ _ t. got (v ∷ []) t))
line (m ∷ n ∷ ms) s =
    and_then (number m s) (λ v r. and_then (word (space ∷ []) r) (λ _ t. and_then (line (n ∷ ms) t) (λ vs u. got (v ∷ vs) u)))

-- event lines and the blank line; at most n - 1 of them, and no text has more lines than bytes
unfoldable pub event_lines : ℕ → List ℕ → Read (List (List ℕ))
event_lines zero s = breach 19 s
event_lines (suc n) s =
    let more = and_then (line field_bounds s) (λ l r. and_then (event_lines n r) (λ ls t. got (l ∷ ls) t)) in
    cond (eqb (get_or s 0 0) newline) (got [] (drop 1 s)) more

-- one or more values, at most n, with single spaces between, and a newline
unfoldable pub values : ℕ → List ℕ → Read (List ℕ)
values zero s = breach 19 s
values (suc n) s =
    and_then (number max_value s) (λ v r.
    let more = and_then (values n (drop 1 r)) (λ vs t. got (v ∷ vs) t) in
    cond (eqb (get_or r 0 0) space) more (and_then (word (newline ∷ []) r) (λ _ t. got (v ∷ []) t)))

-- nothing may follow
abbrev pub ended : Document → List ℕ → Read Document
ended d [] = got d []
ended d (c ∷ s) = breach 19 (c ∷ s)

-- the whole text, if `most` levels are allowed
unfoldable pub document_in : (most : ℕ) → List ℕ → Read Document
document_in most s =
    and_then (event_lines (suc (length s)) s) (λ es s₁. and_then (values (suc (length s₁)) s₁) (λ vs s₂. and_then (condition most s₂)
    (λ c s₃. and_then (word (newline ∷ []) s₃) (λ _ s₄. ended (record { events = es; initial = vs; outcome = c }) s₄))))

abbrev pub document : List ℕ → Read Document
document s = document_in max_levels s
