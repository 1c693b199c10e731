-- What reading has to do with legal texts. proofs/ReadingLaws and proofs/FirstLaws show all of it.
use Rattle.std.specs.Prelude.{ℕ, suc, ◌≡◌, true, ◌⊎◌, ◌↔◌, List, [], ◌∷◌, ◌++◌, length}
use Rattle.text_format.specs.Bytes.{letter_n, open_bracket}
use Rattle.text_format.specs.Condition.{max_levels}
use Rattle.text_format.specs.Document.{Document, print, well_formed, Legal, Begins}
use Rattle.text_format.specs.Reading.{got, breach, document, place_of}

-- a text is read exactly if it is how a well formed document is written, and as that document
abbrev pub ReadsLegal : Type 0
ReadsLegal = (s : List ℕ) (d : Document) → (document s ≡ got d []) ↔ ((well_formed max_levels d ≡ true) × (s ≡ print d))

-- "Every legal text has one reading."
abbrev pub OneReading : Type 0
OneReading = (d e : Document) → well_formed max_levels d ≡ true → well_formed max_levels e ≡ true → print d ≡ print e → d ≡ e

-- a text is read whole, or refused
abbrev pub Decided : Type 0
Decided = (s : List ℕ) → ((d : Document) × (document s ≡ got d [])) ⊎ ((n : ℕ) × (r : List ℕ) × (document s ≡ breach n r))

-- the breach n behind the bytes p: "the end come too soon", or the "first byte that no legal text could have there"; 20 if it is
-- "an `n` or `(` that would begin a ninth level", which could stand there exactly if one level more were allowed, and 19 else
abbrev pub Fault : (most : ℕ) (p : List ℕ) (n : ℕ) (rest : List ℕ) → Type 0
Fault most p n [] = (n ≡ 19) × (Legal most p → ⊥)
Fault most p n (b ∷ t) =
    (Begins most (p ++ (b ∷ [])) → ⊥) × ((n ≡ 20) ↔ Begins (suc most) (p ++ (b ∷ [])))
    × ((n ≡ 19) ⊎ ((n ≡ 20) × ((b ≡ letter_n) ⊎ (b ≡ open_bracket))))

-- what stands before the place begins a legal text, and there is the fault
pub record FirstBreach (s : List ℕ) (n : ℕ) (rest : List ℕ) : Type 0 where
  pub front : List ℕ
  pub text : s ≡ front ++ rest
  pub place : place_of s rest ≡ length front
  pub begins : Begins max_levels front
  pub fault : Fault max_levels front n rest

-- "The first breach decides": a text is refused exactly by its first breach, and so has no other
abbrev pub BreachDecides : Type 0
BreachDecides = (s : List ℕ) (n : ℕ) (rest : List ℕ) → (document s ≡ breach n rest) ↔ FirstBreach s n rest
