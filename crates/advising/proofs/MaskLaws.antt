-- The sets of a list are those that masks choose, from the greatest mask down.
use Prim.Native.Nat.{ℕ, zero, suc, ◌+◌, ◌-◌, ◌^◌, ◌≤◌, ◌<◌}
use native.Mathlib.Omega.{arith}
use mathlib.Core.Path.{◌≡◌, refl, sym, ap, ap₂, ◌∙◌, subst}
use mathlib.Core.Bool.{Bool, true, false, ◌||◌, or-false, or-true}
use mathlib.Core.List.Memᴰ
use mathlib.Core.List.{List, [], ◌∷◌, ◌++◌, map, map-map}
use mathlib.Core.Logic.{⊎_elim}
use lib.ListN.{length}
use lib.Count.{ones}
use lib.Dec.{ltb}
use borrow.Author.Tests.{eq-eqb, ne_eqb, ltb-true, ltb-false}
use Rattle.lists.specs.Lists.{◌∈◌, all, kept}
use Rattle.lists.proofs.BoolLaws.{and_l, and_r, and_both}
use Rattle.prefixes.specs.Statements.{Rising}
use Rattle.masks.specs.Bit.{bit}
use Rattle.masks.proofs.BitLaws.{bit-or, bit-pow, bit_past}
use Rattle.masks.proofs.PowerLaws.{or-pow, ones-or}
use Rattle.advice.specs.Sets.{sets}
use Rattle.advising.specs.Chosen.{chosen, down_from}

-- what is chosen of an ascending list is one
pub chosen-all : (p : ℕ → Bool) (l : List ℕ) (m : ℕ) → all p l ≡ true → all p (chosen l m) ≡ true
unfolding chosen
chosen-all p [] m h = refl
chosen-all p (x ∷ l) m h = go (bit m (length l)) (chosen-all p l m (and_r (p x) (all p l) h))
  where
    go : (b : Bool) → all p (chosen l m) ≡ true → all p (kept b x (chosen l m)) ≡ true
    go true r = and_both (p x) (all p (chosen l m)) (and_l (p x) (all p l) h) r
    go false r = r

pub chosen-rising : (l : List ℕ) (m : ℕ) → Rising l → Rising (chosen l m)
unfolding chosen
chosen-rising [] m r = tt
chosen-rising (x ∷ l) m r = go (bit m (length l)) (chosen-rising l m r.1)
  where
    go : (b : Bool) → Rising (chosen l m) → Rising (kept b x (chosen l m))
    go true s = (chosen-all (ltb x) l m r.0, s)
    go false s = s

map_same : {A B : Type 0} (f g : A → B) (l : List A) → ((x : A) → x ∈ l → f x ≡ g x) → map f l ≡ map g l
map_same f g [] h = refl
map_same {B = B} f g (x ∷ l) h =
    ap₂ (λ (y : B) (m : List B). y ∷ m) (h x (Memᴰ.head refl)) (map_same f g l (λ y m. h y (Memᴰ.tail m)))

map-append : {A B : Type 0} (f : A → B) (l m : List A) → map f (l ++ m) ≡ map f l ++ map f m
map-append f [] m = refl
map-append {B = B} f (x ∷ l) m = ap (λ (k : List B). f x ∷ k) (map-append f l m)

-- downward from a sum
down-add : (a b : ℕ) → down_from (a + b) ≡ map (λ m. m + b) (down_from a) ++ down_from b
unfolding down_from
down-add zero b = let e : 0 + b ≡ b = omega arith in ap down_from e
down-add (suc a) b =
    let e : suc a + b ≡ suc (a + b) = omega arith in
    ap down_from e ∙ ap (λ (l : List ℕ). (a + b) ∷ l) (down-add a b)

down-below : (n m : ℕ) → m ∈ down_from n → m < n
unfolding down_from
down-below zero m i = absurd (Memᴰ.not-nil i)
down-below (suc n) m i = ⊎_elim (λ (e : m ≡ n). omega arith) (λ j. omega (arith, down-below n m j)) (Memᴰ.cases_cons i)

-- a mask with the bit j besides
module _ (m j : ℕ) (off : bit m j ≡ false) where
  top : bit (m + 2 ^ j) j ≡ true
  top =
      ap (λ (z : ℕ). bit z j) (sym (or-pow m j off)) ∙ bit-or m (2 ^ j) j
      ∙ ap (λ (b : Bool). bit m j || b) (bit-pow j j ∙ eq-eqb j j refl) ∙ or-true (bit m j)

  lower : (i : ℕ) → i < j → bit (m + 2 ^ j) i ≡ bit m i
  lower i l =
      ap (λ (z : ℕ). bit z i) (sym (or-pow m j off)) ∙ bit-or m (2 ^ j) i
      ∙ ap (λ (b : Bool). bit m i || b) (bit-pow j i ∙ ne_eqb j i (omega arith)) ∙ or-false (bit m i)

  -- it chooses the same of a list that doesn't look at that bit
  chosen-lower : (l : List ℕ) → length l ≤ j → chosen l (m + 2 ^ j) ≡ chosen l m
  unfolding chosen
  chosen-lower [] h = refl
  chosen-lower (x ∷ l) h =
      ap₂ (λ (c : Bool) (r : List ℕ). kept c x r) (lower (length l) (omega arith)) (chosen-lower l (omega arith))

-- One entry more: the masks with the highest bit choose it, those without don't.
module _ (x : ℕ) (l : List ℕ) (m : ℕ) (h : m < 2 ^ length l) where
  off : bit m (length l) ≡ false
  off = bit_past (length l) m (length l) h (omega arith)

  chosen-without : chosen (x ∷ l) m ≡ chosen l m
  unfolding chosen
  chosen-without = ap (λ (c : Bool). kept c x (chosen l m)) off

  chosen-with : chosen (x ∷ l) (m + 2 ^ length l) ≡ x ∷ chosen l m
  unfolding chosen
  chosen-with = ap₂ (λ (c : Bool) (r : List ℕ). kept c x r) (top m (length l) off) (chosen-lower m (length l) off l (omega arith))

-- all sets, in their order
pub sets-masks : (l : List ℕ) → sets l ≡ map (chosen l) (down_from (2 ^ length l))
unfolding sets chosen down_from
sets-masks [] = refl
sets-masks (x ∷ l) =
    ap₂ (λ (a b : List (List ℕ)). a ++ b) (firsts (sets-masks l)) (others (sets-masks l))
    ∙ sym (map-append (chosen (x ∷ l)) (map (λ m. m + 2 ^ n) (down_from (2 ^ n))) (down_from (2 ^ n)))
    ∙ ap (map (chosen (x ∷ l))) (sym (down-add (2 ^ n) (2 ^ n)) ∙ ap down_from double)
  where
    n : ℕ
    n = length l

    double : 2 ^ n + 2 ^ n ≡ 2 ^ suc n
    double = omega arith

    firsts : sets l ≡ map (chosen l) (down_from (2 ^ n)) →
        map (λ s. x ∷ s) (sets l) ≡ map (chosen (x ∷ l)) (map (λ m. m + 2 ^ n) (down_from (2 ^ n)))
    firsts h =
        ap (map (λ s. x ∷ s)) h ∙ map-map (λ s. x ∷ s) (chosen l) (down_from (2 ^ n))
        ∙ map_same (λ m. x ∷ chosen l m) (λ m. chosen (x ∷ l) (m + 2 ^ n)) (down_from (2 ^ n))
        (λ m i. sym (chosen-with x l m (down-below (2 ^ n) m i)))
        ∙ sym (map-map (chosen (x ∷ l)) (λ m. m + 2 ^ n) (down_from (2 ^ n)))

    others : sets l ≡ map (chosen l) (down_from (2 ^ n)) → sets l ≡ map (chosen (x ∷ l)) (down_from (2 ^ n))
    others h =
        h ∙ map_same (chosen l) (chosen (x ∷ l)) (down_from (2 ^ n)) (λ m i. sym (chosen-without x l m (down-below (2 ^ n) m i)))

ones-zero : ones 0 ≡ 0
unfolding ones
ones-zero = refl

-- a set has as many entries as its mask has ones
pub chosen-ones : (l : List ℕ) (m : ℕ) → m < 2 ^ length l → ones m ≡ length (chosen l m)
unfolding chosen
chosen-ones [] m h = let e : m ≡ 0 = omega arith in ap ones e ∙ ones-zero
chosen-ones (x ∷ l) m h = go (ltb m (2 ^ n)) refl (chosen-ones l)
  where
    n : ℕ
    n = length l

    go : (b : Bool) → ltb m (2 ^ n) ≡ b → ((a : ℕ) → a < 2 ^ n → ones a ≡ length (chosen l a)) → ones m ≡ length (chosen (x ∷ l) m)
    go true e later = let i = ltb-true m (2 ^ n) e in later m i ∙ ap length (sym (chosen-without x l m i))
    go false e later =
        let all : m < 2 ^ suc n = h in
        let low : m - 2 ^ n < 2 ^ n = omega (arith, ltb-false m (2 ^ n) e, all) in
        let whole : m - 2 ^ n + 2 ^ n ≡ m = omega (arith, ltb-false m (2 ^ n) e) in
        subst (λ (z : ℕ). ones z ≡ length (chosen (x ∷ l) z)) whole
        (ap ones (sym (or-pow (m - 2 ^ n) n (off x l (m - 2 ^ n) low))) ∙ ones-or (m - 2 ^ n) n (off x l (m - 2 ^ n) low)
        ∙ ap suc (later (m - 2 ^ n) low) ∙ ap length (sym (chosen-with x l (m - 2 ^ n) low)))
