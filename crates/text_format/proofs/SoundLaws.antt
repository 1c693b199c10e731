-- What a reader gets stood at the front of the text, printed.
use Prim.Native.Nat.{ℕ, suc, ◌+◌, ◌≤◌, zero, ◌<◌, ◌-◌, ◌*◌, ◌/◌, ◌%◌, ◌^◌}
use mathlib.Core.Path.{◌≡◌, refl, sym, ap, subst, ◌∙◌}
use mathlib.Core.Bool.{true, ◌&&◌, Bool, false, cond}
use mathlib.Core.List.{List, [], ◌∷◌, ◌++◌, append_assoc}
use native.Mathlib.Nat.{pow-suc}
use native.Mathlib.Omega.{arith}
use lib.ListN.{get_or}
use lib.Dec.{leb, eqb, ltb}
use borrow.Author.Tests.{le-leb, eqb-true, le-ltb, lt-ltb}
use Rattle.lists.proofs.BoolLaws.{and_both}
use Rattle.text_format.specs.Bytes.{space, zero_digit, equals, letter_r, letter_x, letter_n, open_bracket, letter_o, not_word, open_word, and_word, or_word, close_word}
use Rattle.text_format.specs.Condition.{Condition, joined, deeper, levels, max_number, max_value, fits, decimal_in, decimal, printed, returns, ends}
use Rattle.text_format.specs.Reading.{Read, and_then, word, not_digit, may_not_follow, digits, number, atom, joint, negation, bracket, opening, condition, got, breach}
use Rattle.text_format.proofs.DecimalLaws.{digit-range, follows}

-- a breach is no value
pub breach-not-got : {A B : Type 0} {n : ℕ} {t r : List ℕ} {a : A} → breach n t ≡ got a r → B
breach-not-got e = let z : ◌≡◌ {A = ℕ} 0 1 = cc e in absurd (omega arith)

pub got-value : {A : Type 0} {a b : A} {s r : List ℕ} → got a s ≡ got b r → a ≡ b
got-value e = cc e

pub got-rest : {A : Type 0} {a b : A} {s r : List ℕ} → got a s ≡ got b r → s ≡ r
got-rest e = cc e

-- two readers in turn got b: the first got something, and the second b from there
pub through : {A B : Type 0} (m : Read A) (f : A → List ℕ → Read B) (b : B) (r : List ℕ) → and_then m f ≡ got b r
    → (a : A) × (t : List ℕ) × (m ≡ got a t) × (f a t ≡ got b r)
through (got a t) f b r h = (a, t, refl, h)
through (breach n t) f b r h = breach-not-got h

-- one place more changes nothing where the number has no more digits
decimal-wide : (k v : ℕ) → v < 10 ^ suc k → decimal_in (suc k) v ≡ decimal_in k v
unfolding decimal_in
decimal-wide zero v h = rw (lt-ltb v 10 (omega (arith, h))) refl
decimal-wide (suc k) v h =
    let e : 10 ^ suc (suc k) ≡ 10 ^ suc k * 10 = pow-suc 10 (suc k) in
    ap (λ (l : List ℕ). cond (ltb v 10) [] l ++ ((zero_digit + v % 10) ∷ [])) (decimal-wide k (v / 10) (omega arith))

-- a further digit
decimal-more : (v d : ℕ) → 0 < v → d < 10 → v < 10 ^ 9 → decimal (10 * v + d) ≡ decimal v ++ ((zero_digit + d) ∷ [])
unfolding decimal_in
decimal-more v d p q h =
    let a : (10 * v + d) / 10 ≡ v = omega arith in
    let b : (10 * v + d) % 10 ≡ d = omega arith in
    rw (le-ltb (10 * v + d) 10 (omega arith), a, b) (ap (λ (l : List ℕ). l ++ ((zero_digit + d) ∷ [])) (sym (decimal-wide 8 v h)))

back : (c : ℕ) → zero_digit ≤ c → zero_digit + (c - zero_digit) ≡ c
back c h = omega arith

module _ (most : ℕ) (m : most < 10 ^ 10) where
  digits-sound : (s : List ℕ) (v w : ℕ) (r : List ℕ) → v ≤ most → digits most v s ≡ got w r
      → (decimal v ++ s ≡ decimal w ++ r) × (w ≤ most)
  unfolding digits
  digits-sound [] v w r l h = (cc h, subst (λ (x : ℕ). x ≤ most) (got-value h) l)
  digits-sound (c ∷ s) v w r l h = go (not_digit c) refl (may_not_follow most v (c - zero_digit)) refl h
      (λ p e. digits-sound s (10 * v + (c - zero_digit)) w r p e)
    where
      go : (a : Bool) → not_digit c ≡ a → (b : Bool) → may_not_follow most v (c - zero_digit) ≡ b
          → cond a (got v (c ∷ s)) (cond b (breach 19 (c ∷ s)) (digits most (10 * v + (c - zero_digit)) s)) ≡ got w r
          → (10 * v + (c - zero_digit) ≤ most → digits most (10 * v + (c - zero_digit)) s ≡ got w r
          → (decimal (10 * v + (c - zero_digit)) ++ s ≡ decimal w ++ r) × (w ≤ most))
          → (decimal v ++ (c ∷ s) ≡ decimal w ++ r) × (w ≤ most)
      go true e b f h ih = (cc h, subst (λ (x : ℕ). x ≤ most) (got-value h) l)
      go false e true f h ih = breach-not-got h
      go false e false f h ih =
          let q = follows most v (c - zero_digit) f in
          let d = digit-range c e in
          let i = ih q.1 h in
          let t : decimal (10 * v + (c - zero_digit)) ≡ decimal v ++ (c ∷ []) =
          decimal-more v (c - zero_digit) q.0 (omega (arith, d.0, d.1)) (omega (arith, q.1, m))
          ∙ ap (λ (x : ℕ). decimal v ++ (x ∷ [])) (back c d.0) in
          (sym (append_assoc (decimal v) (c ∷ []) s) ∙ ap (λ (l : List ℕ). l ++ s) (sym t) ∙ i.0, i.1)

  decimal-one : (v : ℕ) → v < 10 → decimal v ≡ (zero_digit + v) ∷ []
  unfolding decimal_in
  decimal-one v h = let e : v % 10 ≡ v = omega arith in rw (lt-ltb v 10 h, e) refl

  pub number-sound : (s : List ℕ) (v : ℕ) (r : List ℕ) → 9 ≤ most → number most s ≡ got v r → (s ≡ decimal v ++ r) × (v ≤ most)
  unfolding number
  number-sound [] v r g h = breach-not-got h
  number-sound (c ∷ s) v r g h = go (not_digit c) refl h
    where
      go : (a : Bool) → not_digit c ≡ a → cond a (breach 19 (c ∷ s)) (digits most (c - zero_digit) s) ≡ got v r
          → (c ∷ s ≡ decimal v ++ r) × (v ≤ most)
      go true e h = breach-not-got h
      go false e h =
          let d = digit-range c e in
          let i = digits-sound s (c - zero_digit) v r (omega (arith, d.1)) h in (
            ap (λ (x : ℕ). x ∷ s) (sym (back c d.0)) ∙ ap (λ (l : List ℕ). l ++ s)
                (sym (decimal-one (c - zero_digit) (omega (arith, d.1)))) ∙ i.0,
            i.1,
          )

pub word_sound : (w s : List ℕ) (x r : List ℕ) → word w s ≡ got x r → s ≡ w ++ r
unfolding word
word_sound [] s x r h = got-rest h
word_sound (b ∷ w) [] x r h = breach-not-got h
word_sound (b ∷ w) (c ∷ s) x r h = go (eqb c b) refl h (λ e. word_sound w s x r e)
  where
    go : (t : Bool) → eqb c b ≡ t → cond t (word w s) (breach 19 (c ∷ s)) ≡ got x r → (word w s ≡ got x r → s ≡ w ++ r)
        → c ∷ s ≡ b ∷ (w ++ r)
    go true e h ih = ap (λ (y : ℕ). y ∷ s) (eqb-true c b e) ∙ ap (λ (l : List ℕ). b ∷ l) (ih h)
    go false e h ih = breach-not-got h

-- a condition of at most d levels, printed, stood in front
pub record Stood (d : ℕ) (c : Condition) (s r : List ℕ) : Type 0 where
  pub text : s ≡ printed c ++ r
  pub fit : fits c ≡ true
  pub deep : levels c ≤ d

pub atom-sound : (made : ℕ → ℕ → Condition) (s : List ℕ) (c : Condition) (r : List ℕ) → atom made s ≡ got c r
    → (k : ℕ) × (v : ℕ) × (c ≡ made k v) × (s ≡ decimal k ++ (equals ∷ (decimal v ++ r)))
    × ((leb k max_number && leb v max_value) ≡ true)
unfolding atom
atom-sound made s c r h =
    let a = through (number max_number s) _ c r h in
    let b = through (word (equals ∷ []) a.1) _ c r a.3 in
    let d = through (number max_value b.1) _ c r b.3 in
    let x = number-sound max_number (omega arith) s a.0 a.1 (omega arith) a.2 in
    let y = word_sound (equals ∷ []) a.1 b.0 b.1 b.2 in
    let z = number-sound max_value (omega arith) b.1 d.0 d.1 (omega arith) d.2 in
    let e : d.1 ≡ r = got-rest d.3 in (
      a.0,
      d.0,
      sym (got-value d.3),
      x.0 ∙ ap (λ (l : List ℕ). decimal a.0 ++ l) (y ∙ ap (λ (l : List ℕ). equals ∷ l)
          (z.0 ∙ ap (λ (l : List ℕ). decimal d.0 ++ l) e)),
      and_both _ _ (le-leb a.0 max_number x.1) (le-leb d.0 max_value z.1),
    )

-- how a connective is written
abbrev pub joint_text : Bool → List ℕ
joint_text true = space ∷ and_word
joint_text false = space ∷ or_word

pub joint-sound : (s : List ℕ) (b : Bool) (r : List ℕ) → joint s ≡ got b r → s ≡ joint_text b ++ r
unfolding joint
joint-sound s b r h = let a = through (word (space ∷ []) s) _ b r h in
    word_sound (space ∷ []) s a.0 a.1 a.2 ∙ ap (λ (l : List ℕ). space ∷ l)
    (go a.1 (eqb (get_or a.1 0 0) letter_o) a.3)
    ∙ tail_of b
  where
    rest : Bool → List ℕ
    rest true = and_word
    rest false = or_word

    tail_of : (b : Bool) → space ∷ (rest b ++ r) ≡ joint_text b ++ r
    tail_of true = refl
    tail_of false = refl

    go : (u : List ℕ) (t : Bool) → cond t (and_then (word or_word u) (λ _ t. got false t))
        (and_then (word and_word u) (λ _ t. got true t)) ≡ got b r
        → u ≡ rest b ++ r
    go u true h = let a = through (word or_word u) _ b r h in
        word_sound _ u a.0 a.1 a.2 ∙ ap (λ (l : List ℕ). or_word ++ l) (got-rest a.3)
        ∙ ap (λ (x : Bool). rest x ++ r) (got-value a.3)
    go u false h = let a = through (word and_word u) _ b r h in
        word_sound _ u a.0 a.1 a.2 ∙ ap (λ (l : List ℕ). and_word ++ l) (got-rest a.3)
        ∙ ap (λ (x : Bool). rest x ++ r) (got-value a.3)

deeper-le : (a b d : ℕ) → a ≤ d → b ≤ d → deeper a b ≤ d
deeper-le a b d l m = elim (ltb a b) as (λ t. cond t b a ≤ d) [ true ↦ m | false ↦ l ]

sides : (b : Bool) (l r : Condition) (s : List ℕ) → printed (joined b l r) ++ s ≡ open_word ++
    (printed l ++ (joint_text b ++ (printed r ++ (close_word ++ s))))
unfolding printed
sides true l r s = simp append_assoc
sides false l r s = simp append_assoc

joined-fits : (b : Bool) (l r : Condition) → fits l ≡ true → fits r ≡ true → fits (joined b l r) ≡ true
joined-fits true l r = and_both (fits l) (fits r)
joined-fits false l r = and_both (fits l) (fits r)

joined-levels : (b : Bool) (l r : Condition) (d : ℕ) → levels l ≤ d → levels r ≤ d → levels (joined b l r) ≤ suc d
joined-levels true l r d p q = let m = deeper-le (levels l) (levels r) d p q in omega arith
joined-levels false l r d p q = let m = deeper-le (levels l) (levels r) d p q in omega arith

module _ (d : ℕ) (inner : List ℕ → Read Condition) (ih : (s : List ℕ) (c : Condition) (r : List ℕ) → inner s ≡ got c r
    → Stood d c s r) where
  not_sound : (s : List ℕ) (c : Condition) (r : List ℕ) → negation inner s ≡ got c r → Stood (suc d) c s r
  unfolding negation printed
  not_sound s c r h =
      let a = through (word not_word s) _ c r h in
      let b = through (inner a.1) _ c r a.3 in
      let i = ih a.1 b.0 b.1 b.2 in
      let e : b.1 ≡ r = got-rest b.3 in
      let m : levels b.0 ≤ d = i.deep in
      subst (λ (x : Condition). Stood (suc d) x s r) (got-value b.3) (record {
        text = word_sound _ s a.0 a.1 a.2 ∙ ap (λ (l : List ℕ). not_word ++ l)
            (i.text ∙ ap (λ (l : List ℕ). printed b.0 ++ l) e);
        fit = i.fit;
        deep = omega (arith, m);
      })

  bracket-sound : (s : List ℕ) (c : Condition) (r : List ℕ) → bracket inner s ≡ got c r → Stood (suc d) c s r
  unfolding bracket
  bracket-sound s c r h =
      let a₁ = through (word open_word s) _ c r h in
      let a₂ = through (inner a₁.1) _ c r a₁.3 in
      let a₃ = through (joint a₂.1) _ c r a₂.3 in
      let a₄ = through (inner a₃.1) _ c r a₃.3 in
      let a₅ = through (word close_word a₄.1) _ c r a₄.3 in
      let i = ih a₁.1 a₂.0 a₂.1 a₂.2 in
      let j = ih a₃.1 a₄.0 a₄.1 a₄.2 in
      let e₅ : a₄.1 ≡ close_word ++ r = word_sound _ a₄.1 a₅.0 a₅.1 a₅.2
      ∙ ap (λ (l : List ℕ). close_word ++ l) (got-rest a₅.3) in
      let e₄ : a₃.1 ≡ printed a₄.0 ++ (close_word ++ r) = j.text ∙ ap (λ (l : List ℕ). printed a₄.0 ++ l) e₅ in
      let e₃ : a₂.1 ≡ joint_text a₃.0 ++ (printed a₄.0 ++ (close_word ++ r)) =
      joint-sound a₂.1 a₃.0 a₃.1 a₃.2 ∙ ap (λ (l : List ℕ). joint_text a₃.0 ++ l) e₄ in
      let e₂ : a₁.1 ≡ printed a₂.0 ++ (joint_text a₃.0 ++ (printed a₄.0 ++ (close_word ++ r))) =
      i.text ∙ ap (λ (l : List ℕ). printed a₂.0 ++ l) e₃ in
      subst (λ (x : Condition). Stood (suc d) x s r) (got-value a₅.3) (record {
        text = word_sound _ s a₁.0 a₁.1 a₁.2 ∙ ap (λ (l : List ℕ). open_word ++ l) e₂
            ∙ sym (sides a₃.0 a₂.0 a₄.0 r);
        fit = joined-fits a₃.0 a₂.0 a₄.0 i.fit j.fit;
        deep = joined-levels a₃.0 a₂.0 a₄.0 d i.deep j.deep;
      })

returns-sound : (d : ℕ) (s : List ℕ) (c : Condition) (r : List ℕ) → atom returns s ≡ got c r → Stood d c (letter_r ∷ s) r
unfolding printed
returns-sound d s c r h = let a = atom-sound returns s c r h in
    subst (λ (x : Condition). Stood d x (letter_r ∷ s) r) (sym a.2) (record {
      text = ap (λ (l : List ℕ). letter_r ∷ l) (a.3 ∙ sym (append_assoc (decimal a.0) (equals ∷ decimal a.1) r));
      fit = a.4;
      deep = omega arith;
    })

ends-sound : (d : ℕ) (s : List ℕ) (c : Condition) (r : List ℕ) → atom ends s ≡ got c r → Stood d c (letter_x ∷ s) r
unfolding printed
ends-sound d s c r h = let a = atom-sound ends s c r h in
    subst (λ (x : Condition). Stood d x (letter_x ∷ s) r) (sym a.2) (record {
      text = ap (λ (l : List ℕ). letter_x ∷ l) (a.3 ∙ sym (append_assoc (decimal a.0) (equals ∷ decimal a.1) r));
      fit = a.4;
      deep = omega arith;
    })

opening-sound : (d : ℕ) (onNot onBracket : List ℕ → Read Condition)
    → ((s : List ℕ) (c : Condition) (r : List ℕ) → onNot s ≡ got c r → Stood d c s r)
    → ((s : List ℕ) (c : Condition) (r : List ℕ) → onBracket s ≡ got c r → Stood d c s r)
    → (s : List ℕ) (c : Condition) (r : List ℕ) → opening onNot onBracket s ≡ got c r → Stood d c s r
unfolding opening
opening-sound d n b p q [] c r h = breach-not-got h
opening-sound d n b p q (x ∷ s) c r h = go (eqb x letter_r) refl (eqb x letter_x) refl (eqb x letter_n) (eqb x open_bracket) h
  where
    go : (t₁ : Bool) → eqb x letter_r ≡ t₁ → (t₂ : Bool) → eqb x letter_x ≡ t₂ → (t₃ t₄ : Bool)
        → cond t₁ (atom returns s) (cond t₂ (atom ends s) (cond t₃ (n (x ∷ s)) (cond t₄ (b (x ∷ s)) (breach 19 (x ∷ s)))))
        ≡ got c r
        → Stood d c (x ∷ s) r
    go true e t₂ f t₃ t₄ h = subst (λ (y : ℕ). Stood d c (y ∷ s) r) (sym (eqb-true x letter_r e)) (returns-sound d s c r h)
    go false e true f t₃ t₄ h = subst (λ (y : ℕ). Stood d c (y ∷ s) r) (sym (eqb-true x letter_x f)) (ends-sound d s c r h)
    go false e false f true t₄ h = p (x ∷ s) c r h
    go false e false f false true h = q (x ∷ s) c r h
    go false e false f false false h = breach-not-got h

-- a condition that was read stood there, printed, and has at most d levels
pub condition-sound : (d : ℕ) (s : List ℕ) (c : Condition) (r : List ℕ) → condition d s ≡ got c r → Stood d c s r
unfolding condition
condition-sound zero s c r h = opening-sound zero (breach 20) (breach 20) (λ s c r e. breach-not-got e)
    (λ s c r e. breach-not-got e) s c r h
condition-sound (suc d) s c r h =
    opening-sound (suc d) (negation (λ r. condition d r)) (bracket (λ r. condition d r))
    (not_sound d (λ r. condition d r) (λ s c r e. condition-sound d s c r e))
    (bracket-sound d (λ r. condition d r) (λ s c r e. condition-sound d s c r e)) s c r h
