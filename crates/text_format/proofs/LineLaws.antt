-- Lines of numbers: what is read stood there, and what is printed is read back.
use Prim.Native.Nat.{ℕ, suc, ◌≤◌, zero, ◌<◌, ◌^◌}
use mathlib.Core.Path.{◌≡◌, refl, sym, ap, subst, ◌∙◌}
use mathlib.Core.Bool.{true, ◌&&◌, Bool, false, cond, false≢true}
use mathlib.Core.List.{List, [], ◌∷◌, ◌++◌, append_assoc}
use native.Mathlib.Omega.{arith}
use lib.ListN.{length, get_or, drop, length-append}
use lib.Dec.{leb, eqb, ltb}
use borrow.Author.Tests.{le-leb, leb-true, eqb-true, ltb-true}
use Rattle.lists.specs.Lists.{all}
use Rattle.lists.proofs.BoolLaws.{and_both, and_l, and_r}
use Rattle.text_format.specs.Bytes.{newline, space}
use Rattle.text_format.specs.Condition.{max_value, decimal}
use Rattle.text_format.specs.Document.{field_bounds, line_of, lines_of, within}
use Rattle.text_format.specs.Reading.{and_then, word, number, line, event_lines, values, got, breach}
use Rattle.text_format.proofs.BackLaws.{number-back}
use Rattle.text_format.proofs.SoundLaws.{breach-not-got, got-value, got-rest, through, number-sound, word_sound}

-- a bound of at least one digit and at most ten
abbrev fair : ℕ → Bool
fair m = leb 9 m && ltb m (10 ^ 10)

abbrev Fair : List ℕ → Type 0
Fair ms = all fair ms ≡ true

pub bounds-fair : Fair field_bounds
bounds-fair = refl

fair-parts : (m : ℕ) (ms : List ℕ) → Fair (m ∷ ms) → (9 ≤ m) × (m < 10 ^ 10) × Fair ms
fair-parts m ms h =
    let a = and_l (fair m) (all fair ms) h in (
      leb-true 9 m (and_l (leb 9 m) (ltb m (10 ^ 10)) a),
      ltb-true m (10 ^ 10) (and_r (leb 9 m) (ltb m (10 ^ 10)) a),
      and_r
          (fair m) (all fair ms) h,
    )

within-line : (n : ℕ) (ms : List ℕ) (v : ℕ) (vs : List ℕ) → within (n ∷ ms) vs ≡ true
    → line_of (v ∷ vs) ≡ decimal v ++ (space ∷ line_of vs)
unfolding within line_of
within-line n ms v [] h = absurd (false≢true h)
within-line n ms v (w ∷ vs) h = refl

more-line : (v : ℕ) (vs : List ℕ) → leb 1 (length vs) ≡ true → line_of (v ∷ vs) ≡ decimal v ++ (space ∷ line_of vs)
unfolding line_of
more-line v [] h = absurd (false≢true h)
more-line v (w ∷ vs) h = refl

last-sound : (m : ℕ) (s : List ℕ) (vs r : List ℕ) → 9 ≤ m → m < 10 ^ 10
    → and_then (number m s) (λ v r. and_then (word (newline ∷ []) r) (λ _ t. got (v ∷ []) t)) ≡ got vs r
    → (v : ℕ) × (vs ≡ v ∷ []) × (s ≡ decimal v ++ (newline ∷ r)) × (v ≤ m)
last-sound m s vs r f g h =
    let a = through (number m s) _ vs r h in
    let b = through (word (newline ∷ []) a.1) _ vs r a.3 in
    let x = number-sound m g s a.0 a.1 f a.2 in (
      a.0,
      sym (got-value b.3),
      x.0 ∙ ap (λ (l : List ℕ). decimal a.0 ++ l) (word_sound _ a.1 b.0 b.1 b.2 ∙ ap
          (λ (l : List ℕ). newline ∷ l) (got-rest b.3)),
      x.1,
    )

-- the sides of a line
one_line : (v : ℕ) (r : List ℕ) → decimal v ++ (newline ∷ r) ≡ line_of (v ∷ []) ++ r
unfolding line_of
one_line v r = sym (append_assoc (decimal v) (newline ∷ []) r)

pub line-sound : (ms : List ℕ) (m : ℕ) (s vs r : List ℕ) → Fair (m ∷ ms) → line (m ∷ ms) s ≡ got vs r
    → (s ≡ line_of vs ++ r) × (within (m ∷ ms) vs ≡ true)
unfolding line within
line-sound [] m s vs r g h =
    let f = fair-parts m [] g in
    let a = last-sound m s vs r f.0 f.1 h in (
      a.2 ∙ one_line a.0 r ∙ ap (λ (l : List ℕ). line_of l ++ r) (sym a.1),
      subst (λ (l : List ℕ). within (m ∷ []) l ≡ true) (sym a.1) (and_both _ _ (le-leb a.0 m a.3) refl),
    )
line-sound (n ∷ ms) m s vs r g h =
    let f = fair-parts m (n ∷ ms) g in
    let a = through (number m s) _ vs r h in
    let b = through (word (space ∷ []) a.1) _ vs r a.3 in
    let c = through (line (n ∷ ms) b.1) _ vs r b.3 in
    let x = number-sound m f.1 s a.0 a.1 f.0 a.2 in
    let i = line-sound ms n b.1 c.0 c.1 f.2 c.2 in
    let e : b.1 ≡ line_of c.0 ++ r = i.0 ∙ ap (λ (l : List ℕ). line_of c.0 ++ l) (got-rest c.3) in
    let y : a.1 ≡ space ∷ (line_of c.0 ++ r) = word_sound _ a.1 b.0 b.1 b.2 ∙ ap (λ (l : List ℕ). space ∷ l) e in
    let z : s ≡ line_of (a.0 ∷ c.0) ++ r =
    x.0 ∙ ap (λ (l : List ℕ). decimal a.0 ++ l) y
    ∙ sym (append_assoc (decimal a.0) (space ∷ line_of c.0) r) ∙ ap (λ (l : List ℕ). l ++ r)
    (sym (within-line n ms a.0 c.0 i.1)) in
    subst (λ (l : List ℕ). (s ≡ line_of l ++ r) × (within (m ∷ n ∷ ms) l ≡ true)) (got-value c.3)
    (z, and_both _ _ (le-leb a.0 m x.1) i.1)

pub first_byte : (s : List ℕ) (b : ℕ) → eqb (get_or s 0 0) (suc b) ≡ true → s ≡ suc b ∷ drop 1 s
first_byte [] b h = let z : 0 ≡ suc b = eqb-true 0 (suc b) h in absurd (omega arith)
first_byte (c ∷ s) b h = ap (λ (x : ℕ). x ∷ s) (eqb-true c (suc b) h)

pub lines-sound : (n : ℕ) (s : List ℕ) (ls : List (List ℕ)) (r : List ℕ) → event_lines n s ≡ got ls r
    → (s ≡ lines_of ls ++ (newline ∷ r)) × (all (within field_bounds) ls ≡ true)
unfolding event_lines lines_of
lines-sound zero s ls r h = breach-not-got h
lines-sound (suc n) s ls r h = go (eqb (get_or s 0 0) newline) refl h (λ t u v e. lines-sound n t u v e)
  where
    go : (t : Bool) → eqb (get_or s 0 0) newline ≡ t
        → cond t (got [] (drop 1 s)) (and_then (line field_bounds s) (λ l r. and_then (event_lines n r) (λ ls t. got (l ∷ ls) t)))
        ≡ got ls r
        → ((t : List ℕ) (u : List (List ℕ)) (v : List ℕ) → event_lines n t ≡ got u v → (t ≡ lines_of u ++ (newline ∷ v))
        × (all (within field_bounds) u ≡ true))
        → (s ≡ lines_of ls ++ (newline ∷ r)) × (all (within field_bounds) ls ≡ true)
    go true e h ih = subst (λ (x : List (List ℕ)). (s ≡ lines_of x ++ (newline ∷ r)) × (all (within field_bounds) x ≡ true))
        (got-value h)
        (first_byte s 9 e ∙ ap (λ (l : List ℕ). newline ∷ l) (got-rest h), refl)
    go false e h ih =
        let a = through (line field_bounds s) _ ls r h in
        let b = through (event_lines n a.1) _ ls r a.3 in
        let x = line-sound _ 255 s a.0 a.1 bounds-fair a.2 in
        let i = ih a.1 b.0 b.1 b.2 in
        let y : a.1 ≡ lines_of b.0 ++ (newline ∷ r) = i.0 ∙ ap (λ (l : List ℕ). lines_of b.0 ++ (newline ∷ l))
        (got-rest b.3) in
        subst (λ (x : List (List ℕ)). (s ≡ lines_of x ++ (newline ∷ r)) × (all (within field_bounds) x ≡ true)) (got-value b.3) (
          x.0 ∙ ap (λ (l : List ℕ). line_of a.0 ++ l) y ∙ sym
              (append_assoc (line_of a.0) (lines_of b.0) (newline ∷ r)),
          and_both _ _ x.1 i.1,
        )

pub record Values (vs s r : List ℕ) : Type 0 where
  pub text : s ≡ line_of vs ++ r
  pub some : leb 1 (length vs) ≡ true
  pub fit : all (λ v. leb v max_value) vs ≡ true

pub values-sound : (n : ℕ) (s vs r : List ℕ) → values n s ≡ got vs r → Values vs s r
unfolding values
values-sound zero s vs r h = breach-not-got h
values-sound (suc n) s vs r h =
    let a = through (number max_value s) _ vs r h in
    let x = number-sound max_value (omega arith) s a.0 a.1 (omega arith) a.2 in
    go a.0 a.1 x.0 x.1 (eqb (get_or a.1 0 0) space) refl a.3 (λ t u v e. values-sound n t u v e)
  where
    go : (v : ℕ) (u : List ℕ) → s ≡ decimal v ++ u → v ≤ max_value → (t : Bool) → eqb (get_or u 0 0) space ≡ t
        → cond t (and_then (values n (drop 1 u)) (λ vs t. got (v ∷ vs) t))
        (and_then (word (newline ∷ []) u) (λ _ t. got (v ∷ []) t)) ≡ got vs r
        → ((s vs r : List ℕ) → values n s ≡ got vs r → Values vs s r) → Values vs s r
    go v u x l true e h ih =
        let a = through (values n (drop 1 u)) _ vs r h in
        let i = ih (drop 1 u) a.0 a.1 a.2 in
        let y : u ≡ space ∷ (line_of a.0 ++ r) = first_byte u 31 e ∙ ap (λ (l : List ℕ). space ∷ l)
        (i.text ∙ ap (λ (l : List ℕ). line_of a.0 ++ l) (got-rest a.3)) in
        subst (λ (x : List ℕ). Values x s r) (got-value a.3) (record {
          text = x ∙ ap (λ (l : List ℕ). decimal v ++ l) y ∙ sym (append_assoc (decimal v) (space ∷ line_of a.0) r)
              ∙ ap (λ (l : List ℕ). l ++ r) (sym (more-line v a.0 i.some));
          some = le-leb 1 (suc (length a.0)) (omega arith);
          fit = and_both _ _ (le-leb v max_value l) i.fit;
        })
    go v u x l false e h ih =
        let b = through (word (newline ∷ []) u) _ vs r h in
        let y : u ≡ newline ∷ r = word_sound _ u b.0 b.1 b.2 ∙ ap (λ (l : List ℕ). newline ∷ l) (got-rest b.3) in
        subst (λ (x : List ℕ). Values x s r) (got-value b.3) (record {
          text = x ∙ ap (λ (l : List ℕ). decimal v ++ l) y ∙ one_line v r;
          some = refl;
          fit = and_both _ _ (le-leb v max_value l) refl;
        })

-- a line's text, then s
line-more : (v : ℕ) (vs s : List ℕ) → line_of (v ∷ vs) ≡ decimal v ++ (space ∷ line_of vs)
    → line_of (v ∷ vs) ++ s ≡ decimal v ++ (space ∷ (line_of vs ++ s))
line-more v vs s e = ap (λ (l : List ℕ). l ++ s) e ∙ append_assoc (decimal v) (space ∷ line_of vs) s

pub line-full : (ms : List ℕ) (m : ℕ) (vs s : List ℕ) → Fair (m ∷ ms) → within (m ∷ ms) vs ≡ true
    → line (m ∷ ms) (line_of vs ++ s) ≡ got vs s
unfolding line within word
line-full ms m [] s f h = absurd (false≢true h)
line-full [] m (v ∷ []) s g h =
    let f = fair-parts m [] g in
    let l : v ≤ m = leb-true v m (and_l (leb v m) true h) in
    ap (λ (t : List ℕ). line (m ∷ []) t) (sym (one_line v s)) ∙ rw (number-back m v (newline ∷ s) l (omega (arith, l, f.1)) refl)
line-full [] m (v ∷ w ∷ vs) s f h = absurd (false≢true (and_r (leb v m) false h))
line-full (n ∷ ms) m (v ∷ vs) s g h =
    let f = fair-parts m (n ∷ ms) g in
    let l : v ≤ m = leb-true v m (and_l (leb v m) (within (n ∷ ms) vs) h) in
    let k = and_r (leb v m) (within (n ∷ ms) vs) h in
    ap (λ (t : List ℕ). line (m ∷ n ∷ ms) t) (line-more v vs s (within-line n ms v vs k))
    ∙ rw (number-back m v (space ∷ (line_of vs ++ s)) l (omega (arith, l, f.1)) refl, line-full ms n vs s f.2 k)

no-number-1 : (m : ℕ) (t : List ℕ) → line (m ∷ []) (newline ∷ t) ≡ breach 19 (newline ∷ t)
unfolding line number
no-number-1 m t = refl

no-number-2 : (m n : ℕ) (ms t : List ℕ) → line (m ∷ n ∷ ms) (newline ∷ t) ≡ breach 19 (newline ∷ t)
unfolding line number
no-number-2 m n ms t = refl

-- no line begins with a newline
pub line_first : (ms : List ℕ) (m : ℕ) (s vs r : List ℕ) → line (m ∷ ms) s ≡ got vs r → eqb (get_or s 0 0) newline ≡ false
line_first ms m s vs r h = go (eqb (get_or s 0 0) newline) refl
  where
    bad : (ms : List ℕ) (t : List ℕ) → line (m ∷ ms) (newline ∷ t) ≡ breach 19 (newline ∷ t)
    bad [] t = no-number-1 m t
    bad (n ∷ ms) t = no-number-2 m n ms t

    go : (t : Bool) → eqb (get_or s 0 0) newline ≡ t → t ≡ false
    go false e = refl
    go true e = breach-not-got (sym (bad ms (drop 1 s)) ∙ ap (λ (u : List ℕ). line (m ∷ ms) u) (sym (first_byte s 9 e)) ∙ h)

pub lines-full : (n : ℕ) (ls : List (List ℕ)) (s : List ℕ) → length ls < n → all (within field_bounds) ls ≡ true
    → event_lines n (lines_of ls ++ (newline ∷ s)) ≡ got ls s
unfolding event_lines lines_of
lines-full zero ls s l h = absurd (omega arith)
lines-full (suc n) [] s l h = refl
lines-full (suc n) (v ∷ ls) s l h =
    let k : within field_bounds v ≡ true = and_l (within field_bounds v) (all (within field_bounds) ls) h in
    let e : line field_bounds (line_of v ++ (lines_of ls ++ (newline ∷ s))) ≡ got v (lines_of ls ++ (newline ∷ s)) =
    line-full _ 255 v (lines_of ls ++ (newline ∷ s)) bounds-fair k in
    ap (λ (t : List ℕ). event_lines (suc n) t) (append_assoc (line_of v) (lines_of ls) (newline ∷ s))
    ∙ rw (
      line_first _ 255 _ v _ e,
      e,
      lines-full n ls s (omega arith)
          (and_r (within field_bounds v) (all (within field_bounds) ls) h),
    )

pub values-full : (n : ℕ) (vs s : List ℕ) → length vs ≤ n → leb 1 (length vs) ≡ true → all (λ v. leb v max_value) vs ≡ true
    → values n (line_of vs ++ s) ≡ got vs s
unfolding values word
values-full n [] s l p h = absurd (false≢true p)
values-full zero (v ∷ vs) s l p h = absurd (omega arith)
values-full (suc n) (v ∷ []) s l p h =
    let m : v ≤ max_value = leb-true v max_value (and_l (leb v max_value) true h) in
    ap (λ (t : List ℕ). values (suc n) t) (sym (one_line v s)) ∙ rw
    (number-back max_value v (newline ∷ s) m (omega (arith, m)) refl)
values-full (suc n) (v ∷ w ∷ vs) s l p h =
    let m : v ≤ max_value = leb-true v max_value (and_l (leb v max_value) (all (λ v. leb v max_value) (w ∷ vs)) h) in
    let q : leb 1 (length (w ∷ vs)) ≡ true = le-leb 1 (suc (length vs)) (omega arith) in
    ap (λ (t : List ℕ). values (suc n) t) (line-more v (w ∷ vs) s (more-line v (w ∷ vs) q))
    ∙ rw (
      number-back max_value v (space ∷ (line_of (w ∷ vs) ++ s)) m (omega (arith, m)) refl,
      values-full n (w ∷ vs) s (omega arith) q (and_r (leb v max_value) (all (λ v. leb v max_value) (w ∷ vs)) h),
    )

-- no fewer bytes than numbers, nor than lines
line-long : (vs : List ℕ) → length vs ≤ length (line_of vs)
unfolding line_of
line-long [] = omega arith
line-long (v ∷ []) = omega (arith, length-append (decimal v) (newline ∷ []))
line-long (v ∷ w ∷ vs) = omega (arith, length-append (decimal v) (space ∷ line_of (w ∷ vs)), line-long (w ∷ vs))

pub line-some : (vs : List ℕ) → 1 ≤ length (line_of vs)
unfolding line_of
line-some [] = omega arith
line-some (v ∷ []) = omega (arith, length-append (decimal v) (newline ∷ []))
line-some (v ∷ w ∷ vs) = omega (arith, length-append (decimal v) (space ∷ line_of (w ∷ vs)))

lines_long : (ls : List (List ℕ)) → length ls ≤ length (lines_of ls)
unfolding lines_of
lines_long [] = omega arith
lines_long (l ∷ ls) = omega (arith, length-append (line_of l) (lines_of ls), lines_long ls, line-some l)

pub lines-fuel : (ls : List (List ℕ)) (s : List ℕ) → length ls < suc (length (lines_of ls ++ s))
lines-fuel ls s = omega (arith, length-append (lines_of ls) s, lines_long ls)

pub values-fuel : (vs s : List ℕ) → length vs ≤ suc (length (line_of vs ++ s))
values-fuel vs s = omega (arith, length-append (line_of vs) s, line-long vs)
