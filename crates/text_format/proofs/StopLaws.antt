-- What a reader leaves behind at a breach, for any reader: a text that can be gone on with, and a byte that can't.
use Prim.Native.Nat.{ℕ}
use mathlib.Core.Path.{◌≡◌, refl, sym, ap, subst, ◌∙◌}
use mathlib.Core.Logic.{◌⊎◌, inl, inr, ⊎_elim}
use mathlib.Core.List.{List, [], ◌∷◌, ◌++◌, append_assoc}
use native.Mathlib.Omega.{arith}
use Rattle.text_format.specs.Bytes.{letter_n, open_bracket}
use Rattle.text_format.specs.Reading.{Read, and_then, got, breach}
use Rattle.text_format.proofs.SoundLaws.{breach-not-got, got-value, got-rest, through}

-- two texts that are not empty and begin with the same byte
abbrev pub SameFirst : List ℕ → List ℕ → Type 0
SameFirst [] s = ⊥
SameFirst (b ∷ r) [] = ⊥
SameFirst (b ∷ r) (c ∷ s) = c ≡ b

pub same-append : (p r s : List ℕ) → SameFirst r s → SameFirst (p ++ r) (p ++ s)
same-append [] r s h = h
same-append (b ∷ p) r s h = refl

pub same-cons : (c : ℕ) (r s : List ℕ) → SameFirst (c ∷ r) s → (u : List ℕ) × (s ≡ c ∷ u)
same-cons c r [] h = absurd h
same-cons c r (b ∷ s) h = (s, ap (λ (x : ℕ). x ∷ s) h)

abbrev pub first_of : List ℕ → List ℕ
first_of [] = []
first_of (b ∷ r) = b ∷ []

abbrev pub Mark : ℕ → List ℕ → Type 0
Mark n [] = n ≡ 19
Mark n (b ∷ r) = (n ≡ 19) ⊎ ((n ≡ 20) × ((b ≡ letter_n) ⊎ (b ≡ open_bracket)))

pub mark-19 : (r : List ℕ) → Mark 19 r
mark-19 [] = refl
mark-19 (b ∷ r) = inl refl

-- x can be gone on with so that something is read, whatever F allows behind
pub record Mend {A : Type 0} (F : List ℕ → Type 0) (R : List ℕ → Read A) (x : List ℕ) : Type 0 where
  pub tail : List ℕ
  pub value : A
  pub reads : (s : List ℕ) → F s → R (x ++ (tail ++ s)) ≡ got value s

-- q was read as a: so it is by R and by R⁺, with the same byte behind it, or with what F allows
pub record Held {A : Type 0} (F : List ℕ → Type 0) (R R⁺ : List ℕ → Read A) (a : A) (s r : List ℕ) : Type 0 where
  pub front : List ℕ
  pub text : s ≡ front ++ r
  pub again : (u : List ℕ) → SameFirst r u → R (front ++ u) ≡ got a u
  pub again⁺ : (u : List ℕ) → SameFirst r u → R⁺ (front ++ u) ≡ got a u
  pub free : (u : List ℕ) → F u → R (front ++ u) ≡ got a u
  pub free⁺ : (u : List ℕ) → F u → R⁺ (front ++ u) ≡ got a u

-- a breach behind p: R breaches there with that byte and any end, and R⁺ too if it is 19; p can be gone on with, and if it is 20,
-- p and the byte by R⁺
pub record Halted {A : Type 0} (F : List ℕ → Type 0) (R R⁺ : List ℕ → Read A) (n : ℕ) (s r : List ℕ) : Type 0 where
  pub front : List ℕ
  pub text : s ≡ front ++ r
  pub mark : Mark n r
  pub again : (u : List ℕ) → SameFirst r u → R (front ++ u) ≡ breach n u
  pub again⁺ : n ≡ 19 → (u : List ℕ) → SameFirst r u → R⁺ (front ++ u) ≡ breach n u
  pub mend : Mend F R front
  pub mend⁺ : n ≡ 20 → Mend F R⁺ (front ++ first_of r)

pub record Reads {A : Type 0} (F : List ℕ → Type 0) (R R⁺ : List ℕ → Read A) (s : List ℕ) : Type 0 where
  pub held : (a : A) (r : List ℕ) → R s ≡ got a r → Held F R R⁺ a s r
  pub halts : (n : ℕ) (r : List ℕ) → R s ≡ breach n r → Halted F R R⁺ n s r

-- a reader that may come next: it reads something, and what it reads may follow
pub record Next {B : Type 0} (G F : List ℕ → Type 0) (f : List ℕ → Read B) : Type 0 where
  pub sample : Mend F f []
  pub leads : (u : List ℕ) (b : B) (s : List ℕ) → F s → f u ≡ got b s → G u

pub got-not-breach : {A B : Type 0} {n : ℕ} {t r : List ℕ} {a : A} → got a r ≡ breach n t → B
got-not-breach e = let z : ◌≡◌ {A = ℕ} 0 1 = cc e in absurd (omega arith)

pub breach-number : {A : Type 0} {n m : ℕ} {t r : List ℕ} → ◌≡◌ {A = Read A} (breach n t) (breach m r) → n ≡ m
breach-number e = cc e

pub breach-rest : {A : Type 0} {n m : ℕ} {t r : List ℕ} → ◌≡◌ {A = Read A} (breach n t) (breach m r) → t ≡ r
breach-rest e = cc e

abbrev Ways : {A B : Type 0} → Read A → (A → List ℕ → Read B) → ℕ → List ℕ → Type 0
Ways {A} m f n r = (m ≡ breach n r) ⊎ ((a : A) × (t : List ℕ) × (m ≡ got a t) × (f a t ≡ breach n r))

stops : {A B : Type 0} (m : Read A) (f : A → List ℕ → Read B) (n : ℕ) (r : List ℕ) → and_then m f ≡ breach n r → Ways m f n r
stops (got a t) f n r h = inr (a, t, refl, h)
stops (breach k t) f n r h = inl (cc h)

module _ {A B : Type 0} (R : List ℕ → Read A) (f : A → List ℕ → Read B) where
  pub chain : (p q u : List ℕ) (a : A) (z : Read B) → R (p ++ (q ++ u)) ≡ got a (q ++ u) → f a (q ++ u) ≡ z
      → and_then (R (p ++ q ++ u)) f ≡ z
  chain p q u a z e h = ap (λ (l : List ℕ). and_then (R l) f) (append_assoc p q u) ∙ ap (λ (m : Read A). and_then m f) e ∙ h

  pub mend-then : (G F : List ℕ → Type 0) (x : List ℕ) → Mend G R x → ((a : A) → Next G F (f a)) → Mend F (λ s. and_then (R s) f) x
  mend-then G F x m k = let w = (k m.value).sample in record {
    tail = m.tail ++ w.tail;
    value = w.value;
    reads = λ s h.
        ap (λ (l : List ℕ). and_then (R (x ++ l)) f) (append_assoc m.tail w.tail s)
        ∙ ap (λ (m : Read A). and_then m f) (m.reads (w.tail ++ s)
        ((k m.value).leads (w.tail ++ s) w.value s h (w.reads s h)))
        ∙ w.reads s h;
  }

  pub mend-after : (G F : List ℕ → Type 0) (q y : List ℕ) (a : A) → ((u : List ℕ) → G u → R (q ++ u) ≡ got a u) → Mend F (f a) y
      → Next G F (f a)
      → Mend F (λ s. and_then (R s) f) (q ++ y)
  mend-after G F q y a e w k = record {
    tail = w.tail;
    value = w.value;
    reads = λ s h. chain q y (w.tail ++ s) a (got w.value s) (e (y ++ (w.tail ++ s))
        (k.leads (y ++ (w.tail ++ s)) w.value s h (w.reads s h))) (w.reads s h);
  }

module _ {A B : Type 0} (G F : List ℕ → Type 0) (R R⁺ : List ℕ → Read A) (f f⁺ : A → List ℕ → Read B) (s : List ℕ)
    (x : Reads G R R⁺ s)
    (y : (a : A) (t : List ℕ) → R s ≡ got a t → Reads F (f a) (f⁺ a) t) (k : (a : A) → Next G F (f a))
    (k⁺ : (a : A) → Next G F (f⁺ a)) where
  -- one reader behind another
  pub then-reads : Reads F (λ s. and_then (R s) f) (λ s. and_then (R⁺ s) f⁺) s
  then-reads = record {
    held = gets;
    halts = λ n r h. ⊎_elim (λ e. first n r e) (λ w. second n r w.0 w.1 w.2 w.3)
        (stops (R s) f n r h);
  }
    where
      joins : (p q t r : List ℕ) → s ≡ p ++ t → t ≡ q ++ r → s ≡ p ++ q ++ r
      joins p q t r e h = e ∙ ap (λ (l : List ℕ). p ++ l) h ∙ sym (append_assoc p q r)

      ahead : (q t r u : List ℕ) → t ≡ q ++ r → SameFirst r u → SameFirst t (q ++ u)
      ahead q t r u e h = subst (λ (l : List ℕ). SameFirst l (q ++ u)) (sym e) (same-append q r u h)

      gets : (b : B) (r : List ℕ) → and_then (R s) f ≡ got b r → Held F (λ s. and_then (R s) f) (λ s. and_then (R⁺ s) f⁺) b s r
      gets b r h =
          let w = through (R s) f b r h in
          let p = x.held w.0 w.1 w.2 in
          let q = (y w.0 w.1 w.2).held b r w.3 in
          record {
            front = p.front ++ q.front;
            text = joins p.front q.front w.1 r p.text q.text;
            again = λ u h. chain R f p.front q.front u w.0 (got b u)
                (p.again (q.front ++ u) (ahead q.front w.1 r u q.text h)) (q.again u h);
            again⁺ = λ u h. chain R⁺ f⁺ p.front q.front u w.0 (got b u)
                (p.again⁺ (q.front ++ u) (ahead q.front w.1 r u q.text h)) (q.again⁺ u h);
            free = λ u h. chain R f p.front q.front u w.0 (got b u)
                (p.free (q.front ++ u) ((k w.0).leads (q.front ++ u) b u h (q.free u h))) (q.free u h);
            free⁺ = λ u h. chain R⁺ f⁺ p.front q.front u w.0 (got b u)
                (p.free⁺ (q.front ++ u) ((k⁺ w.0).leads (q.front ++ u) b u h (q.free⁺ u h))) (q.free⁺ u h);
          }

      first : (n : ℕ) (r : List ℕ) → R s ≡ breach n r → Halted F (λ s. and_then (R s) f) (λ s. and_then (R⁺ s) f⁺) n s r
      first n r e = let p = x.halts n r e in record {
        front = p.front;
        text = p.text;
        mark = p.mark;
        again = λ u h. ap (λ (m : Read A). and_then m f) (p.again u h);
        again⁺ = λ i u h. ap (λ (m : Read A). and_then m f⁺) (p.again⁺ i u h);
        mend = mend-then R f G F p.front p.mend k;
        mend⁺ = λ i. mend-then R⁺ f⁺ G F (p.front ++ first_of r) (p.mend⁺ i) k⁺;
      }

      second : (n : ℕ) (r : List ℕ) (a : A) (t : List ℕ) → R s ≡ got a t → f a t ≡ breach n r
          → Halted F (λ s. and_then (R s) f) (λ s. and_then (R⁺ s) f⁺) n s r
      second n r a t e h =
          let p = x.held a t e in
          let q = (y a t e).halts n r h in
          record {
            front = p.front ++ q.front;
            text = joins p.front q.front t r p.text q.text;
            mark = q.mark;
            again = λ u h. chain R f p.front q.front u a (breach n u)
                (p.again (q.front ++ u) (ahead q.front t r u q.text h)) (q.again u h);
            again⁺ = λ i u h. chain R⁺ f⁺ p.front q.front u a (breach n u)
                (p.again⁺ (q.front ++ u) (ahead q.front t r u q.text h)) (q.again⁺ i u h);
            mend = mend-after R f G F p.front q.front a p.free q.mend (k a);
            mend⁺ = λ i. subst (λ (l : List ℕ). Mend F (λ s. and_then (R⁺ s) f⁺) l)
                (sym (append_assoc p.front q.front (first_of r)))
                (mend-after R⁺ f⁺ G F p.front (q.front ++ first_of r) a p.free⁺ (q.mend⁺ i) (k⁺ a));
          }

-- nothing more is read
pub done-reads : {A : Type 0} (F : List ℕ → Type 0) (a : A) (s : List ℕ) → Reads F (got a) (got a) s
done-reads F a s = record {
  held = λ b r h. subst (λ (c : _). Held F (got a) (got a) c s r) (got-value h) (record {
    front = [];
    text = got-rest h;
    again = λ u h. refl;
    again⁺ = λ u h. refl;
    free = λ u h. refl;
    free⁺ = λ u h. refl;
  });
  halts = λ n r h. got-not-breach h;
}

-- nothing may stand here, and what could is read by mend
pub stop-both : {A : Type 0} (F : List ℕ → Type 0) (R R⁺ : List ℕ → Read A) (s : List ℕ) → R s ≡ breach 19 s
    → ((u : List ℕ) → SameFirst s u → R u ≡ breach 19 u) → ((u : List ℕ) → SameFirst s u → R⁺ u ≡ breach 19 u) → Mend F R []
    → Reads F R R⁺ s
stop-both F R R⁺ s e g g⁺ m = record {
  held = λ a r h. breach-not-got (sym e ∙ h);
  halts = λ n r h. let i : n ≡ 19 = sym (breach-number (sym e ∙ h)) in let j : s ≡ r = breach-rest (sym e ∙ h) in
      subst (λ (k : ℕ). Halted F R R⁺ k s r) (sym i) (subst (λ (t : List ℕ). Halted F R R⁺ 19 s t) j (record {
        front = [];
        text = refl;
        mark = mark-19 s;
        again = g;
        again⁺ = λ _. g⁺;
        mend = m;
        mend⁺ = λ z. absurd (omega (arith, z));
      }));
}

pub stop-reads : {A : Type 0} (F : List ℕ → Type 0) (R : List ℕ → Read A) (s : List ℕ) → R s ≡ breach 19 s
    → ((u : List ℕ) → SameFirst s u → R u ≡ breach 19 u) → Mend F R [] → Reads F R R s
stop-reads F R s e g m = stop-both F R R s e g g m
