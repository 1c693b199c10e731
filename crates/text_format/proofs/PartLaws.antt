-- Readers of which all that is claimed holds, and how they are put together.
use Prim.Native.Nat.{ℕ, ◌+◌, ◌-◌, ◌*◌}
use mathlib.Core.Path.{◌≡◌, refl, sym, ap, subst, ◌∙◌}
use mathlib.Core.Bool.{true, Bool, false}
use mathlib.Core.List.{List, [], ◌∷◌, ◌++◌}
use native.Mathlib.Omega.{arith}
use lib.Dec.{eqb}
use Rattle.text_format.specs.Bytes.{zero_digit, equals}
use Rattle.text_format.specs.Condition.{Condition, max_number, max_value, decimal}
use Rattle.text_format.specs.Reading.{Read, and_then, word, not_digit, may_not_follow, digits, number, atom, got, breach}
use Rattle.text_format.proofs.BackLaws.{no_digit, digits-done, number-back, word_back}
use Rattle.text_format.proofs.SoundLaws.{got-value, got-rest, through, word_sound}
use Rattle.text_format.proofs.StopLaws.{SameFirst, same-append, same-cons, Held, Reads, Next, got-not-breach, mend-then, then-reads, done-reads, stop-reads}

abbrev pub Any : List ℕ → Type 0
Any s = Unit {0}

abbrev pub NoDigit : List ℕ → Type 0
NoDigit s = no_digit s ≡ true

-- H: of what is read; F: what may follow
pub record Part {A : Type 0} (H F : List ℕ → Type 0) (R R⁺ : List ℕ → Read A) : Type 0 where
  pub next : Next H F R
  pub next⁺ : Next H F R⁺
  pub reads : (s : List ℕ) → Reads F R R⁺ s

pub next-then : {A B : Type 0} (H G F : List ℕ → Type 0) (R : List ℕ → Read A) (f : A → List ℕ → Read B)
    → Next H G R → ((a : A) → Next G F (f a)) → Next H F (λ s. and_then (R s) f)
next-then H G F R f x k = record {
  sample = mend-then R f G F [] x.sample k;
  leads = λ u b s h e. let w = through (R u) f b s e in x.leads u w.0 w.1 ((k w.0).leads w.1 b s h w.3) w.2;
}

pub part_then : {A B : Type 0} {H G F : List ℕ → Type 0} {R R⁺ : List ℕ → Read A} {f f⁺ : A → List ℕ → Read B}
    → Part H G R R⁺ → ((a : A) → Part G F (f a) (f⁺ a)) → Part H F (λ s. and_then (R s) f) (λ s. and_then (R⁺ s) f⁺)
part_then {H = H} {G = G} {F = F} {R = R} {R⁺ = R⁺} {f = f} {f⁺ = f⁺} x k = record {
  next = next-then H G F R f x.next (λ a. (k a).next);
  next⁺ = next-then H G F R⁺ f⁺ x.next⁺ (λ a. (k a).next⁺);
  reads = λ s. then-reads G F R R⁺ f f⁺ s (x.reads s) (λ a t e. (k a).reads t) (λ a. (k a).next) (λ a. (k a).next⁺);
}

pub part-done : {A : Type 0} (F : List ℕ → Type 0) (a : A) → Part F F (got a) (got a)
part-done F a = let n : Next F F (got a) = record {
  sample = record { tail = []; value = a; reads = λ s h. refl };
  leads =
      λ u b s h e. subst F (sym (got-rest e)) h;
} in
    record { next = n; next⁺ = n; reads = λ s. done-reads F a s }

-- R is A where the first byte is that of s, and reads all that A reads
module _ {B : Type 0} (F : List ℕ → Type 0) (R R⁺ A A⁺ : List ℕ → Read B) (s : List ℕ) (e₀ : R s ≡ A s)
    (e : (u : List ℕ) → SameFirst s u → R u ≡ A u) (e⁺ : (u : List ℕ) → SameFirst s u → R⁺ u ≡ A⁺ u)
    (g : (u : List ℕ) (a : B) (r : List ℕ) → A u ≡ got a r → R u ≡ got a r)
    (g⁺ : (u : List ℕ) (a : B) (r : List ℕ) → A⁺ u ≡ got a r → R⁺ u ≡ got a r) where
  pub as-reads : Reads F A A⁺ s → Reads F R R⁺ s
  as-reads x = record {
    held = λ a r h. let p = x.held a r (sym e₀ ∙ h) in record {
      front = p.front;
      text = p.text;
      again = λ u h. e (p.front ++ u) (ahead p.front r u p.text h) ∙ p.again u h;
      again⁺ = λ u h. e⁺ (p.front ++ u) (ahead p.front r u p.text h) ∙ p.again⁺ u h;
      free = λ u h. g (p.front ++ u) a u (p.free u h);
      free⁺ = λ u h. g⁺ (p.front ++ u) a u (p.free⁺ u h);
    };
    halts = λ n r h. let p = x.halts n r (sym e₀ ∙ h) in record {
      front = p.front;
      text = p.text;
      mark = p.mark;
      again = λ u h. e (p.front ++ u) (ahead p.front r u p.text h) ∙ p.again u h;
      again⁺ = λ i u h. e⁺ (p.front ++ u) (ahead p.front r u p.text h) ∙ p.again⁺ i u h;
      mend = record { tail = p.mend.tail; value = p.mend.value; reads = λ u h. g _ _ u (p.mend.reads u h) };
      mend⁺ = λ i. record { tail = (p.mend⁺ i).tail; value = (p.mend⁺ i).value; reads = λ u h. g⁺ _ _ u ((p.mend⁺ i).reads u h) };
    };
  }
    where
      ahead : (q r u : List ℕ) → s ≡ q ++ r → SameFirst r u → SameFirst s (q ++ u)
      ahead q r u t h = subst (λ (l : List ℕ). SameFirst l (q ++ u)) (sym t) (same-append q r u h)

-- a byte, and then what A reads
pub cons-reads : {B : Type 0} (F : List ℕ → Type 0) (R A : List ℕ → Read B) (c : ℕ) (s : List ℕ)
    → ((u : List ℕ) → R (c ∷ u) ≡ A u) → Reads F A A s → Reads F R R (c ∷ s)
cons-reads F R A c s e x = record {
  held = λ a r h. let p = x.held a r (sym (e s) ∙ h) in record {
    front = c ∷ p.front;
    text = ap (λ (l : List ℕ). c ∷ l) p.text;
    again = λ u h. e (p.front ++ u) ∙ p.again u h;
    again⁺ = λ u h. e (p.front ++ u) ∙ p.again⁺ u h;
    free = λ u h. e (p.front ++ u) ∙ p.free u h;
    free⁺ = λ u h. e (p.front ++ u) ∙ p.free⁺ u h;
  };
  halts = λ n r h. let p = x.halts n r (sym (e s) ∙ h) in record {
    front = c ∷ p.front;
    text = ap (λ (l : List ℕ). c ∷ l) p.text;
    mark = p.mark;
    again = λ u h. e (p.front ++ u) ∙ p.again u h;
    again⁺ = λ i u h. e (p.front ++ u) ∙ p.again⁺ i u h;
    mend = record { tail = p.mend.tail; value = p.mend.value; reads = λ u h. e _ ∙ p.mend.reads u h };
    mend⁺ = λ i. record { tail = (p.mend⁺ i).tail; value = (p.mend⁺ i).value; reads = λ u h. e _ ∙ (p.mend⁺ i).reads u h };
  };
}

same_none : (c : ℕ) (s u : List ℕ) → not_digit c ≡ true → SameFirst (c ∷ s) u → no_digit u ≡ true
same_none c s u h e = let w = same-cons c s u e in ap no_digit w.1 ∙ h

digits-stop : (most v : ℕ) (s : List ℕ) → no_digit s ≡ true → Reads NoDigit (digits most v) (digits most v) s
digits-stop most v s h = record {
  held = λ a r e. let i = sym (digits-done most v s h) ∙ e in subst
      (λ (x : ℕ). Held NoDigit (digits most v) (digits most v) x s r) (got-value i) (record {
        front = [];
        text = got-rest i;
        again = λ u f. digits-done most v u (first s r u (got-rest i) h f);
        again⁺ = λ u f. digits-done most v u (first s r u (got-rest i) h f);
        free = digits-done most v;
        free⁺ = digits-done most v;
      });
  halts = λ n r e. got-not-breach (sym (digits-done most v s h) ∙ e);
}
  where
    first : (s r u : List ℕ) → s ≡ r → no_digit s ≡ true → SameFirst r u → no_digit u ≡ true
    first s [] u i h f = absurd f
    first s (c ∷ r) u i h f = same_none c r u (ap no_digit (sym i) ∙ h) f

pub digits-reads : (s : List ℕ) (most v : ℕ) → Reads NoDigit (digits most v) (digits most v) s
unfolding digits
digits-reads [] most v = digits-stop most v [] refl
digits-reads (c ∷ s) most v = go (not_digit c) refl (may_not_follow most v (c - zero_digit)) refl
    (digits-reads s most (10 * v + (c - zero_digit)))
  where
    go : (a : Bool) → not_digit c ≡ a → (b : Bool) → may_not_follow most v (c - zero_digit) ≡ b
        → Reads NoDigit (digits most (10 * v + (c - zero_digit))) (digits most (10 * v + (c - zero_digit))) s
        → Reads NoDigit (digits most v) (digits most v) (c ∷ s)
    go true e b f x = digits-stop most v (c ∷ s) e
    go false e true f x = stop-reads NoDigit (digits most v) (c ∷ s) (rw (e, f))
        (λ u h. let w = same-cons c s u h in subst (λ (l : List ℕ). digits most v l ≡ breach 19 l) (sym w.1) (rw (e, f)))
        (record { tail = []; value = v; reads = λ s h. digits-done most v s h })
    go false e false f x = cons-reads NoDigit (digits most v) (digits most (10 * v + (c - zero_digit))) c s (λ u. rw (e, f)) x

number-reads : (most : ℕ) (s : List ℕ) → Reads NoDigit (number most) (number most) s
unfolding number
number-reads most [] = stop-reads NoDigit (number most) [] refl (λ u h. absurd h)
    (record { tail = decimal 0; value = 0; reads = λ s h. number-back most 0 s (omega arith) (omega arith) h })
number-reads most (c ∷ s) = go (not_digit c) refl
  where
    go : (a : Bool) → not_digit c ≡ a → Reads NoDigit (number most) (number most) (c ∷ s)
    go true e = stop-reads NoDigit (number most) (c ∷ s) (rw e) (λ u h. let w = same-cons c s u h in
        subst (λ (l : List ℕ). number most l ≡ breach 19 l) (sym w.1) (rw e))
        (record { tail = decimal 0; value = 0; reads = λ s h. number-back most 0 s (omega arith) (omega arith) h })
    go false e = cons-reads NoDigit (number most) (digits most (c - zero_digit)) c s (λ u. rw e)
        (digits-reads s most (c - zero_digit))

pub part-number : (most : ℕ) → Part Any NoDigit (number most) (number most)
part-number most = let n : Next Any NoDigit (number most) = record {
  sample = record { tail = decimal 0; value = 0; reads = λ s h. number-back most 0 s (omega arith) (omega arith) h };
  leads = λ u b s h e. tt;
} in
    record { next = n; next⁺ = n; reads = number-reads most }

word-reads : (w s : List ℕ) → Reads Any (word w) (word w) s
unfolding word
word-reads [] s = done-reads Any [] s
word-reads (b ∷ w) [] = stop-reads Any (word (b ∷ w)) [] refl (λ u h. absurd h)
    (record { tail = b ∷ w; value = []; reads = λ s h. word_back (b ∷ w) s })
word-reads (b ∷ w) (c ∷ s) = go (eqb c b) refl (word-reads w s)
  where
    go : (a : Bool) → eqb c b ≡ a → Reads Any (word w) (word w) s → Reads Any (word (b ∷ w)) (word (b ∷ w)) (c ∷ s)
    go true e x = cons-reads Any (word (b ∷ w)) (word w) c s (λ u. rw e) x
    go false e x = stop-reads Any (word (b ∷ w)) (c ∷ s) (rw e) (λ u h. let w' = same-cons c s u h in
        subst (λ (l : List ℕ). word (b ∷ w) l ≡ breach 19 l) (sym w'.1) (rw e))
        (record { tail = b ∷ w; value = []; reads = λ s h. word_back (b ∷ w) s })

-- fixed bytes, the first of them no digit
pub part-word : (c : ℕ) (w : List ℕ) → not_digit c ≡ true → Part NoDigit Any (word (c ∷ w)) (word (c ∷ w))
part-word c w h = let n : Next NoDigit Any (word (c ∷ w)) = record {
  sample = record { tail = c ∷ w; value = []; reads = λ s h. word_back (c ∷ w) s };
  leads = λ u b s f e. ap no_digit (word_sound (c ∷ w) u b s e) ∙ h;
} in
    record { next = n; next⁺ = n; reads = word-reads (c ∷ w) }

-- nothing asked of the front
pub part-any : {A : Type 0} {H F : List ℕ → Type 0} {R R⁺ : List ℕ → Read A} → Part H F R R⁺ → Part Any F R R⁺
part-any x = record {
  next = record { sample = x.next.sample; leads = λ u b s h e. tt };
  next⁺ = record { sample = x.next⁺.sample; leads = λ u b s h e. tt };
  reads = x.reads;
}

pub part-atom : (made : ℕ → ℕ → Condition) → Part Any NoDigit (atom made) (atom made)
unfolding atom
part-atom made = part_then (part-number max_number) (λ k. part_then (part-word equals [] refl)
    (λ _. part_then (part-number max_value) (λ v. part-done NoDigit (made k v))))
