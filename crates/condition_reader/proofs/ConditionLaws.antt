-- A condition from the readers of its parts, and the words that were put into the buffer.
use Prim.Native.Nat.{ℕ, ◌+◌, ◌-◌, ◌≤◌, ◌<◌}
use native.Mathlib.Omega.{arith}
use mathlib.Core.Path.{◌≡◌, sym, ap, ◌∙◌}
use mathlib.Core.Bool.{Bool, true, false}
use mathlib.Core.List.{List, [], ◌∷◌, ◌++◌, append_assoc}
use lib.ListN.{length, drop, take, set, length-append}
use lib.Seq.{length-take-le, take-set-lt, set-append_seam}
use Rattle.std.specs.Prelude.{Result, Ok, Err}
use Rattle.text_format.specs.Bytes.{not_word, open_word, close_word}
use Rattle.text_format.specs.Condition.{Condition, joined, negated}
use Rattle.text_format.specs.Reading.{Read, word, joint, negation, bracket, got, breach}
use Rattle.condition_reader.specs.Words.{not_node, code, skip_word, joint_node}
use Rattle.condition_reader.specs.Steps.{Room, Goes, Skips, JointSays}
use Rattle.condition_reader.specs.declared.Breach.{Breach}
use Rattle.condition_reader.specs.declared.Step.{Step}
use Rattle.condition_reader.specs.declared.Joint.{Joint}
use Rattle.condition_reader.proofs.AtomLaws.{put}

-- another reader gives the same there
pub same-goes : (s before after : List ℕ) (f g : List ℕ → Read Condition) (c : Step) (r : Result Step Breach) → f (drop c.at s) ≡ g (drop c.at s) →
    Goes s before after g c r → Goes s before after f c r
same-goes s before after f g c (Ok r) e h = (h.0, e ∙ h.1, h.2, h.3, h.4)
same-goes s before after f g c (Err b) e h = (e ∙ h.0, h.1)

module _ (inner : List ℕ → Read Condition) (r : List ℕ) where
  -- `not ` and a condition
  module _ (t : List ℕ) where
    pub not-word : (n : ℕ) → word not_word r ≡ breach n t → negation inner r ≡ breach n t
    unfolding negation
    not-word n e = rw e

    module _ (e : word not_word r ≡ got [] t) (u : List ℕ) where
      pub not-inner : (n : ℕ) → inner t ≡ breach n u → negation inner r ≡ breach n u
      unfolding negation
      not-inner n f = rw (e, f)

      pub not-got : (c : Condition) → inner t ≡ got c u → negation inner r ≡ got (negated c) u
      unfolding negation
      not-got c f = rw (e, f)

  -- a bracket
  module _ (t₁ : List ℕ) where
    pub bracket-open : (n : ℕ) → word open_word r ≡ breach n t₁ → bracket inner r ≡ breach n t₁
    unfolding bracket
    bracket-open n e = rw e

    module _ (e₁ : word open_word r ≡ got [] t₁) (t₂ : List ℕ) where
      pub bracket-left : (n : ℕ) → inner t₁ ≡ breach n t₂ → bracket inner r ≡ breach n t₂
      unfolding bracket
      bracket-left n e = rw (e₁, e)

      module _ (left : Condition) (e₂ : inner t₁ ≡ got left t₂) (t₃ : List ℕ) where
        pub bracket-joint : (n : ℕ) → joint t₂ ≡ breach n t₃ → bracket inner r ≡ breach n t₃
        unfolding bracket
        bracket-joint n e = rw (e₁, e₂, e)

        module _ (b : Bool) (e₃ : joint t₂ ≡ got b t₃) (t₄ : List ℕ) where
          pub bracket-right : (n : ℕ) → inner t₃ ≡ breach n t₄ → bracket inner r ≡ breach n t₄
          unfolding bracket
          bracket-right n e = rw (e₁, e₂, e₃, e)

          module _ (right : Condition) (e₄ : inner t₃ ≡ got right t₄) (t₅ : List ℕ) where
            pub bracket-close : (n : ℕ) → word close_word t₄ ≡ breach n t₅ → bracket inner r ≡ breach n t₅
            unfolding bracket
            bracket-close n e = rw (e₁, e₂, e₃, e₄, e)

            pub bracket-got : word close_word t₄ ≡ got [] t₅ → bracket inner r ≡ got (joined b left right) t₅
            unfolding bracket
            bracket-got e = rw (e₁, e₂, e₃, e₄, e)

-- one more word was put into the buffer
abbrev Put : (before after : List ℕ) (w : ℕ) (c r : Step) → Type 0
Put before after w c r = (after ≡ set before c.len w) × (r.at ≡ c.at) × (r.len ≡ c.len + 1)

joined_words : (b : Bool) (ws : List ℕ) (l r : Condition) → ws ++ code l ++ (skip_word (joint_node b) (length (code r)) ∷ code r)
    ≡ ws ++ code (joined b l r)
unfolding code
joined_words true ws l r = append_assoc ws (code l) _
joined_words false ws l r = append_assoc ws (code l) _

module _ (s before mid : List ℕ) (inner : List ℕ → Read Condition) (c o l : Step) (room : Room s before c) (long : length mid ≡ length before)
    (g : Goes s before mid inner o (Ok l)) where
  -- `not ` and a condition
  module _ (f : Skips s not_word c (Ok o)) (after : List ℕ) (r : Step) (p : Put mid after not_node l r) where
    not-words : take r.len after ≡ take c.len before ++ code (negated g.0)
    unfolding code
    not-words =
        let h : l.len < length mid = omega (arith, room.short, room.long, room.fed, long, f.0.2, f.1, g.3, g.4) in
        rw (p.0, p.2, put mid l.len not_node h, g.2, f.1) (append_assoc (take c.len before) (code g.0) (not_node ∷ []))

    pub not-goes : Goes s before after (negation inner) c (Ok r)
    not-goes = (
      negated g.0,
      rw p.1 (not-got inner _ _ f.0.0 _ g.0 g.1),
      not-words,
      omega (arith, p.1, g.3),
      omega (arith, p.1, p.2, f.0.2, f.1, g.4),
    )

  -- a bracket: its connective's word stands between those of its sides
  module _ (f : Skips s open_word c (Ok o)) (j : Joint) (h : JointSays s l (Ok j)) (between end : List ℕ) (w : ℕ) (b r k : Step)
      (p : Put mid between w j.step b) (q : Goes s between end inner b (Ok r)) (u : Skips s close_word r (Ok k))
      (long' : length end ≡ length before) where
    fits : (j.step.len < length mid) × (r.len ≤ length end)
    fits =
        let n : j.step.len < length mid =
        omega (arith, room.short, room.long, room.fed, long, f.0.2, f.1, g.4, h.1, h.2, h.3) in
        (n, omega (arith, room.short, room.long, room.fed, long', f.0.2, f.1, g.4, h.2, h.3, p.1, p.2, q.3, q.4))

    -- those of the left side, one, and those of the right side
    sides : take r.len end ≡ take j.step.len mid ++ (w ∷ []) ++ code q.0
    sides =
        q.2 ∙ ap (λ (n : ℕ). take n between ++ code q.0) p.2
        ∙ ap (λ (x : List ℕ). take (j.step.len + 1) x ++ code q.0) p.0
        ∙ ap (λ (x : List ℕ). x ++ code q.0) (put mid j.step.len w fits.0)

    pub right-count : k.len ≡ j.step.len + 1 + length (code q.0)
    right-count =
        omega (
          arith,
          u.1,
          length-take-le r.len end fits.1,
          length-take-le j.step.len mid (omega (arith, fits.0)),
          ap length sides,
          length-append (take j.step.len mid ++ (w ∷ [])) (code q.0),
          length-append (take j.step.len mid) (w ∷ []),
        )

    module _ (after : List ℕ) (a : after ≡ set end j.step.len (skip_word (joint_node j.and) (k.len - j.step.len - 1))) where
      bracket-words : take k.len after ≡ take c.len before ++ code (joined j.and g.0 q.0)
      bracket-words =
          let n = j.step.len in
          let v = skip_word (joint_node j.and) (length (code q.0)) in
          let size : k.len - n - 1 ≡ length (code q.0) = omega (arith, right-count) in
          let seam : take n mid ++ (w ∷ []) ++ code q.0 ≡ take n mid ++ (w ∷ code q.0) = append_assoc (take n mid) (w ∷ []) (code q.0) in
          let i : n ≡ length (take n mid) = sym (length-take-le n mid (omega (arith, fits.0))) in
          ap (take k.len) (a ∙ ap (λ (x : ℕ). set end n (skip_word (joint_node j.and) x)) size)
          ∙ take-set-lt k.len end n v (omega (arith, right-count))
          ∙ ap (λ (x : List ℕ). set x n v) (ap (λ (x : ℕ). take x end) u.1 ∙ sides ∙ seam)
          ∙ ap (λ (x : ℕ). set (take n mid ++ (w ∷ code q.0)) x v) i
          ∙ set-append_seam (take n mid) w (code q.0) v
          ∙ ap (λ (x : List ℕ). x ++ (v ∷ code q.0)) (ap (λ (x : ℕ). take x mid) h.3 ∙ g.2 ∙ ap (λ (x : ℕ). take x before ++ code g.0) f.1)
          ∙ joined_words j.and (take c.len before) g.0 q.0

      pub bracket-goes : Goes s before after (bracket inner) c (Ok k)
      bracket-goes =
          let e = rw p.1 at q.1 in (
            joined j.and g.0 q.0,
            bracket-got inner _ _ f.0.0 _ g.0 g.1 _ j.and h.0 _ q.0 e _ u.0.0,
            bracket-words,
            u.0.1,
            omega (arith, f.0.2, f.1, g.4, h.2, h.3, p.1, p.2, q.4, u.0.2, u.1),
          )
