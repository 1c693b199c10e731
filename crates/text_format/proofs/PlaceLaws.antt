-- A text is refused at the first byte that no legal text has there, by 20 exactly if one level more would let it stand.
use Prim.Native.Nat.{ℕ, suc}
use mathlib.Core.Path.{◌≡◌, refl, sym, ap, subst, ◌∙◌}
use mathlib.Core.Logic.{⊎_elim}
use mathlib.Core.List.{List, [], ◌∷◌, ◌++◌, append_assoc, append-nil}
use native.Mathlib.Omega.{arith}
use lib.ListN.{length, length-append}
use Rattle.text_format.specs.Bytes.{newline}
use Rattle.text_format.specs.Condition.{max_levels}
use Rattle.text_format.specs.Document.{Document, Legal, Begins}
use Rattle.text_format.specs.Reading.{ended, document_in, document, got, breach}
use Rattle.text_format.specs.Theorems.{Fault, FirstBreach}
use Rattle.text_format.proofs.LevelLaws.{part-condition}
use Rattle.text_format.proofs.PartLaws.{Any, Part, part_then, part-word}
use Rattle.text_format.proofs.ReadingLaws.{document-full, document-sound}
use Rattle.text_format.proofs.RowLaws.{part-lines, part-values}
use Rattle.text_format.proofs.SoundLaws.{breach-not-got, got-value, got-rest}
use Rattle.text_format.proofs.StopLaws.{SameFirst, Mend, Held, Halted, Reads, Next, got-not-breach, stop-reads}

abbrev End : List ℕ → Type 0
End s = s ≡ []

ended-end : (d : Document) (s : List ℕ) → s ≡ [] → ended d s ≡ got d s
ended-end d s e = subst (λ (l : List ℕ). ended d l ≡ got d l) (sym e) refl

ended-reads : (d : Document) (s : List ℕ) → Reads End (ended d) (ended d) s
ended-reads d [] = record {
  held = λ a r h. subst (λ (x : Document). Held End (ended d) (ended d) x [] r) (got-value h) (record {
    front = [];
    text = got-rest h;
    again = λ u f. absurd (subst (λ (l : List ℕ). SameFirst l u) (sym (got-rest h)) f);
    again⁺ = λ u f. absurd (subst (λ (l : List ℕ). SameFirst l u) (sym (got-rest h)) f);
    free = λ u f. ended-end d u f;
    free⁺ = λ u f. ended-end d u f;
  });
  halts = λ n r h. got-not-breach h;
}
ended-reads d (c ∷ s) = stop-reads End (ended d) (c ∷ s) refl (λ u h. bad u h)
    (record { tail = []; value = d; reads = λ s h. ended-end d s h })
  where
    bad : (u : List ℕ) → SameFirst (c ∷ s) u → ended d u ≡ breach 19 u
    bad [] h = absurd h
    bad (b ∷ u) h = refl

part-ended : (d : Document) → Part Any End (ended d) (ended d)
part-ended d = let n : Next Any End (ended d) = record {
  sample =
      record { tail = []; value = d; reads = λ s h. ended-end d s h };
  leads = λ u b s h e. tt;
} in
    record { next = n; next⁺ = n; reads = ended-reads d }

part-document : (most : ℕ) → Part Any End (document_in most) (document_in (suc most))
unfolding document_in
part-document most = part_then part-lines (λ es. part_then part-values (λ vs. part_then (part-condition most) (λ c.
    part_then (part-word newline [] refl) (λ _. part-ended (record { events = es; initial = vs; outcome = c })))))

begins : (most : ℕ) (p : List ℕ) → Mend End (document_in most) p → Begins most p
begins most p m = let w = document-sound most (p ++ (m.tail ++ [])) m.value [] (m.reads [] refl) in
    (m.tail ++ [], (m.value, w.0, w.1))

legal-read : (most : ℕ) (s : List ℕ) (n : ℕ) (r : List ℕ) → document_in most s ≡ breach n r → Legal most s → ⊥
legal-read most s n r h l = breach-not-got (sym h ∙ ap (document_in most) l.2 ∙ document-full most l.0 l.1)

-- where the same byte is refused whatever follows, no legal text has it there
none-begins : (most : ℕ) (p : List ℕ) (b n : ℕ) → ((u : List ℕ) → document_in most (p ++ (b ∷ u)) ≡ breach n (b ∷ u))
    → Begins most (p ++ (b ∷ [])) → ⊥
none-begins most p b n h g = legal-read most (p ++ (b ∷ []) ++ g.0) n (b ∷ g.0)
    (ap (document_in most) (append_assoc p (b ∷ []) g.0) ∙ h g.0) g.1

place_in : (most : ℕ) (s : List ℕ) (n : ℕ) (r : List ℕ) → document_in most s ≡ breach n r → (p : List ℕ) × (s ≡ p ++ r)
    × Begins most p × Fault most p n r
place_in most s n r h = let x = ((part-document most).reads s).halts n r h in
    (x.front, x.text, begins most x.front x.mend, fault r x h)
  where
    fault : (r : List ℕ) (x : Halted End (document_in most) (document_in (suc most)) n s r) → document_in most s ≡ breach n r
        → Fault most x.front n r
    fault [] x h = (x.mark, legal-read most x.front n [] (ap (document_in most) (sym (x.text ∙ append-nil x.front)) ∙ h))
    fault (b ∷ t) x h = (
      none-begins most x.front b n (λ u. x.again (b ∷ u) refl),
      (
        (λ e. begins (suc most) (x.front ++ (b ∷ [])) (x.mend⁺ e)),
        (λ g. ⊎_elim (λ e. absurd (none-begins (suc most) x.front b n (λ u. x.again⁺ e (b ∷ u) refl) g)) (λ e. e.0)
            x.mark),
      ),
      x.mark,
    )

pub breach-first : (s : List ℕ) (n : ℕ) (r : List ℕ) → document s ≡ breach n r → FirstBreach s n r
breach-first s n r h = let x = place_in max_levels s n r h in record {
  front = x.0;
  text = x.1;
  place = omega (arith, ap length x.1, length-append x.0 r);
  begins = x.2;
  fault = x.3;
}
