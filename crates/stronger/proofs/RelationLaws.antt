-- What the relation says of two tables, as the rules look at them.
use Prim.Native.Nat.{ℕ, zero, suc}
use mathlib.Core.Path.{◌≡◌, refl, sym, ap, ◌∙◌, fun_ext}
use mathlib.Core.Bool.{Bool, true, false, cond, ◌||◌, false≢true}
use mathlib.Core.List.{List, [], ◌∷◌}
use lib.Bits.{bit_or}
use lib.Dec.{eqb}
use lib.ListN.{get_or}
use borrow.Author.Tests.{eqb-true}
use Rattle.lists.proofs.BoolLaws.{and_l, and_r, or-taken, implied}
use Rattle.masks.specs.Bit.{bit}
use Rattle.masks.proofs.BitLaws.{bit-or, bit-zero}
use Rattle.table.specs.declared.Event.{Event}
use Rattle.table.specs.declared.Table.{Table}
use Rattle.table.specs.Events.{no_event, event, kind, hart, location, reads, writes, memory, memory_kind, fencing_kind, fence}
use Rattle.table.specs.Annotations.{flags, acquiring, releasing, acquire_sc, release_sc, rvtso, ztso, annotations, acquire, release, rcsc, address_depends, data_depends, control_depends}
use Rattle.model.specs.Returns.{initial_value}
use Rattle.model.specs.Claims.{in_model}
use Rattle.stronger.specs.Stronger.{within, stronger_annotations, stronger_flags, stronger_masks, same_access, same_values, stronger_event, pairwise, same_header, same_test, stronger}
use Rattle.stronger.proofs.ImpliesLaws.{Implies, same-implies, or-grows}
use Rattle.stronger.proofs.SameLaws.{Same}
use Rattle.stronger.proofs.GrowthLaws.{Grows}

within-bit : (m n k : ℕ) → within m n ≡ true → Implies (bit m k) (bit n k)
within-bit m n k h b =
    sym (ap (λ (x : ℕ). bit x k) (eqb-true (bit_or m n) n h)) ∙ bit-or m n k ∙ sym (or-taken (bit m k) (bit n k) b)

-- each entry of the first passes with that of the second, past the end too if the default does
pairwise-at : {A : Type 0} (p : A → A → Bool) (d : A) → p d d ≡ true → (l m : List A) → pairwise p l m ≡ true → (k : ℕ) →
    p (get_or l k d) (get_or m k d) ≡ true
pairwise-at p d z [] [] h k = z
pairwise-at p d z [] (y ∷ m) h k = absurd (false≢true h)
pairwise-at p d z (x ∷ l) [] h k = absurd (false≢true h)
pairwise-at p d z (x ∷ l) (y ∷ m) h zero = and_l (p x y) (pairwise p l m) h
pairwise-at p d z (x ∷ l) (y ∷ m) h (suc k) = pairwise-at p d z l m (and_r (p x y) (pairwise p l m) h) k

values_same : (l m : List ℕ) → pairwise eqb l m ≡ true → (x : ℕ) → get_or l x 0 ≡ get_or m x 0
values_same l m h x = eqb-true _ _ (pairwise-at eqb 0 refl l m h x)

-- one of two bits
abbrev either : (i j m : ℕ) → Bool
either i j m = bit m i || bit m j

-- what a model adds to what an event carries
abbrev added : ℕ → Event → ℕ
added model e = cond (eqb model rvtso) (ztso e.kind) 0

-- the annotations grow where both do
annotations-grow : (m n : ℕ) (d e : Event) (i j : ℕ) →
    Implies (either i j d.flags) (either i j e.flags) → Implies (either i j (added m d)) (either i j (added n e)) →
    Implies (either i j (annotations m d)) (either i j (annotations n e))
unfolding annotations
annotations-grow m n d e i j carried adds h =
    joined e.flags (added n e) ∙ or-grows carried adds (sym (joined d.flags (added m d)) ∙ h)
  where
    regroup : (a c b d : Bool) → ((a || c) || (b || d)) ≡ ((a || b) || (c || d))
    regroup true c b d = refl
    regroup false true true d = refl
    regroup false true false d = refl
    regroup false false b d = refl

    joined : (f z : ℕ) → either i j (bit_or f z) ≡ (either i j f || either i j z)
    joined f z = rw (bit-or f z i, bit-or f z j) (regroup (bit f i) (bit z i) (bit f j) (bit z j))

-- flags of memory events
module _ (f g : ℕ) (h : stronger_annotations f g ≡ true) where
  acquiring-grows : Implies (acquiring f) (acquiring g)
  unfolding stronger_annotations
  acquiring-grows = implied (acquiring f) (acquiring g) (search (and_l, and_r))

  releasing-grows : Implies (releasing f) (releasing g)
  unfolding stronger_annotations
  releasing-grows = implied (releasing f) (releasing g) (search (and_l, and_r))

  rcsc-grows : Implies (acquire_sc f || release_sc f) (acquire_sc g || release_sc g)
  unfolding stronger_annotations
  rcsc-grows =
      or-grows
      (implied (acquire_sc f) (acquire_sc g) (search (and_l, and_r)))
      (implied (release_sc f) (release_sc g) (search (and_l, and_r)))

-- The second table is at least as strong as the first.
module _ (t u : Table) (h : stronger t u ≡ true) where
  header : same_header t u ≡ true
  unfolding stronger same_test
  header = search (and_l, and_r)

  at : (k : ℕ) → stronger_event (event t k) (event u k) ≡ true
  unfolding stronger event stronger_event same_access same_values stronger_flags stronger_masks
  at = pairwise-at stronger_event no_event refl t.events u.events (search (and_l, and_r))

  same : Same t u
  unfolding stronger same_test same_header stronger_event same_access same_values initial_value kind hart location
  same = record {
    count = eqb-true _ _ (let q = header in search (and_l, and_r));
    locations = eqb-true _ _ (let q = header in search (and_l, and_r));
    stated = eqb-true _ _ (let q = header in search (and_l, and_r));
    initial = fun_ext (values_same t.initial u.initial (search (and_l, and_r)));
    finals = values_same t.finals u.finals (search (and_l, and_r));
    kind = fun_ext (λ k. eqb-true _ _ (let q = at k in search (and_l, and_r)));
    hart = fun_ext (λ k. eqb-true _ _ (let q = at k in search (and_l, and_r)));
    location = fun_ext (λ k. eqb-true _ _ (let q = at k in search (and_l, and_r)));
    read = λ k. eqb-true _ _ (let q = at k in search (and_l, and_r));
    written = λ k. eqb-true _ _ (let q = at k in search (and_l, and_r));
    operation = λ k. eqb-true _ _ (let q = at k in search (and_l, and_r));
    operand = λ k. eqb-true _ _ (let q = at k in search (and_l, and_r));
  }

  annotated : (e : ℕ) → memory t e ≡ true → stronger_annotations (event t e).flags (event u e).flags ≡ true
  unfolding stronger_event stronger_flags memory reads writes kind
  annotated e = let q = at e in implied (memory_kind (event t e).kind) _ (search (and_l, and_r))

  -- what the model adds is the same, so they grow where what is carried does
  carried-grows : (e i j : ℕ) → Implies (either i j (event t e).flags) (either i j (event u e).flags) →
      Implies (either i j (annotations t.model (event t e))) (either i j (annotations u.model (event u e)))
  unfolding same_header kind
  carried-grows e i j carried =
      annotations-grow t.model u.model (event t e) (event u e) i j carried
      (same-implies (λ n. either i j (cond (eqb (model n) rvtso) (ztso (same.kind n e)) 0)))
    where
      model : t.model ≡ u.model
      model = eqb-true _ _ (let q = header in search (and_l, and_r))

  fence-bits : (e : ℕ) → kind t e ≡ fence → within (event t e).flags (event u e).flags ≡ true
  unfolding stronger_event stronger_flags kind
  fence-bits e f = let q = at e in implied (fencing_kind (event t e).kind) _ (search (and_l, and_r)) (ap fencing_kind f)

  pub stronger-grows : Grows t u
  unfolding stronger_event stronger_masks flags acquire release rcsc address_depends data_depends control_depends
  stronger-grows = record {
    same = same;
    fence-bit = λ f k q. within-bit (event t f).flags (event u f).flags k (fence-bits f q);
    acquire = λ e m. carried-grows e 0 1 (acquiring-grows _ _ (annotated e m));
    release = λ e m. carried-grows e 2 3 (releasing-grows _ _ (annotated e m));
    rcsc = λ e m. carried-grows e 1 3 (rcsc-grows _ _ (annotated e m));
    address = λ b a. within-bit (event t b).addr (event u b).addr a (let q = at b in search (and_l, and_r));
    «data» = λ b a. within-bit (event t b).«data» (event u b).«data» a (let q = at b in search (and_l, and_r));
    control = λ b a. within-bit (event t b).ctrl (event u b).ctrl a (let q = at b in search (and_l, and_r));
  }

-- what model 1 adds, another model adds or doesn't
model-adds : (m : ℕ) (e : Event) (i j : ℕ) → Implies (either i j (added m e)) (either i j (added rvtso e))
model-adds m e i j = go (eqb m rvtso)
  where
    go : (b : Bool) → Implies (either i j (cond b (ztso e.kind) 0)) (either i j (ztso e.kind))
    go true h = h
    go false h = absurd (false≢true (rw (bit-zero i, bit-zero j) at h))

-- The same table in model 1.
module _ (t : Table) where
  model-annotations : (e i j : ℕ) →
      Implies (either i j (annotations t.model (event t e))) (either i j (annotations rvtso (event t e)))
  model-annotations e i j =
      annotations-grow t.model rvtso (event t e) (event t e) i j (λ h. h) (model-adds t.model (event t e) i j)

  pub model-grows : Grows t (in_model rvtso t)
  unfolding event kind hart location initial_value flags acquire release rcsc address_depends data_depends control_depends
  model-grows = record {
    same = record {
      count = refl;
      locations = refl;
      stated = refl;
      initial = refl;
      finals = λ x. refl;
      kind = refl;
      hart = refl;
      location = refl;
      read = λ e. refl;
      written = λ e. refl;
      operation = λ e. refl;
      operand = λ e. refl;
    };
    fence-bit = λ f k q h. h;
    acquire = λ e m. model-annotations e 0 1;
    release = λ e m. model-annotations e 2 3;
    rcsc = λ e m. model-annotations e 1 3;
    address = λ b a h. h;
    «data» = λ b a h. h;
    control = λ b a h. h;
  }
