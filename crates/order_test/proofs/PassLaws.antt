-- Laws for one pass over an order: at entry i a test of it, by the mask of the i before it.
use Prim.Native.Nat.{ℕ, ◌+◌, ◌^◌, ◌≤◌, ◌<◌}
use native.Mathlib.Omega.{arith}
use native.Mathlib.Numerals.{add-one}
use mathlib.Core.Path.{◌≡◌, refl, sym, ap, ap₂, subst, ◌∙◌, fun_ext}
use mathlib.Core.Bool.{Bool, true, false, ◌&&◌, and-true}
use mathlib.Core.List.{List, [], ◌∷◌}
use lib.ListN.{length, get_or, take}
use lib.Seq.{take-take, take-suc, get_or-take, length-take-le}
use lib.Bits.{bit_and, bit_or, bit_xor, or_zero_l}
use lib.Dec.{eqb, ltb}
use borrow.Author.Tests.{ltb-true, eqb-true, eqb-false}
use Rattle.lists.specs.Below.{every}
use Rattle.lists.specs.Lists.{has}
use Rattle.lists.proofs.BoolLaws.{and_l, and_right, not-either, is_false}
use Rattle.lists.proofs.SomeLaws.{at_every, every-at}
use Rattle.lists.proofs.ListLaws.{all_get_d}
use Rattle.masks.specs.Bit.{bit}
use Rattle.masks.specs.MaskOf.{mask_of}
use Rattle.masks.proofs.MaskOfLaws.{mask-has}
use Rattle.masks.proofs.UnionLaws.{mask_append}
use Rattle.table.specs.declared.Table.{Table}
use Rattle.table.specs.Events.{capacity, memory}
use Rattle.model.specs.Axioms.{final_values}
use Rattle.model.specs.Witness.{is_memory_event, is_order, lawful, witness}
use Rattle.model.specs.Prefixes.{clean}
use Rattle.model.specs.Returns.{written_value, final_value}
use Rattle.placing.specs.Guards.{may_place, reads_stated}
use Rattle.placing.specs.Entries.{among, lawful_at, stated_at}
use Rattle.placing.proofs.EntryLaws.{lawful-entries, witness-entries}
use Rattle.order_facts.specs.Facts.{mask_by, here, right, good}
use Rattle.order_facts.proofs.GoodLaws.{good_more}
use Rattle.fact_rows.specs.FactRows.{mask, Facts, good_word, here_row, right_row, set_row}
use Rattle.order_test.specs.Testing.{Tells, TellsGood, Judges, Fitting}
use Rattle.order_test.proofs.TellLaws.{mask_is, standing}

-- all that is asked of entry i of a witness
unfoldable pub witness_at : Table → List ℕ → ℕ → Bool
witness_at t gmo i = lawful_at t gmo i && stated_at t gmo i

module _ (facts : List (List ℕ)) (order : List ℕ) (len : ℕ) where
  abbrev gmo : List ℕ
  gmo = take len order

  -- what holds of each table that has these facts, and of which this is a clean order
  abbrev pub Always : (Table → Type 0) → Type 0
  Always claim = (t : Table) → Facts t facts → is_order t gmo ≡ true → clean t gmo ≡ true → claim t

  -- placed is the mask of the first i entries
  abbrev pub Placed : ℕ → ℕ → Type 0
  Placed i placed = (i ≤ len) × (placed ≡ mask_of (take i order))

  -- now is the mask of the good behind the first i
  abbrev pub Good : ℕ → ℕ → Type 0
  Good i now = Always (λ t. now ≡ mask_by t (good t (final_value t (take i gmo))))

  pub good_start : Good 0 (mask facts set_row good_word)
  unfolding final_value written_value
  good_start t f o c = f.good ∙ ap (λ (v : ℕ → ℕ). mask_by t (good t v)) (fun_ext (λ x. refl))

  pub placed-start : Placed 0 0
  unfolding mask_of
  placed-start = (omega arith, refl)

  module _ (fit : Fitting order len) (i : ℕ) (l : i < len) where
    pub entry-is : get_or gmo i 0 ≡ get_or order i 0
    entry-is = get_or-take len order i 0 l

    long : length gmo ≡ len
    long = length-take-le len order (omega (arith, fit.long, fit.within))

    -- entry i is an event, with room in a mask
    pub entry-room : get_or order i 0 < capacity
    entry-room =
        subst (λ (e : ℕ). e < capacity) entry-is
        (ltb-true _ _ (all_get_d (λ e. ltb e capacity) gmo i fit.fitting (omega (arith, long))))

    pub entry-event : (t : Table) → is_order t gmo ≡ true → get_or order i 0 < t.count
    unfolding is_order is_memory_event
    entry-event t o =
        subst (λ (e : ℕ). e < t.count) entry-is
        (ltb-true _ _ (and_l _ (memory t (get_or gmo i 0)) (all_get_d (is_memory_event t) gmo i (and_l _ _ o) (omega (arith, long)))))

    pub placed-more : (placed b : ℕ) → Placed i placed → b ≡ 2 ^ get_or order i 0 → Placed (i + 1) (bit_or placed b)
    unfolding mask_of
    placed-more placed b s q = (
      omega arith,
      ap₂ bit_or s.1 (q ∙ sym (or_zero_l (2 ^ get_or order i 0))) ∙ sym (mask_append (take i order) (get_or order i 0 ∷ []))
          ∙ ap mask_of (sym (take-suc order i 0 (omega (arith, fit.long, fit.within)))
          ∙ ap (λ (n : ℕ). take n order) (sym (add-one i))),
    )

    -- the events among the first i are those of the mask
    pub among-mask : (placed : ℕ) → Placed i placed → among gmo i ≡ bit placed
    among-mask placed s =
        fun_ext (λ a. ap (has a) (take-take i len order (omega arith)) ∙ sym (mask-has (take i order) a)
        ∙ ap (λ (m : ℕ). bit m a) (sym s.1))

  -- The same of what is read of the order's front by itself.
  module _ (fit : Fitting order len) (i : ℕ) (l : i < length gmo) where
    inside : i < len
    inside = omega (arith, length-take-le len order (omega (arith, fit.long, fit.within)))

    abbrev e : ℕ
    e = get_or gmo i 0

    pub item-room : e < capacity
    item-room = rw (entry-is fit i inside) (entry-room fit i inside)

    pub item-event : (t : Table) → is_order t gmo ≡ true → e < t.count
    item-event t o = rw (entry-is fit i inside) (entry-event fit i inside t o)

    pub item-placed : (placed b : ℕ) → Placed i placed → b ≡ 2 ^ e → Placed (i + 1) (bit_or placed b)
    item-placed placed b s q = placed-more fit i inside placed b s (q ∙ ap (λ (x : ℕ). 2 ^ x) (entry-is fit i inside))

    -- what is told of the entry by the mask is the test at its place
    pub lawful-told : (placed : ℕ) (r : Bool) → Placed i placed →
        Tells facts e (λ t. may_place t (bit placed) e) r → Always (λ t. r ≡ lawful_at t gmo i)
    unfolding lawful_at
    lawful-told placed r s h t f o c =
        h t f (item-event t o) ∙ ap (λ (p : ℕ → Bool). may_place t p e) (sym (among-mask fit i inside placed s))

    -- the same of all that is asked of an entry of a witness
    pub witness-told : (placed now : ℕ) (r : Bool) → Placed i placed → Good i now →
        TellsGood facts now e (standing facts placed e) r → Always (λ t. r ≡ witness_at t gmo i)
    unfolding witness_at lawful_at stated_at
    witness-told placed now r s g h t f o c =
        h t f (item-event t o) (final_value t (take i gmo)) (g t f o c)
        ∙ ap (λ (p : ℕ → Bool). may_place t p e && reads_stated t p (final_value t (take i gmo)) e)
        (sym (among-mask fit i inside placed s))

    pub good-next : (now next : ℕ) → Good i now →
        next ≡ bit_or (bit_xor now (bit_and now (mask facts here_row e))) (mask facts right_row e) →
        Good (i + 1) next
    good-next now next g q t f o c =
        let n = item-event t o in
        q ∙ ap₂ (λ (x y : ℕ). bit_or (bit_xor now (bit_and now x)) y) (mask_is f here_row (here t) f.here _ n)
        (mask_is f right_row (right t) f.right _ n)
        ∙ ap (λ (x : ℕ). bit_or (bit_xor x (bit_and x (mask_by t (here t e)))) (mask_by t (right t e)))
        (g t f o c)
        ∙ sym (good_more t f.table.small (take i gmo) e n)
        ∙ ap (λ (p : List ℕ). mask_by t (good t (final_value t p)))
        (sym (take-suc gmo i 0 l) ∙ ap (λ (n : ℕ). take n gmo) (sym (add-one i)))

  -- A test that is one of every entry.
  module _ (test : Table → List ℕ → ℕ → Bool) where
    -- the first i entries pass
    abbrev pub Passing : ℕ → Type 0
    Passing i = (j : ℕ) → j < i → Always (λ t. test t gmo j ≡ true)

    pub pass-start : Passing 0
    pass-start j l = absurd (omega arith)

    pub pass-more : (i : ℕ) (r : Bool) → Passing i → Always (λ t. r ≡ test t gmo i) → r ≡ true → Passing (i + 1)
    pass-more i r s h q j l t f o c = go (eqb j i) refl
      where
        go : (b : Bool) → eqb j i ≡ b → test t gmo j ≡ true
        go true e = ap (test t gmo) (eqb-true j i e) ∙ sym (h t f o c) ∙ q
        go false e = s j (omega (arith, eqb-false j i e)) t f o c

    module _ (judge : Table → List ℕ → Bool) (each : Always (λ t. judge t gmo ≡ every (length gmo) (test t gmo))) where
      pub pass-fails : (i : ℕ) (r : Bool) → i < length gmo → Always (λ t. r ≡ test t gmo i) → r ≡ false →
          Judges facts gmo judge false
      pass-fails i r l h q t f o c =
          sym (each t f o c ∙ is_false _ (λ a. not-either _ (every-at (length gmo) (test t gmo) i a l) (sym (h t f o c) ∙ q)))

      pub pass-end : (i : ℕ) → length gmo ≤ i → Passing i → Judges facts gmo judge true
      pass-end i l s t f o c = sym (each t f o c ∙ at_every (length gmo) (test t gmo) (λ j k. s j (omega arith) t f o c))

  pub lawful-each : Always (λ t. lawful t gmo ≡ every (length gmo) (lawful_at t gmo))
  lawful-each t f o c = lawful-entries t gmo f.table o c

  -- where the final values are left, the rest is told by the entries
  pub witness-each : (r : Bool) → Judges facts gmo final_values r → r ≡ true →
      Always (λ t. witness t gmo ≡ every (length gmo) (witness_at t gmo))
  unfolding witness_at
  witness-each r h q t f o c =
      witness-entries t gmo f.table o c
      ∙ ap (λ (b : Bool). every (length gmo) (λ i. lawful_at t gmo i && stated_at t gmo i) && b) (sym (h t f o c) ∙ q) ∙ and-true _

  pub witness-ends : (r : Bool) → Judges facts gmo final_values r → r ≡ false → Judges facts gmo witness false
  witness-ends r h q t f o c =
      sym (witness-entries t gmo f.table o c
      ∙ and_right (every (length gmo) (λ i. lawful_at t gmo i && stated_at t gmo i)) _ (sym (h t f o c) ∙ q))
