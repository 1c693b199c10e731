-- Each row, from what is known of an event.
use Prim.Native.Nat.{ℕ, suc, ◌+◌, ◌^◌, ◌≤◌, ◌<◌}
use native.Mathlib.Numerals.{add-one}
use native.Mathlib.Omega.{arith}
use mathlib.Core.Path.{◌≡◌, refl, sym, ap, ap₂, ◌∙◌}
use mathlib.Core.Bool.{Bool, true, false, cond, ◌&&◌, ◌||◌, true≢false}
use lib.Bits.{bit_and, bit_or, bit_xor, or_zero_r}
use borrow.Author.Tests.{eq-eqb, ne_eqb, eqb-true, lt-ltb}
use lib.Count.{count_trailing_zeros}
use lib.Dec.{eqb}
use Rattle.masks.specs.Bit.{bit}
use Rattle.masks.specs.Parts.{from, under, highest}
use Rattle.masks.proofs.PowerLaws.{and_pow, and-pow-set}
use Rattle.masks.proofs.PartLaws.{up_to}
use Rattle.table.specs.declared.Event.{Event}
use Rattle.table.specs.declared.Table.{Table}
use Rattle.table.specs.Events.{capacity, store, lr, sc, reading_kind, writing_kind, event, kind, reads, writes}
use Rattle.order_facts.specs.Facts.{mask_by, opens, own_writer, needed, here, peers}
use Rattle.order_facts.proofs.RowLaws.{bits_of, mask-same, mask-both}
use Rattle.order_facts.proofs.RowLaws.{hart_of, own_row, here-row, peer-row, needs-row, guard-row}
use Rattle.order_facts.proofs.WindowRowLaws.{rereader, overwriter, rereaders-set, overwriters-set}
use Rattle.order_facts.proofs.WindowRowLaws.{window-none, window-all, window-first}
use Rattle.order_facts.proofs.WindowRowLaws.{window-pair, window-unpaired, paired-by-window, unpaired-by-window}
use Rattle.order_facts.proofs.WindowRowLaws.{ground-own, ground-unpaired, ground-set}
use Rattle.order_facts.proofs.PairRowLaws.{reserver, reservers-set, unpaired-other, unpaired-none}
use Rattle.order_facts.proofs.PairRowLaws.{nearest-event, nearest-paired, nearest-unpaired}
use Rattle.fact_rows.specs.declared.Around.{Around}
use Rattle.fact_rows.specs.Around.{Known, Row, GuardRow, RereadRow, PairRow, WindowRow, GroundRow}

-- of the LRs and SCs the LRs read
lr-reads : (x : ℕ) → ((eqb x lr || eqb x sc) && reading_kind x) ≡ eqb x lr
lr-reads x = go (eqb x lr) (eqb x sc) refl refl
  where
    go : (b c : Bool) → eqb x lr ≡ b → eqb x sc ≡ c → ((b || c) && reading_kind x) ≡ b
    go true c h i = ap reading_kind (eqb-true x lr h)
    go false true h i = ap reading_kind (eqb-true x sc i)
    go false false h i = refl

module _ (a : Around) where
  reads-is : (t : Table) → Known t a → reading_kind a.event.kind ≡ reads t a.number
  unfolding reads kind
  reads-is t k = ap (λ (x : Event). reading_kind x.kind) k.here

  writes-is : (t : Table) → Known t a → writing_kind a.event.kind ≡ writes t a.number
  unfolding writes kind
  writes-is t k = ap (λ (x : Event). writing_kind x.kind) k.here

  -- the row that stands there if a test passes, else none
  if-row : (b : Bool) (r s : ℕ) → b ≡ true → r ≡ s → r ≡ cond b s 0
  if-row true r s h q = q
  if-row false r s h q = absurd (true≢false (sym h))

  else-row : (b : Bool) (s : ℕ) → b ≡ false → 0 ≡ cond b s 0
  else-row true s h = absurd (true≢false h)
  else-row false s h = refl

  pub own-some : (u r : ℕ) → reading_kind a.event.kind ≡ true → u ≡ under a.number a.hart →
      r ≡ bit_and (bit_and a.writers a.place) u → Row own_writer a r
  own-some u r h q e t k =
      if-row (reads t a.number) r _ (sym (reads-is t k) ∙ h)
      (e ∙ ap₂ bit_and (ap₂ bit_and k.writers k.place) (q ∙ ap (under a.number) k.hart))
      ∙ sym (own_row t a.number)

  pub own-none : reading_kind a.event.kind ≡ false → Row own_writer a 0
  own-none h t k = else-row (reads t a.number) _ (sym (reads-is t k) ∙ h) ∙ sym (own_row t a.number)

  pub here-some : (r : ℕ) → writing_kind a.event.kind ≡ true → r ≡ bit_and a.readers a.place → Row here a r
  here-some r h e t k =
      if-row (writes t a.number) r _ (sym (writes-is t k) ∙ h) (e ∙ ap₂ bit_and k.readers k.place)
      ∙ sym (here-row t a.number)

  pub here-none : writing_kind a.event.kind ≡ false → Row here a 0
  here-none h t k = else-row (writes t a.number) _ (sym (writes-is t k) ∙ h) ∙ sym (here-row t a.number)

  pub peer-some : (b r : ℕ) → writing_kind a.event.kind ≡ true → b ≡ 2 ^ a.number →
      r ≡ bit_xor (bit_and a.writers a.place) (bit_and (bit_and a.writers a.place) b) → Row peers a r
  peer-some b r h q e t k =
      if-row (writes t a.number) r _ (sym (writes-is t k) ∙ h)
      (e ∙ ap₂ (λ (x y : ℕ). bit_xor x (bit_and x y)) (ap₂ bit_and k.writers k.place) q)
      ∙ sym (peer-row t a.number _ k.counted refl)

  pub peer-none : writing_kind a.event.kind ≡ false → Row peers a 0
  peer-none h t k = else-row (writes t a.number) _ (sym (writes-is t k) ∙ h) ∙ sym (peer-row t a.number _ k.counted refl)

  -- what its address or data depends on
  abbrev named : Table → ℕ
  named t = under t.count (bit_or (event t a.number).addr (event t a.number).«data»)

  named-is : (u : ℕ) → u ≡ under a.count (bit_or a.event.addr a.event.«data») → (t : Table) → Known t a →
      u ≡ named t
  named-is u q t k = q ∙ ap₂ (λ (n : ℕ) (x : Event). under n (bit_or x.addr x.«data»)) k.total k.here

  kind-is : (t : Table) → Known t a → a.event.kind ≡ kind t a.number
  unfolding kind
  kind-is t k = ap (λ (x : Event). x.kind) k.here

  pub needs-plain : (u : ℕ) → u ≡ under a.count (bit_or a.event.addr a.event.«data») → a.event.kind ≡ store →
      Row needed a u
  needs-plain u q h t k =
      named-is u q t k ∙ sym (or_zero_r _)
      ∙ ap (λ (b : Bool). bit_or (named t) (cond b 0 (2 ^ a.number)))
      (sym (eq-eqb (kind t a.number) store (sym (kind-is t k) ∙ h)))
      ∙ sym (needs-row t a.number k.counted)

  pub needs-itself : (u b r : ℕ) → u ≡ under a.count (bit_or a.event.addr a.event.«data») → b ≡ 2 ^ a.number →
      (a.event.kind ≡ store → ⊥) → r ≡ bit_or u b → Row needed a r
  needs-itself u b r q p h e t k =
      e ∙ ap₂ bit_or (named-is u q t k) p
      ∙ ap (λ (c : Bool). bit_or (named t) (cond c 0 (2 ^ a.number)))
      (sym (ne_eqb (kind t a.number) store (λ i. h (kind-is t k ∙ i))))
      ∙ sym (needs-row t a.number k.counted)

  pub guard-some : (windows l r : ℕ) → writing_kind a.event.kind ≡ true → l ≡ bit_xor a.place (bit_and a.place a.hart) →
      r ≡ bit_and l windows → GuardRow windows a r
  guard-some windows l r h q e t k g =
      if-row (writes t a.number) r _ (sym (writes-is t k) ∙ h)
      (e ∙ ap (λ (x : ℕ). bit_and x windows) (q ∙ ap₂ (λ (x y : ℕ). bit_xor x (bit_and x y)) k.place k.hart))
      ∙ sym (guard-row t a.number windows g)

  pub guard_none : (windows : ℕ) → writing_kind a.event.kind ≡ false → GuardRow windows a 0
  guard_none windows h t k g =
      else-row (writes t a.number) _ (sym (writes-is t k) ∙ h) ∙ sym (guard-row t a.number windows g)

  room : (t : Table) → Known t a → t.count ≤ capacity
  room t k = omega (arith, k.small)

  -- what reads again
  pub reread-none : reading_kind a.event.kind ≡ false → RereadRow a 0
  reread-none h t k w = sym (window-none t (room t k) a.number w (sym (reads-is t k) ∙ h))

  module _ (h : reading_kind a.event.kind ≡ true) (later again stops : ℕ) (q : later ≡ from (a.number + 1) a.hart)
      (g : again ≡ bit_and (bit_and a.readers a.place) later) (s : stops ≡ bit_and (bit_and a.writers a.place) later) where
    later-is : (t : Table) → Known t a → later ≡ from (suc a.number) (hart_of t a.number)
    later-is t k = q ∙ ap₂ from (add-one a.number) k.hart

    again-is : (t : Table) (k : Known t a) → again ≡ mask_by t (rereader t (room t k) a.number)
    again-is t k =
        g ∙ ap₂ bit_and (ap₂ bit_and k.readers k.place) (later-is t k) ∙ sym (rereaders-set t (room t k) a.number)

    stops-is : (t : Table) (k : Known t a) → stops ≡ mask_by t (overwriter t (room t k) a.number)
    stops-is t k =
        s ∙ ap₂ bit_and (ap₂ bit_and k.writers k.place) (later-is t k) ∙ sym (overwriters-set t (room t k) a.number)

    pub reread-all : stops ≡ 0 → RereadRow a again
    reread-all z t k w =
        again-is t k ∙ sym (window-all t (room t k) a.number w (sym (reads-is t k) ∙ h) (sym (stops-is t k) ∙ z))

    pub reread-first : (stops ≡ 0 → ⊥) → (first u b r : ℕ) → first ≡ count_trailing_zeros 32 stops → u ≡ under first again →
        b ≡ 2 ^ first → r ≡ bit_or u (bit_and again b) → RereadRow a r
    reread-first z first u b r f p i e t k w =
        e ∙ ap₂ (λ (x y : ℕ). bit_or x (bit_and again y)) p i ∙ up_to first again ∙ ap (under (suc first)) (again-is t k)
        ∙ sym (window-first t (room t k) a.number w (sym (reads-is t k) ∙ h) (λ o. z (stops-is t k ∙ o)) first
        (f ∙ ap (count_trailing_zeros 32) (stops-is t k)))

  -- the LR of an SC
  pub pair-other : (reserving lrs : ℕ) → (a.event.kind ≡ sc → ⊥) → PairRow reserving lrs a 0
  pair-other reserving lrs h t k p l w =
      sym (window-unpaired t (room t k) a.number w
      (unpaired-other t (room t k) a.number (ne_eqb (kind t a.number) sc (λ e. h (kind-is t k ∙ e)))))

  module _ (h : a.event.kind ≡ sc) (reserving lrs u before : ℕ) (q : u ≡ under a.number a.hart)
      (b : before ≡ bit_and reserving u) where
    before-is : (t : Table) (k : Known t a) → reserving ≡ mask_by t (λ k. eqb (kind t k) lr || eqb (kind t k) sc) →
        before ≡ mask_by t (reserver t (room t k) a.number)
    before-is t k p =
        b ∙ ap₂ bit_and p (q ∙ ap (under a.number) k.hart) ∙ sym (reservers-set t (room t k) a.number)

    pub pair-none : before ≡ 0 → PairRow reserving lrs a 0
    pair-none z t k p l w =
        sym (window-unpaired t (room t k) a.number w
        (unpaired-none t (room t k) a.number (sym (before-is t k p) ∙ z)))

    pub pair-nearest : (before ≡ 0 → ⊥) → (n o r : ℕ) → n ≡ highest before → o ≡ 2 ^ n → r ≡ bit_and lrs o →
        PairRow reserving lrs a r
    pair-nearest z n o r f i e t k p l w =
        e ∙ ap₂ bit_and l i ∙ go (eqb (kind t n) lr) refl
      where
        some-before : mask_by t (reserver t (room t k) a.number) ≡ 0 → ⊥
        some-before c = z (before-is t k p ∙ c)

        top : n ≡ highest (mask_by t (reserver t (room t k) a.number))
        top = f ∙ ap highest (before-is t k p)

        counted : n < t.count
        counted = nearest-event t (room t k) a.number some-before n top

        is-lr : bit (mask_by t (λ k. eqb (kind t k) lr)) n ≡ eqb (kind t n) lr
        is-lr = bits_of t (λ k. eqb (kind t k) lr) n ∙ ap (λ (x : Bool). x && eqb (kind t n) lr) (lt-ltb n t.count counted)

        go : (c : Bool) → eqb (kind t n) lr ≡ c → bit_and (mask_by t (λ k. eqb (kind t k) lr)) (2 ^ n) ≡ mask_by t (opens t a.number)
        go true c =
            and-pow-set _ n (is-lr ∙ c)
            ∙ sym (window-pair t (room t k) a.number w n counted
            (nearest-paired t (room t k) a.number some-before n top
            (eq-eqb (kind t a.number) sc (sym (kind-is t k) ∙ h)) c))
        go false c =
            and_pow _ n (is-lr ∙ c)
            ∙ sym (window-unpaired t (room t k) a.number w (nearest-unpaired t (room t k) a.number some-before n top c))

  -- of the LRs and SCs those that read are the LRs
  lrs-are : (reserving : ℕ) (t : Table) → Known t a → reserving ≡ mask_by t (λ k. eqb (kind t k) lr || eqb (kind t k) sc) →
      bit_and reserving a.readers ≡ mask_by t (λ k. eqb (kind t k) lr)
  unfolding reads
  lrs-are reserving t k p =
      ap₂ bit_and p k.readers ∙ sym (mask-both t (λ k. eqb (kind t k) lr || eqb (kind t k) sc) (reads t))
      ∙ mask-same t (λ k. (eqb (kind t k) lr || eqb (kind t k) sc) && reads t k) (λ k. eqb (kind t k) lr)
      (λ k l. lr-reads (kind t k))

  pub window-writer : (reserving lrs r : ℕ) → writing_kind a.event.kind ≡ true → lrs ≡ bit_and reserving a.readers →
      PairRow reserving lrs a r → WindowRow reserving a r
  window-writer reserving lrs r h q p t k e = p t k e (q ∙ lrs-are reserving t k e) (sym (writes-is t k) ∙ h)

  pub window-other : (reserving r : ℕ) → writing_kind a.event.kind ≡ false → RereadRow a r → WindowRow reserving a r
  window-other reserving r h p t k e = p t k (sym (writes-is t k) ∙ h)

  -- what has to be placed before the window is open
  pub ground-other : (window r : ℕ) → writing_kind a.event.kind ≡ false → Row own_writer a r → GroundRow window a r
  ground-other window r h p t g k q = p t k ∙ sym (ground-own t (room t k) a.number (sym (writes-is t k) ∙ h))

  pub ground-none : (window : ℕ) → writing_kind a.event.kind ≡ true → window ≡ 0 → GroundRow window a 0
  ground-none window h z t g k q =
      let w : writes t a.number ≡ true = sym (writes-is t k) ∙ h in
      sym (ground-unpaired t (room t k) a.number w (unpaired-by-window t (room t k) a.number w (sym q ∙ z)))

  pub ground-writer : (window l u r : ℕ) → writing_kind a.event.kind ≡ true → (window ≡ 0 → ⊥) →
      l ≡ count_trailing_zeros 32 window → u ≡ under l a.hart → r ≡ bit_and (bit_and a.writers a.place) u → GroundRow window a r
  ground-writer window l u r h z f i e t g k q =
      let w : writes t a.number ≡ true = sym (writes-is t k) ∙ h in
      let p = paired-by-window t (room t k) a.number w (λ o. z (q ∙ o)) l (f ∙ ap (count_trailing_zeros 32) q) in
      e ∙ ap₂ bit_and (ap₂ bit_and k.writers k.place) (i ∙ ap (under l) k.hart)
      ∙ sym (ground-set t (room t k) a.number w l p.0 p.1 (g.pairs l a.number p.0 k.counted p.1))
