-- Whether a stated value is lost, by masks.
use Prim.Native.Nat.{ℕ, ◌^◌, ◌≤◌, ◌<◌}
use native.Mathlib.Omega.{arith}
use mathlib.Core.Path.{◌≡◌, refl, sym, ap, ap₂, ◌∙◌}
use mathlib.Core.Bool.{Bool, true, false, cond, not, ◌&&◌, ◌||◌, or-true, or-false}
use mathlib.Core.List.{List}
use lib.Bits.{bit_and, bit_xor}
use lib.Count.{count_trailing_zeros}
use lib.Dec.{eqb}
use borrow.Author.Tests.{ltb-true}
use Rattle.lists.specs.Below.{some, every}
use Rattle.lists.proofs.BoolLaws.{and_l, bool-ext}
use Rattle.lists.proofs.SomeLaws.{some_at, some-found, every-same}
use Rattle.masks.specs.Bit.{bit}
use Rattle.masks.proofs.MaskOfLaws.{mask_below}
use Rattle.masks.proofs.BelowLaws.{mask-within, mask-less}
use Rattle.masks.proofs.LeftLaws.{Left, left-hit, left-more, left_end}
use Rattle.masks.proofs.SetLaws.{bit-without}
use Rattle.table.specs.declared.Table.{Table}
use Rattle.table.specs.Events.{capacity, reads, writes}
use Rattle.order_facts.specs.Facts.{mask_by, here, right, reads_good, peers, wrong}
use Rattle.fact_rows.specs.FactRows.{mask, Facts, right_row, peer_row, set_row, wrong_word}
use Rattle.order_test.specs.Testing.{Tells, returns_good}
use Rattle.order_test.proofs.TellLaws.{mask_is, mask-bit}
use Rattle.states.specs.declared.State.{State}
use Rattle.states.specs.States.{without}
use Rattle.states.specs.Choices.{lost_read, lost_final, lost}
use Rattle.state_test.specs.Board.{Board, Says, FactsSay, Union, kind_row, writers_word, readers_word}
use Rattle.state_test.proofs.RestLaws.{Rest, rest-start, rest-lowest, rest_more}

-- where only numbers below n pass, a larger bound tells the same
some-counted : (n w : ℕ) (f g : ℕ → Bool) → n ≤ w → ((k : ℕ) → f k ≡ true → k < n) → ((k : ℕ) → k < n → f k ≡ g k) →
    some w f ≡ some n g
some-counted n w f g room inside same = bool-ext (some w f) (some n g) there back
  where
    there : some w f ≡ true → some n g ≡ true
    there h =
        let q = some-found w f h in
        let l = inside q.0 q.2 in
        some_at n g q.0 l (sym (same q.0 l) ∙ q.2)

    back : some n g ≡ true → some w f ≡ true
    back h =
        let q = some-found n g h in
        some_at w f q.0 (omega (arith, q.1, room)) (same q.0 q.1 ∙ q.2)

-- the bit of a set less another, and that only events are in it
bit-apart : (t : Table) (f : ℕ → Bool) (m b e : ℕ) → m ≡ without (mask_by t f) b → e < t.count → bit m e ≡ (f e && not (bit b e))
bit-apart t f m b e q l =
    ap (λ (x : ℕ). bit x e) q ∙ bit-without (mask_by t f) b e ∙ ap (λ (x : Bool). x && not (bit b e)) (mask-bit t f e l)

bit-counted : (t : Table) (f : ℕ → Bool) (m b e : ℕ) → m ≡ without (mask_by t f) b → bit m e ≡ true → e < t.count
unfolding mask_by
bit-counted t f m b e q h =
    ltb-true e t.count (and_l _ (f e)
    (sym (mask_below f t.count e)
    ∙ and_l _ (not (bit b e)) (sym (ap (λ (x : ℕ). bit x e) q ∙ bit-without (mask_by t f) b e) ∙ h)))

room : {t : Table} {facts : List (List ℕ)} → Facts t facts → t.count ≤ capacity
room f = omega (arith, f.table.small.events)

-- Final values.
module _ (facts : List (List ℕ)) (placed : ℕ) where
  -- every writer to w's location that is still to come writes a wrong final value
  abbrev pub spoiled : ℕ → Bool
  spoiled w =
      eqb (bit_and (without (mask facts peer_row w) placed) (mask facts set_row wrong_word)) (without (mask facts peer_row w) placed)

  pub spoiled-by : (w o : ℕ) (x : Bool) → o ≡ without (mask facts peer_row w) placed →
      x ≡ eqb (bit_and o (mask facts set_row wrong_word)) o → spoiled w ≡ x
  spoiled-by w o x p q = sym (q ∙ ap (λ (y : ℕ). eqb (bit_and y (mask facts set_row wrong_word)) y) p)

  spoiled-is : (t : Table) → Facts t facts → (w : ℕ) → w < t.count →
      spoiled w ≡ every t.count (λ v. not (peers t w v && not (bit placed v)) || wrong t v)
  unfolding mask_by
  spoiled-is t f w l =
      ap (λ (x : ℕ). eqb (bit_and x (mask facts set_row wrong_word)) x)
      (ap (λ (x : ℕ). without x placed) (mask_is f peer_row (peers t) f.peers w l) ∙ mask-less (peers t w) t.count placed)
      ∙ sym (mask-within (λ v. peers t w v && not (bit placed v)) t.count (mask facts set_row wrong_word))
      ∙ every-same t.count _ (λ v. not (peers t w v && not (bit placed v)) || wrong t v)
      (λ v i. ap (λ (b : Bool). not (peers t w v && not (bit placed v)) || b)
      (ap (λ (x : ℕ). bit x v) f.wrong ∙ mask-bit t (wrong t) v i))

  -- what the loop tells
  pub final-told : (m : ℕ) → m ≡ without (mask facts set_row wrong_word) placed → (b : Bool) →
      some capacity (λ w. bit m w && spoiled w) ≡ b → FactsSay facts (λ t. some t.count (lost_final t (bit placed))) b
  unfolding lost_final
  final-told m q b h t f =
      sym h ∙ some-counted t.count capacity (λ w. bit m w && spoiled w) (lost_final t (bit placed)) (room f)
      (λ w i. bit-counted t (wrong t) m placed w is (and_l _ (spoiled w) i))
      (λ w l. ap₂ (λ (x y : Bool). x && y) (bit-apart t (wrong t) m placed w is l) (spoiled-is t f w l))
    where
      is : m ≡ without (mask_by t (wrong t)) placed
      is = q ∙ ap (λ (x : ℕ). without x placed) f.wrong

-- Values read.
module _ (facts ties : List (List ℕ)) (s : State) where
  abbrev placed : ℕ
  placed = s.placed

  abbrev misreads : Table → ℕ → Bool
  misreads t r = not (reads_good t (bit placed) (bit s.good) r)

  -- some writer that is still to come has the value of r
  abbrev coming : Table → ℕ → Bool
  coming t r = some t.count (λ w. not (bit placed w) && right t w r)

  -- some reader is lost
  abbrev any_read : Table → Bool
  any_read t = some t.count (lost_read t (bit placed) (bit s.good))

  answered-is : (later a : ℕ) → later ≡ without (mask ties kind_row writers_word) placed → Union (mask facts right_row) later a →
      (t : Table) → Board t facts ties → (r : ℕ) → r < t.count → bit a r ≡ coming t r
  unfolding right here
  answered-is later a q u t f r l =
      u r ∙ some-counted t.count capacity (λ w. bit later w && bit (mask facts right_row w) r)
      (λ w. not (bit placed w) && right t w r) (room f.known)
      (λ w i. bit-counted t (writes t) later placed w is (and_l _ (bit (mask facts right_row w) r) i))
      (λ w i. ap₂ (λ (x y : Bool). x && y) (bit-apart t (writes t) later placed w is i)
      (ap (λ (x : ℕ). bit x r) (mask_is f.known right_row (right t) f.known.right w i) ∙ mask-bit t (right t w) r l)
      ∙ go (writes t w) (not (bit placed w)) (reads t r) _ _)
    where
      is : later ≡ without (mask_by t (writes t)) placed
      is = q ∙ ap (λ (x : ℕ). without x placed) f.writers

      go : (a p b x y : Bool) → ((a && p) && (((a && b) && x) && y)) ≡ (p && (((a && b) && x) && y))
      go true p b x y = refl
      go false true b x y = refl
      go false false b x y = refl

  module _ (m : ℕ) where
    -- the bits of m that aren't left in l don't misread
    abbrev pub Sound : ℕ → Type 0
    Sound l = Rest capacity m l × ((t : Table) → Board t facts ties → Left (misreads t) capacity m l)

    pub sound-start : m < 2 ^ capacity → Sound m
    sound-start h = (rest-start capacity m h, λ t f. (h, refl))

    module _ (later a late : ℕ) (q : later ≡ without (mask ties kind_row writers_word) placed)
        (u : Union (mask facts right_row) later a) (i : late ≡ without (mask ties kind_row readers_word) placed)
        (p : m ≡ without late a) where
      bits : (t : Table) → Board t facts ties → (r : ℕ) → r < t.count →
          bit m r ≡ (reads t r && not (bit placed r) && not (coming t r))
      bits t f r l =
          ap (λ (x : ℕ). bit x r) p ∙ bit-without late a r
          ∙ ap₂ (λ (x y : Bool). x && not y)
          (bit-apart t (reads t) late placed r (i ∙ ap (λ (x : ℕ). without x placed) f.readers) l)
          (answered-is later a q u t f r l)

      counted : (t : Table) → Board t facts ties → (r : ℕ) → bit m r ≡ true → r < t.count
      counted t f r h =
          bit-counted t (reads t) late placed r (i ∙ ap (λ (x : ℕ). without x placed) f.readers)
          (and_l _ (not (bit a r)) (sym (ap (λ (x : ℕ). bit x r) p ∙ bit-without late a r) ∙ h))

      reader : (t : Table) → Board t facts ties → (r : ℕ) → bit m r ≡ true → reads t r ≡ true
      reader t f r h = and_l (reads t r) (not (bit placed r)) (and_l _ (not (coming t r)) (sym (bits t f r (counted t f r h)) ∙ h))

      -- what the loop tells
      told : (t : Table) → Board t facts ties → some capacity (λ r. bit m r && misreads t r) ≡ any_read t
      unfolding lost_read
      told t f =
          some-counted t.count capacity (λ r. bit m r && misreads t r) (lost_read t (bit placed) (bit s.good))
          (room f.known)
          (λ r i. counted t f r (and_l _ (misreads t r) i))
          (λ r l. ap (λ (x : Bool). x && misreads t r) (bits t f r l)
          ∙ go (reads t r && not (bit placed r)) (not (coming t r)) (misreads t r))
        where
          go : (x y z : Bool) → ((x && y) && z) ≡ ((x && z) && y)
          go true true true = refl
          go true true false = refl
          go true false true = refl
          go true false false = refl
          go false y z = refl

      module _ (l v : ℕ) (k : Sound l) (h : 0 < l) (e : v ≡ count_trailing_zeros capacity l) (x : Bool)
          (says : Tells facts v (λ t. returns_good t placed s.good v) x) where
        is : (t : Table) → Board t facts ties → misreads t v ≡ not x
        is t f =
            let i = (rest-lowest capacity m l v k.0 h e).1 in
            let n = counted t f v i in
            ap not (sym (says t f.known n
            ∙ ap (λ (b : Bool). cond b (reads_good t (bit placed) (bit s.good) v) (bit s.good v))
            (reader t f v i)))

        pub sound-hit : x ≡ false → Says facts ties any_read true
        sound-hit n t f = sym (left-hit (misreads t) capacity m l v (k.1 t f) h e (is t f ∙ ap not n)) ∙ told t f

        pub sound_more : x ≡ true → (b : ℕ) → b ≡ 2 ^ v → Sound (bit_xor l b)
        sound_more y b i = (
          rest_more capacity m l v k.0 h e b i,
          λ t f. left-more (misreads t) capacity m l v (k.1 t f) h e b i (is t f ∙ ap not y),
        )

      pub sound-end : (l : ℕ) → Sound l → l ≡ 0 → Says facts ties any_read false
      sound-end l k z t f = sym (left_end (misreads t) capacity m l (k.1 t f) z) ∙ told t f

  -- Either.
  module _ (a : Bool) (h : FactsSay facts (λ t. some t.count (lost_final t (bit placed))) a) where
    pub lost-final : a ≡ true → Says facts ties (λ t. lost t s) true
    unfolding lost
    lost-final q t f = sym (ap (λ (b : Bool). any_read t || b) (sym (h t f.known) ∙ q) ∙ or-true (any_read t))

    pub lost-read : a ≡ false → (b : Bool) → Says facts ties any_read b →
        Says facts ties (λ t. lost t s) b
    unfolding lost
    lost-read q b k t f = k t f ∙ sym (ap (λ (x : Bool). any_read t || x) (sym (h t f.known) ∙ q) ∙ or-false (any_read t))
