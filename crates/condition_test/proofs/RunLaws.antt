-- The words of a condition, run by the test of its atoms: the condition's truth.
use mir.Val.{bool_byte}
use Prim.Native.Nat.{ℕ, suc, ◌+◌, ◌≤◌, ◌<◌}
use mathlib.Core.Path.{◌≡◌, refl, sym, ap, ap₂, subst, ◌∙◌}
use mathlib.Core.Bool.{Bool, true, false, cond, not, ◌&&◌, ◌||◌, or-true, or-false, false≢true}
use mathlib.Core.Logic.{⊎_elim}
use mathlib.Core.List.{List, [], ◌∷◌, ◌++◌, append-nil}
use native.Mathlib.Omega.{arith}
use lib.ListN.{length, get_or, take, drop, drop_of_length-le}
use native.Mathlib.Numerals.{add-one}
use lib.Seq.{take-suc, drop-length, drop-cons, drop-drop, take-take}
use lib.Dec.{eqb, ltb, leb}
use borrow.Author.Tests.{eqb-true, not-true, ltb-true, lt-ltb, lt-leb, leb-false, not-false}
use Rattle.lists.specs.Lists.{all, has}
use Rattle.lists.proofs.BoolLaws.{and_l, and_r, and_both, and_right, or_l, or_r, or_cases}
use Rattle.lists.proofs.ListLaws.{all-has, all_get_d}
use Rattle.lists.proofs.MemberLaws.{has-later, has_all, has_here, has-append, has_left}
use Rattle.table.specs.declared.Table.{Table}
use Rattle.table.specs.Events.{reads}
use Rattle.text_format.specs.Condition.{Condition, returns, ends, negated, both, either, max_number, max_value, fits}
use Rattle.condition_reader.specs.Words.{returns_node, ends_node, not_node, and_node, or_node, node_word, skip_word, code}
use Rattle.model.specs.Following.{returned_value, end_value, meets, names_unknown}
use Rattle.model.specs.Witness.{is_order}
use Rattle.model.specs.Prefixes.{clean}
use Rattle.fact_rows.specs.FactRows.{Facts}
use Rattle.fact_rows.specs.ValueRows.{Values}
use Rattle.order_values.specs.Following.{LeftOf, Leaves}
use Rattle.condition_test.specs.Machine.{kind_of, number_of, value_of, skip_behind, bit_behind, plain_word, run, evaluated}
use Rattle.condition_test.specs.Meeting.{atom_holds, known_atom, known_word, TurnsBy}
use Rattle.condition_test.specs.Kept.{next_of, bit_of, depth_of, plain_of, kept_run, Starts, noted, Truth, RunsOn, Keeps, GoesOn, Meets, Begins, Resumes}
use Rattle.condition_test.proofs.MachineLaws.{node-kind, skip-kind, within, run-skip, run-code}

node-number : (kind k v : ℕ) → kind < 256 → k ≤ max_number → number_of (node_word kind k v) ≡ k
node-number kind k v h l = omega arith

node-value : (kind k v : ℕ) → kind < 256 → k ≤ max_number → value_of (node_word kind k v) ≡ v
node-value kind k v h l = omega arith

module _ (t : Table) (gmo : List ℕ) where
  -- the tests of atoms
  abbrev asked : Bool → ℕ → ℕ → Bool
  asked true e v = eqb (returned_value t gmo e) v
  asked false x v = eqb (end_value t gmo x) v

  asked-meets : (c : Condition) → evaluated asked c ≡ meets t c gmo
  unfolding evaluated meets
  asked-meets (returns e v) = refl
  asked-meets (ends x v) = refl
  asked-meets (negated c) = ap not (asked-meets c)
  asked-meets (both l r) = ap₂ ◌&&◌ (asked-meets l) (asked-meets r)
  asked-meets (either l r) = ap₂ ◌||◌ (asked-meets l) (asked-meets r)

  holds_read : (e v : ℕ) → e ≤ max_number → v ≤ max_value → atom_holds t gmo (node_word returns_node e v) ≡ asked true e v
  unfolding atom_holds
  holds_read e v h l = rw (
    node-kind returns_node e v (omega arith),
    node-number returns_node e v (omega arith) h,
    node-value returns_node e v (omega arith) h,
  )

  holds-end : (x v : ℕ) → x ≤ max_number → v ≤ max_value → atom_holds t gmo (node_word ends_node x v) ≡ asked false x v
  unfolding atom_holds
  holds-end x v h l = rw (
    node-kind ends_node x v (omega arith),
    node-number ends_node x v (omega arith) h,
    node-value ends_node x v (omega arith) h,
  )

  -- the words of a condition give its truth
  pub run-meets : (c : Condition) → fits c ≡ true → run (atom_holds t gmo) 0 true (code c) ≡ meets t c gmo
  unfolding run
  run-meets c f =
      ap (run (atom_holds t gmo) 0 true) (sym (append-nil (code c)))
      ∙ run-code (atom_holds t gmo) asked holds_read holds-end c f true [] ∙ asked-meets c

module _ (t : Table) (gmo : List ℕ) where
  -- where all atoms must hold, one that doesn't refutes the condition
  refuted : (c : Condition) → fits c ≡ true → ((x : ℕ) → has x (code c) ≡ true → plain_word x ≡ true) → (w : ℕ) →
      has w (code c) ≡ true → leb (kind_of w) ends_node ≡ true → atom_holds t gmo w ≡ false → meets t c gmo ≡ false
  unfolding code meets
  refuted (returns e v) f p w i a h =
      let q = eqb-true w (node_word returns_node e v) (sym (or-false (eqb w (node_word returns_node e v))) ∙ i) in
      sym (holds_read t gmo e v (within e v f).0 (within e v f).1) ∙ ap (atom_holds t gmo) (sym q) ∙ h
  refuted (ends x v) f p w i a h =
      let q = eqb-true w (node_word ends_node x v) (sym (or-false (eqb w (node_word ends_node x v))) ∙ i) in
      sym (holds-end t gmo x v (within x v f).0 (within x v f).1) ∙ ap (atom_holds t gmo) (sym q) ∙ h
  refuted (negated c) f p w i a h = absurd (false≢true (p not_node (has_here (code c) [] not_node)))
  refuted (both l r) f p w i a h =
      let n = skip_word and_node (length (code r)) in
      ⊎_elim
      (λ (j : has w (code l) ≡ true). ap (λ (b : Bool). b && meets t r gmo)
      (refuted l (and_l (fits l) (fits r) f) (λ x k. p x (has_left x (code l) (n ∷ code r) k)) w j a h))
      (λ (j : has w (n ∷ code r) ≡ true). ⊎_elim
      (λ (q : eqb w n ≡ true). absurd (false≢true
      (sym (ap (λ (k : ℕ). leb k ends_node) (ap kind_of (eqb-true w n q) ∙ skip-kind and_node (length (code r)) (omega arith))) ∙ a)))
      (λ (q : has w (code r) ≡ true). and_right (meets t l gmo) (meets t r gmo)
      (refuted r (and_r (fits l) (fits r) f) (λ x k. p x (has-append x (code l) (n ∷ code r)
      ∙ ap (λ (b : Bool). has x (code l) || b) (has-later x n (code r) k) ∙ or-true (has x (code l)))) w q a h))
      (or_cases (eqb w n) (has w (code r)) j))
      (or_cases (has w (code l)) (has w (n ∷ code r)) (sym (has-append w (code l) (n ∷ code r)) ∙ i))
  refuted (either l r) f p w i a h =
      let n = skip_word or_node (length (code r)) in
      absurd (false≢true
      (sym (ap (λ (k : ℕ). leb k ends_node || eqb k and_node) (skip-kind or_node (length (code r)) (omega arith)))
      ∙ p n (has_here (code l) (code r) n)))

all_both : (p : ℕ → Bool) (l m : List ℕ) → all p l ≡ true → all p m ≡ true → all p (l ++ m) ≡ true
all_both p [] m h k = k
all_both p (x ∷ l) m h k = and_both _ _ (and_l (p x) (all p l) h) (all_both p l m (and_r (p x) (all p l) h) k)

module _ (t : Table) where
  known-skip : (kind n : ℕ) → ends_node < kind → kind < 256 → known_word t (skip_word kind n) ≡ true
  known-skip kind n h l = rw (skip-kind kind n l, lt-leb kind ends_node h)

  known_returns : (e v : ℕ) → e ≤ max_number → (ltb e t.count && reads t e) ≡ true →
      known_word t (node_word returns_node e v) ≡ true
  unfolding known_atom
  known_returns e v l h = rw (node-kind returns_node e v (omega arith), node-number returns_node e v (omega arith) l) h

  known-ends : (x v : ℕ) → x ≤ max_number → x < t.locations → known_word t (node_word ends_node x v) ≡ true
  unfolding known_atom
  known-ends x v l h =
      rw (node-kind ends_node x v (omega arith), node-number ends_node x v (omega arith) l) (lt-ltb x t.locations h)

  -- no word of a condition names what isn't known
  known-words : (c : Condition) → fits c ≡ true → names_unknown t c ≡ false → all (known_word t) (code c) ≡ true
  unfolding code names_unknown
  known-words (returns e v) f h = and_both _ true (known_returns e v (within e v f).0 (not-false _ h)) refl
  known-words (ends x v) f h = and_both _ true (known-ends x v (within x v f).0 (leb-false t.locations x h)) refl
  known-words (negated c) f h = all_both (known_word t) (code c) (not_node ∷ []) (known-words c f h) refl
  known-words (both l r) f h =
      all_both (known_word t) (code l) (skip_word and_node (length (code r)) ∷ code r)
      (known-words l (and_l (fits l) (fits r) f) (or_l (names_unknown t l) (names_unknown t r) h))
      (and_both _ _ (known-skip and_node (length (code r)) (omega arith) (omega arith))
      (known-words r (and_r (fits l) (fits r) f) (or_r (names_unknown t l) (names_unknown t r) h)))
  known-words (either l r) f h =
      all_both (known_word t) (code l) (skip_word or_node (length (code r)) ∷ code r)
      (known-words l (and_l (fits l) (fits r) f) (or_l (names_unknown t l) (names_unknown t r) h))
      (and_both _ _ (known-skip or_node (length (code r)) (omega arith) (omega arith))
      (known-words r (and_r (fits l) (fits r) f) (or_r (names_unknown t l) (names_unknown t r) h)))

-- a run from the first word on gives the truth in every order
pub runs-first : (t : Table) (words gmo : List ℕ) (d : ℕ) → RunsOn t words gmo d true 0
runs-first t words gmo d c e f h other o k s = ap (run (atom_holds t other) 0 true) e ∙ run-meets t other c f

-- what few entries decide more decide too
runs-deeper : (t : Table) (words gmo : List ℕ) (d n : ℕ) (b : Bool) (i : ℕ) → d ≤ n → RunsOn t words gmo d b i →
    RunsOn t words gmo n b i
runs-deeper t words gmo d n b i l h c e f a other o k s =
    h c e f a other o k (sym (take-take d n other l) ∙ ap (take d) s ∙ take-take d n gmo l)

-- what is told of an order is told of another that begins as it does
pub keeps-alike : (t : Table) (words gmo other kept : List ℕ) → take (depth_of kept) gmo ≡ take (depth_of kept) other →
    Keeps t words gmo kept → Keeps t words other kept
keeps-alike t words gmo other kept e h = (λ c w f a next o k s. h.0 c w f a next o k (s ∙ sym e), h.1)

module _ (facts : List (List ℕ)) (left words gmo kept₀ : List ℕ) where
  -- with what was kept at first, the run stands at word i, with the bit b, which the first d entries decide
  abbrev pub Going : (kept : List ℕ) → (d : ℕ) → Bool → (i : ℕ) → Type 0
  Going kept d b i =
      (t : Table) → Facts t facts → Values t facts → is_order t gmo ≡ true → clean t gmo ≡ true → LeftOf t gmo left →
      Keeps t words gmo kept₀ → RunsOn t words gmo d b i × Keeps t words gmo kept

  pub going_start : Going kept₀ (depth_of kept₀) (bit_of kept₀) (next_of kept₀)
  going_start t f v o c l h = (h.0, h)

  run_step : (holds : ℕ → Bool) (b : Bool) (i : ℕ) → i < length words → run holds 0 b (drop i words)
      ≡ run holds 0 (bit_behind holds b (get_or words i 0)) (drop (suc i + skip_behind b (get_or words i 0)) words)
  unfolding run
  run_step holds b i l =
      let w = get_or words i 0 in
      ap (run holds 0 b) (drop-cons words i 0 l)
      ∙ run-skip holds (skip_behind b w) (bit_behind holds b w) (drop (suc i) words)
      ∙ ap (run holds 0 (bit_behind holds b w)) (drop-drop (skip_behind b w) (suc i) words)

  -- behind the last word the bit is the truth
  pub ran : (t : Table) (d : ℕ) (b : Bool) (i : ℕ) → length words ≤ i → is_order t gmo ≡ true → clean t gmo ≡ true →
      RunsOn t words gmo d b i → Truth t words gmo b
  unfolding run
  ran t d b i l o k h c e f a =
      ap (run (atom_holds t gmo) 0 b) (sym (drop_of_length-le words l)) ∙ h c e f a gmo o k refl

  noted-keeps : (t : Table) (kept : List ℕ) (len i : ℕ) (r : Bool) (x : ℕ) (after : List ℕ) → after ≡ noted kept len i r x →
      RunsOn t words gmo x r i → Keeps t words gmo kept → Keeps t words gmo after
  noted-keeps t kept len i r x after q now before = subst (Keeps t words gmo) (sym q) (go (ltb (x + 1) len))
    where
      go : (y : Bool) → Keeps t words gmo (cond y (kept_run i r x (plain_of kept)) kept)
      go true = bits r now
        where
          bits : (r : Bool) → RunsOn t words gmo x r i → Keeps t words gmo (kept_run i r x (plain_of kept))
          bits true now = (now, before.1)
          bits false now = (now, before.1)
      go false = before

  module _ (kept : List ℕ) (d : ℕ) (b : Bool) (i : ℕ) (more : i < length words) (h : Going kept d b i) (r : Bool) (n m x : ℕ)
      (skipped : n ≡ skip_behind b (get_or words i 0)) (turned : TurnsBy facts left gmo b (get_or words i 0) m r) (deep : d ≤ x)
      (deeper : m ≤ x) where
    runs-more : (t : Table) → Facts t facts → Values t facts → is_order t gmo ≡ true → clean t gmo ≡ true → LeftOf t gmo left →
        Keeps t words gmo kept₀ → RunsOn t words gmo x r (i + (1 + n))
    runs-more t g s o k l u c e f a other o' k' q =
        let w = get_or words i 0 in
        let known : known_word t w ≡ true =
        all_get_d (known_word t) words i (ap (all (known_word t)) e ∙ known-words t c f a) more in
        let j : i + (1 + n) ≡ suc i + skip_behind b w = omega (arith, skipped) in
        let shorter : take m other ≡ take m gmo =
        sym (take-take m x other deeper) ∙ ap (take m) q ∙ take-take m x gmo deeper in
        ap₂ (λ (y : Bool) (z : ℕ). run (atom_holds t other) 0 y (drop z words)) (turned t g s o k l known other o' k' shorter) j
        ∙ sym (run_step (atom_holds t other) b i more)
        ∙ runs-deeper t words gmo d x b i deep (h t g s o k l u).0 c e f a other o' k' q

    pub going_more : (len : ℕ) (after : List ℕ) → after ≡ noted kept len (i + (1 + n)) r x → Going after x r (i + (1 + n))
    going_more len after q t g s o k l u =
        let now = runs-more t g s o k l u in
        (now, noted-keeps t kept len (i + (1 + n)) r x after q now (h t g s o k l u).1)

    -- The word is an atom that doesn't hold, where all must.
    module _ (y : (eqb (plain_of kept) 1 && leb (kind_of (get_or words i 0)) ends_node && not r) ≡ true) where
      refuted-runs : (t : Table) → Facts t facts → Values t facts → is_order t gmo ≡ true → clean t gmo ≡ true → LeftOf t gmo left →
          Keeps t words gmo kept → RunsOn t words gmo m false (length words)
      unfolding run
      refuted-runs t g s o k l before c e f a other o' k' z =
          let w = get_or words i 0 in
          let both = and_l (eqb (plain_of kept) 1 && leb (kind_of w) ends_node) (not r) y in
          let atom = and_r (eqb (plain_of kept) 1) (leb (kind_of w) ends_node) both in
          let known : known_word t w ≡ true =
          all_get_d (known_word t) words i (ap (all (known_word t)) e ∙ known-words t c f a) more in
          let wrong : atom_holds t other w ≡ false =
          sym (ap (λ (x : Bool). cond x (atom_holds t other w) (cond (eqb (kind_of w) not_node) (not b) b)) atom)
          ∙ sym (turned t g s o k l known other o' k' z) ∙ not-true r (and_r (eqb (plain_of kept) 1 && leb (kind_of w) ends_node) (not r) y) in
          let plain = before.1 (eqb-true (plain_of kept) 1 (and_l (eqb (plain_of kept) 1) (leb (kind_of w) ends_node) both)) in
          ap (run (atom_holds t other) 0 false) (drop-length words)
          ∙ sym (refuted t other c f (λ x j. all-has plain_word words x plain (ap (has x) e ∙ j)) w
          (ap (has w) (sym e) ∙ all_get_d (λ x. has x words) words i (has_all (λ x. has x words) words (λ x j. j)) more) atom wrong)

      pub going-refuted : (len : ℕ) (after : List ℕ) → after ≡ noted kept len (length words) false m →
          GoesOn facts left words gmo kept₀ false after
      going-refuted len after q t g s o k l u =
          let before = (h t g s o k l u).1 in
          let now = refuted-runs t g s o k l before in
          (ran t m false (length words) (omega arith) o k now, noted-keeps t kept len (length words) false m after q now before)

  pub going_end : (kept : List ℕ) (d : ℕ) (b : Bool) (i : ℕ) → length words ≤ i → Going kept d b i →
      GoesOn facts left words gmo kept₀ b kept
  going_end kept d b i l h t f v o c u k =
      let g = h t f v o c u k in (ran t d b i l o c g.0, g.1)

-- a bit as a number
pub as-number : (b : Bool) → bool_byte b ≡ cond b 1 0
as-number true = refl
as-number false = refl

pub starts_first : (words : List ℕ) (b : Bool) (n : ℕ) → b ≡ all plain_word words → n ≡ cond b 1 0 →
    Starts words (0 ∷ 1 ∷ 0 ∷ n ∷ [])
starts_first words true n e q = record { begun = refl; plain = λ h. sym e }
starts_first words false n e q = record { begun = refl; plain = λ h. absurd (omega (arith, q, h)) }

-- what a run from the first word on keeps
pub starts-keeps : (t : Table) (words gmo kept : List ℕ) → Starts words kept → Keeps t words gmo kept
starts-keeps t words gmo kept s =
    (subst (λ (k : List ℕ). RunsOn t words gmo (depth_of k) (bit_of k) (next_of k)) (sym s.begun) (runs-first t words gmo 0), s.plain)

-- what is kept is decided by no more than the whole order
pub noted-depth : (kept : List ℕ) (len next : ℕ) (b : Bool) (d : ℕ) (after : List ℕ) → after ≡ noted kept len next b d →
    depth_of kept ≤ len → depth_of after ≤ len
noted-depth kept len next b d after q h = subst (λ (k : List ℕ). depth_of k ≤ len) (sym q) (go (ltb (d + 1) len) refl)
  where
    go : (y : Bool) → ltb (d + 1) len ≡ y → depth_of (cond y (kept_run next b d (plain_of kept)) kept) ≤ len
    go true e = let l = ltb-true (d + 1) len e in omega arith
    go false e = h

-- two lists begin alike with one entry more
pub take_more : (l m : List ℕ) (i : ℕ) → i < length l → i < length m → take i l ≡ take i m → get_or l i 0 ≡ get_or m i 0 →
    take (i + 1) l ≡ take (i + 1) m
take_more l m i h k e q =
    rw (add-one i) (take-suc l i 0 h ∙ ap₂ (λ (p : List ℕ) (a : ℕ). p ++ (a ∷ [])) e q ∙ sym (take-suc m i 0 k))

-- One order after another: gmo, at the front of an array, and before it seen.
module _ (seen order : List ℕ) (len : ℕ) where
  abbrev gmo : List ℕ
  gmo = take len order

  pub resumes-kept : (kept : List ℕ) → Begins seen order len (depth_of kept) true → Resumes seen gmo len kept kept
  resumes-kept kept b = (
    b.0,
    λ t words h. (h, keeps-alike t words seen gmo kept (sym b.1 ∙ sym (take-take (depth_of kept) len order b.0)) h),
  )

  pub resumes-first : (kept : List ℕ) → Resumes seen gmo len kept (kept_run 0 true 0 (plain_of kept))
  resumes-first kept =
      (omega arith, λ t words h. ((runs-first t words seen 0, h.1), (runs-first t words gmo 0, h.1)))

  module _ (facts : List (List ℕ)) (words kept mid : List ℕ) (resumed : Resumes seen gmo len kept mid) where
    -- all was decided by what is kept
    pub meets-kept : length words ≤ next_of mid → Meets facts words gmo seen kept (bit_of mid) seen mid
    meets-kept l t f v o c h =
        let k = resumed.1 t words h in
        (ran facts [] words gmo mid t (depth_of mid) (bit_of mid) (next_of mid) l o c k.1.0, k.0)

    -- the run went on in the order, which is seen then
    pub meets_on : (left : List ℕ) → Leaves facts gmo left → (r : Bool) (after : List ℕ) →
        GoesOn facts left words gmo mid r after × (depth_of after ≤ len) → Meets facts words gmo seen kept r order after
    meets_on left leaves r after h t f v o c k =
        let g = h.0 t f v o c (leaves t f v o c) (resumed.1 t words k).1 in
        (g.0, keeps-alike t words gmo order after (take-take (depth_of after) len order h.1) g.1)
