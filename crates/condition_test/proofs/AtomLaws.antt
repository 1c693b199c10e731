-- The words that the test of an order meets: an atom, and the bit behind a word.
use Prim.Native.Nat.{ℕ, ◌/◌, ◌%◌, ◌^◌, ◌≤◌, ◌<◌}
use mathlib.Core.Path.{◌≡◌, sym, ap, ap₂, subst, ◌∙◌}
use mathlib.Core.Bool.{Bool, true, false, cond, not, ◌&&◌, ◌||◌}
use mathlib.Core.List.{List}
use native.Mathlib.Omega.{arith}
use lib.Dec.{eqb, ltb, leb}
use borrow.Author.Tests.{ltb-true, eq-eqb, ne_eqb, le-leb, lt-leb}
use Rattle.lists.proofs.BoolLaws.{and_l, and_r}
use Rattle.table.specs.declared.Table.{Table}
use Rattle.table.specs.Events.{capacity, reads}
use Rattle.condition_reader.specs.Words.{returns_node, ends_node, not_node}
use Rattle.model.specs.Following.{returned_value, end_value}
use Rattle.order_values.specs.Following.{ReadsBy, EndsBy}
use Rattle.condition_test.specs.Machine.{kind_of, number_of, value_of, decided, skip_behind}
use Rattle.condition_test.specs.Meeting.{atom_holds, known_atom, HoldsBy, TurnsBy}

-- what a word skips, by its kind k and the kind d that is decided
module _ (b : Bool) (w k d : ℕ) (e : k ≡ kind_of w) (f : d ≡ decided b) where
  pub skip-taken : k ≡ d → w / 256 ≡ skip_behind b w
  skip-taken h = sym (ap (λ (x : Bool). cond x (w / 256) 0) (eq-eqb (kind_of w) (decided b) (sym e ∙ h ∙ f)))

  pub skip-left : (k ≡ d → ⊥) → 0 ≡ skip_behind b w
  skip-left h = sym (ap (λ (x : Bool). cond x (w / 256) 0) (ne_eqb (kind_of w) (decided b) (λ q. h (e ∙ q ∙ sym f))))

-- no word skips many
pub skip-small : (b : Bool) (w n : ℕ) → w < 2 ^ 32 → n ≡ skip_behind b w → n < 2 ^ 24
skip-small b w n h e = subst (λ (x : ℕ). x < 2 ^ 24) (sym e) (go (eqb (kind_of w) (decided b)))
  where
    go : (x : Bool) → cond x (w / 256) 0 < 2 ^ 24
    go true = omega arith
    go false = omega arith

-- a number within the slots of a table is read off a word
number-known : (w : ℕ) → number_of w < capacity → w / 256 % capacity ≡ number_of w
number-known w h = omega arith

-- what is known and asked of an atom, by the test of its kind
module _ (t : Table) (w : ℕ) (b : Bool) (q : eqb (kind_of w) returns_node ≡ b) where
  known_by : known_atom t w ≡ cond b (ltb (number_of w) t.count && reads t (number_of w)) (ltb (number_of w) t.locations)
  unfolding known_atom
  known_by =
      ap (λ (x : Bool). cond x (ltb (number_of w) t.count && reads t (number_of w)) (ltb (number_of w) t.locations)) q

  holds_by : (gmo : List ℕ) → atom_holds t gmo w
      ≡ cond b (eqb (returned_value t gmo (number_of w)) (value_of w)) (eqb (end_value t gmo (number_of w)) (value_of w))
  unfolding atom_holds
  holds_by gmo =
      ap (λ (x : Bool). cond x (eqb (returned_value t gmo (number_of w)) (value_of w))
      (eqb (end_value t gmo (number_of w)) (value_of w))) q

-- an atom, by its kind k and the code's number n
module _ (facts : List (List ℕ)) (left gmo : List ℕ) (w k n : ℕ) (e : k ≡ kind_of w) (m : n ≡ w / 256 % capacity) where
  pub atom-read : k ≡ returns_node → (r v d : ℕ) → ReadsBy facts left gmo n d r → v ≡ value_of w →
      HoldsBy facts left gmo w d (eqb r v)
  atom-read h r v x f u t g s o c l a other o' c' b =
      let q : eqb (kind_of w) returns_node ≡ true = eq-eqb (kind_of w) returns_node (sym e ∙ h) in
      let k : (ltb (number_of w) t.count && reads t (number_of w)) ≡ true = sym (known_by t w true q) ∙ a in
      let j : number_of w < t.count = ltb-true (number_of w) t.count (and_l _ (reads t (number_of w)) k) in
      let i : n ≡ number_of w = m ∙ number-known w (omega (arith, g.table.small.events)) in
      let d : reads t n ≡ true = ap (reads t) i ∙ and_r (ltb (number_of w) t.count) (reads t (number_of w)) k in
      ap₂ eqb (f t g s o c l (omega arith) d other o' c' b ∙ ap (returned_value t other) i) u
      ∙ sym (holds_by t w true q other)

  pub atom-end : (k ≡ returns_node → ⊥) → (r v d : ℕ) → EndsBy facts left gmo n d r → v ≡ value_of w →
      HoldsBy facts left gmo w d (eqb r v)
  atom-end h r v d f u t g s o c l a other o' c' b =
      let q : eqb (kind_of w) returns_node ≡ false = ne_eqb (kind_of w) returns_node (λ x. h (e ∙ x)) in
      let j : number_of w < t.locations = ltb-true (number_of w) t.locations (sym (known_by t w false q) ∙ a) in
      let i : n ≡ number_of w = m ∙ number-known w (omega (arith, g.table.small.locations)) in
      ap₂ eqb (f t g s o c l (omega arith) other o' c' b ∙ ap (end_value t other) i) u ∙ sym (holds_by t w false q other)

-- the bit behind a word of kind k
module _ (facts : List (List ℕ)) (left gmo : List ℕ) (b : Bool) (w k : ℕ) (e : k ≡ kind_of w) where
  pub turn-atom : k ≤ ends_node → (r : Bool) (d : ℕ) → HoldsBy facts left gmo w d r → TurnsBy facts left gmo b w d r
  turn-atom h r d f t g s o c l a other o' c' m =
      let q : leb (kind_of w) ends_node ≡ true = le-leb (kind_of w) ends_node (omega arith) in
      f t g s o c l (ap (λ (x : Bool). not x || known_atom t w) (sym q) ∙ a) other o' c' m
      ∙ sym (ap (λ (x : Bool). cond x (atom_holds t other w) (cond (eqb (kind_of w) not_node) (not b) b)) q)

  pub turn-not : ends_node < k → k ≡ not_node → TurnsBy facts left gmo b w 0 (not b)
  turn-not h i t g s o c l a other o' c' m = rw (lt-leb (kind_of w) ends_node (omega arith), eq-eqb (kind_of w) not_node (sym e ∙ i))

  pub turn-stays : ends_node < k → (k ≡ not_node → ⊥) → TurnsBy facts left gmo b w 0 b
  turn-stays h i t g s o c l a other o' c' m = rw (lt-leb (kind_of w) ends_node (omega arith), ne_eqb (kind_of w) not_node (λ q. i (e ∙ q)))
