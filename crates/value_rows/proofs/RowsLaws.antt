-- Setting the further rows keeps the others.
use Prim.Native.Nat.{ℕ, ◌+◌, ◌*◌, ◌<◌}
use native.Mathlib.Omega.{arith}
use mathlib.Core.Path.{◌≡◌, refl, ap, ◌∙◌}
use mathlib.Core.Bool.{false, not, ◌&&◌}
use mathlib.Core.List.{List, []}
use lib.ListN.{length, get_or, set, length-set}
use lib.Seq.{get_or-set_same, get_or-set_other}
use lib.Dec.{eqb}
use borrow.Author.Tests.{eqb-false, ne_eqb}
use Rattle.lists.specs.Filled.{padded}
use Rattle.operation.specs.Operation.{no_operation}
use Rattle.table.specs.declared.Table.{Table}
use Rattle.table.specs.Events.{capacity, event, location, writes}
use Rattle.model.specs.Returns.{initial_value}
use Rattle.order_facts.specs.Facts.{mask_by}
use Rattle.fact_rows.specs.FactRows.{row, mask, Facts, own_row, needs_row, window_row, ground_row, guard_row, here_row, right_row}
use Rattle.fact_rows.specs.FactRows.{peer_row, set_row, good_word, wrong_word, unmet_word}
use Rattle.fact_rows.specs.ValueRows.{Narrow, Values, place_row, written_row, action_row, writer_row, initial_row, row_count}
use Rattle.fact_rows.specs.ValueRows.{operated_word}

-- Row i is set.
module _ (l : List (List ℕ)) (i : ℕ) (v : List ℕ) where
  other : (k : ℕ) → eqb k i ≡ false → row (set l i v) k ≡ row l k
  other k n = get_or-set_other l i k v [] (eqb-false k i n)

  earlier : (k : ℕ) → k < i → row (set l i v) k ≡ row l k
  earlier k h = other k (ne_eqb k i (λ q. absurd (omega arith)))

  same : length l ≡ row_count → i < row_count → row (set l i v) i ≡ v
  same h b = get_or-set_same l i v [] (omega (arith, h))

  long : length l ≡ row_count → length (set l i v) ≡ row_count
  long h = length-set l i v ∙ h

module _ (facts : List (List ℕ)) (h : length facts ≡ row_count) (places written actions writers initial : List ℕ) where
  -- the facts with the first of these rows, with two, and so on
  abbrev one : List (List ℕ)
  one = set facts place_row places

  abbrev two : List (List ℕ)
  two = set one written_row written

  abbrev three : List (List ℕ)
  three = set two action_row actions

  abbrev four : List (List ℕ)
  four = set three writer_row writers

  abbrev five : List (List ℕ)
  five = set four initial_row initial

  one-long : length one ≡ row_count
  one-long = long facts place_row places h

  two-long : length two ≡ row_count
  two-long = long one written_row written one-long

  three-long : length three ≡ row_count
  three-long = long two action_row actions two-long

  four-long : length four ≡ row_count
  four-long = long three writer_row writers three-long

  -- And the row of words, with one more.
  module _ (words : List ℕ) (operated : ℕ) (q : words ≡ set (row five set_row) operated_word operated)
      (room : length (row five set_row) ≡ capacity) where
    abbrev filled : List (List ℕ)
    filled = set five set_row words

    -- a row before these stays
    kept : (k : ℕ) → k < place_row → row five k ≡ row facts k
    kept k l =
        earlier four initial_row initial k (omega arith) ∙ earlier three writer_row writers k (omega arith)
        ∙ earlier two action_row actions k (omega arith) ∙ earlier one written_row written k (omega arith)
        ∙ earlier facts place_row places k l

    event-row : (k : ℕ) → k < set_row → row filled k ≡ row facts k
    event-row k l = earlier five set_row words k l ∙ kept k (omega arith)

    word-at : (k : ℕ) → mask filled set_row k ≡ get_or (set (row five set_row) operated_word operated) k 0
    word-at k =
        ap (λ (r : List ℕ). get_or r k 0) (same five set_row words (long four initial_row initial four-long) (omega arith) ∙ q)

    word : (k : ℕ) → eqb k operated_word ≡ false → mask filled set_row k ≡ mask facts set_row k
    word k n =
        word-at k ∙ get_or-set_other (row five set_row) operated_word k operated 0 (eqb-false k operated_word n)
        ∙ ap (λ (r : List ℕ). get_or r k 0) (kept set_row (omega arith))

    pub facts-kept : (t : Table) → Facts t facts → Facts t filled
    facts-kept t f =
        record {
          table = f.table;
          own = event-row own_row (omega arith) ∙ f.own;
          needs = event-row needs_row (omega arith) ∙ f.needs;
          windows = event-row window_row (omega arith) ∙ f.windows;
          grounds = event-row ground_row (omega arith) ∙ f.grounds;
          guards = event-row guard_row (omega arith) ∙ f.guards;
          here = event-row here_row (omega arith) ∙ f.here;
          right = event-row right_row (omega arith) ∙ f.right;
          peers = event-row peer_row (omega arith) ∙ f.peers;
          good = word good_word refl ∙ f.good;
          wrong = word wrong_word refl ∙ f.wrong;
          unmet = word unmet_word refl ∙ f.unmet;
        }

    -- the new rows, from the last
    initial-at : row filled initial_row ≡ initial
    initial-at = other five set_row words initial_row refl ∙ same four initial_row initial four-long (omega arith)

    writer-at : row filled writer_row ≡ writers
    writer-at =
        other five set_row words writer_row refl ∙ other four initial_row initial writer_row refl
        ∙ same three writer_row writers three-long (omega arith)

    action-at : row filled action_row ≡ actions
    action-at =
        other five set_row words action_row refl ∙ other four initial_row initial action_row refl
        ∙ other three writer_row writers action_row refl ∙ same two action_row actions two-long (omega arith)

    written_at : row filled written_row ≡ written
    written_at =
        other five set_row words written_row refl ∙ other four initial_row initial written_row refl
        ∙ other three writer_row writers written_row refl ∙ other two action_row actions written_row refl
        ∙ same one written_row written one-long (omega arith)

    place_at : row filled place_row ≡ places
    place_at =
        other five set_row words place_row refl ∙ other four initial_row initial place_row refl
        ∙ other three writer_row writers place_row refl ∙ other two action_row actions place_row refl
        ∙ other one written_row written place_row refl ∙ same facts place_row places h (omega arith)

    operated-at : mask filled set_row operated_word ≡ operated
    operated-at = word-at operated_word ∙ get_or-set_same (row five set_row) operated_word operated 0 (omega (arith, room))

    pub values-set : (t : Table) → Narrow t → places ≡ padded capacity t.count (location t) →
        written ≡ padded capacity t.count (λ e. (event t e).written) →
        actions ≡ padded capacity t.count (λ e. (event t e).operation + 256 * (event t e).operand) →
        writers ≡ padded capacity t.locations (λ x. mask_by t (λ w. writes t w && eqb (location t w) x)) →
        initial ≡ padded capacity t.locations (initial_value t) →
        operated ≡ mask_by t (λ e. not (eqb (event t e).operation no_operation)) → Values t filled
    values-set t n p w a ws i o =
        record {
          narrow = n;
          places = place_at ∙ p;
          written = written_at ∙ w;
          actions = action-at ∙ a;
          writers = writer-at ∙ ws;
          initial = initial-at ∙ i;
          operated = operated-at ∙ o;
        }
