-- The last writer to a location, looked for from the end of an order.
use Prim.Native.Nat.{ℕ, ◌-◌, ◌≤◌, ◌<◌}
use native.Mathlib.Omega.{arith}
use mathlib.Core.Path.{◌≡◌, sym, ap, ◌∙◌}
use mathlib.Core.Bool.{true}
use mathlib.Core.List.{List}
use lib.ListN.{get_or, take}
use lib.Seq.{length-take-le, take-take}
use lib.Dec.{ltb}
use borrow.Author.Tests.{ne_eqb}
use Rattle.lists.specs.Lists.{all, last_or}
use Rattle.lists.proofs.LastLaws.{Behind, behind-hit, behind-end}
use Rattle.masks.specs.Bit.{bit}
use Rattle.model.specs.Rules.{initially}
use Rattle.model.specs.Following.{leaves, end_value}
use Rattle.placing.proofs.KeptLaws.{clean-kept}
use Rattle.placing.proofs.FollowingLaws.{leaves-initial}
use Rattle.fact_rows.specs.FactRows.{mask}
use Rattle.fact_rows.specs.ValueRows.{writer_row, initial_row}
use Rattle.order_test.specs.Testing.{Fitting}
use Rattle.order_test.proofs.PassLaws.{entry-room}
use Rattle.order_values.specs.Following.{EndsBy}
use Rattle.order_values.specs.ByFacts.{left_or, last_left}
use Rattle.order_values.proofs.WordLaws.{all_first, order-events, last-writer, last-told}
use Rattle.order_values.proofs.AlikeLaws.{end-alike}

module _ (facts : List (List ℕ)) (left order : List ℕ) (len x : ℕ) where
  -- none of the entries from i on writes to location x
  abbrev pub Unwritten : ℕ → Type 0
  Unwritten i = Behind (bit (mask facts writer_row x)) initially order len i

  pub end-hit : Fitting order len → (i : ℕ) → Unwritten i → 0 < i →
      bit (mask facts writer_row x) (get_or order (i - 1) 0) ≡ true →
      get_or left (get_or order (i - 1) 0) 0 ≡ last_left facts left (take len order) x
  unfolding last_left
  end-hit fit i u l h =
      let w = get_or order (i - 1) 0 in
      let small = entry-room facts order len fit (i - 1) (omega (arith, u.0)) in
      sym (ap (left_or left (mask facts initial_row x))
      (sym (behind-hit (bit (mask facts writer_row x)) initially order len i (omega (arith, fit.long, fit.within)) u l h))
      ∙ rw (ne_eqb w initially (λ q. absurd (omega (arith, small)))))

  pub end_none : (i : ℕ) → Unwritten i → i ≤ 0 → mask facts initial_row x ≡ last_left facts left (take len order) x
  unfolding last_left
  end_none i u l =
      ap (left_or left (mask facts initial_row x)) (behind-end (bit (mask facts writer_row x)) initially order len i u l)

-- What it leaves is the value of the location at the end, and the entries up to it decide that.
pub end-told : (facts : List (List ℕ)) (left order : List ℕ) (len x r d : ℕ) → Fitting order len →
    r ≡ last_left facts left (take len order) x → Unwritten facts left order len x d → EndsBy facts left (take len order) x d r
unfolding end_value
end-told facts left order len x r d fit q u t f v o c given l other o' c' s =
    q ∙ last-told f v x l gmo events left (leaves t gmo x) (leaves-initial t gmo x)
    (λ w h n u at. given w n u ∙ ap (λ (y : ℕ). leaves t gmo y w) at)
    ∙ sym (end-alike (clean-kept f.table o c) (clean-kept f.table o' c') d
    (omega (arith, u.0, length-take-le len order (omega (arith, fit.long, fit.within)))) s x
    (sym (last-writer f v x l gmo events) ∙ u.1 ∙ ap (last_or (bit (mask facts writer_row x)) initially) (sym first)
    ∙ last-writer f v x l (take d gmo) (all_first (λ e. ltb e t.count) gmo d events)))
  where
    gmo : List ℕ
    gmo = take len order

    events : all (λ e. ltb e t.count) gmo ≡ true
    events = order-events t gmo o

    first : take d gmo ≡ take d order
    first = take-take d len order u.0
