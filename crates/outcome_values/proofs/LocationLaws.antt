-- Laws for the loop that goes through the locations and writes what is at each.
use Prim.Native.Nat.{ℕ, suc, ◌+◌, ◌≤◌, ◌<◌}
use native.Mathlib.Omega.{arith}
use mathlib.Core.Path.{◌≡◌, sym, ap, ap₂, ◌∙◌}
use mathlib.Core.List.{List, [], ◌∷◌, ◌++◌, map, map-append, append-nil, append_assoc}
use lib.ListN.{length, take, set, length-set}
use lib.Seq.{take-suc-set}
use Rattle.lists.specs.Below.{up_from, below}
use Rattle.lists.proofs.BelowLaws.{below_more}
use Rattle.outcome_values.specs.Giving.{row_length, value_in}

module _ (at : List ℕ) (locations n : ℕ) (before : List ℕ) where
  -- those of the locations below x are written
  pub record Told (x : ℕ) (values : List ℕ) : Type 0 where
    pub within : x ≤ locations
    pub long : length values ≡ row_length
    pub each : take (n + x) values ≡ take n before ++ map (value_in at) (below x)

  pub end-start : length before ≡ row_length → Told 0 before
  unfolding up_from
  end-start long = record {
    within = omega arith;
    long = long;
    each =
        let z : n + 0 ≡ n = omega arith in
        ap (λ (j : ℕ). take j before) z ∙ sym (append-nil (take n before));
  }

  -- one more is
  pub end_more : (x : ℕ) (values : List ℕ) → Told x values → x < locations → n + x < row_length →
      (r : ℕ) → r ≡ value_in at x → Told (x + 1) (set values (n + x) r)
  end_more x values s l room r k = record {
    within = omega arith;
    long = length-set values (n + x) r ∙ s.long;
    each =
        let place : n + (x + 1) ≡ suc (n + x) = omega arith in
        ap (λ (j : ℕ). take j (set values (n + x) r)) place
        ∙ take-suc-set values (n + x) r (omega (arith, s.long))
        ∙ ap₂ (λ (l : List ℕ) (y : ℕ). l ++ (y ∷ [])) s.each k
        ∙ append_assoc (take n before) (map (value_in at) (below x)) (value_in at x ∷ [])
        ∙ ap (λ (l : List ℕ). take n before ++ l)
        (sym (ap (map (value_in at)) (below_more x) ∙ map-append (value_in at) (below x) (x ∷ [])));
  }

  -- all are
  pub end-all : (x : ℕ) (values : List ℕ) → Told x values → locations ≤ x →
      take (n + locations) values ≡ take n before ++ map (value_in at) (below locations)
  end-all x values s l =
      let whole : x ≡ locations = omega (arith, s.within) in
      ap (λ (j : ℕ). take (n + j) values) (sym whole) ∙ s.each
      ∙ ap (λ (j : ℕ). take n before ++ map (value_in at) (below j)) whole
