-- "Stronger tests never allow more", on bytes.
use Rattle.std.specs.Prelude.{ℕ, ◌≡◌, true, false, List, []}
use Rattle.lists.specs.Lists.{◌∈◌}
use Rattle.table.specs.Annotations.{rvtso}
use Rattle.decode.specs.Decoded.{decoded}
use Rattle.refusals.specs.Lines.{accepted}
use Rattle.block.specs.Reading.{read_refusal}
use Rattle.model.specs.Claims.{in_model}
use Rattle.stronger.specs.Stronger.{stronger}
use Rattle.bench.specs.Search.{Searched, of_block, of_block_pruned}
use Rattle.bench.specs.Demands.{is_witness, Call, Walk, handed_out, is_finished}

-- the second of what is searched allows no more than the first
pub record AllowsNoMore (q p : Searched) : Type 0 where
  -- "Every witness of the second is then a witness of the first."
  pub witnesses : (gmo : List ℕ) → is_witness p gmo ≡ true → is_witness q gmo ≡ true
  -- so an outcome that is forbidden for the first is forbidden for the second
  pub forbidden : ((gmo : List ℕ) → is_witness q gmo ≡ false) → (gmo : List ℕ) → is_witness p gmo ≡ false
  -- also where a walk over the first calls it forbidden
  pub called-forbidden : (cs : List Call) → Walk q [] cs → is_finished cs ≡ true → handed_out cs ≡ [] →
      (gmo : List ℕ) → is_witness p gmo ≡ false
  -- what a walk over the second hands out, a finished walk over the first has handed out
  pub handed_out_lem : (cs ds : List Call) → Walk q [] cs → Walk p [] ds → is_finished cs ≡ true →
      (gmo : List ℕ) → gmo ∈ handed_out ds → gmo ∈ handed_out cs

-- by either engine
abbrev pub BlockAllowsNoMore : (first second : List ℕ) → Type 0
BlockAllowsNoMore s u = AllowsNoMore (of_block s) (of_block u) × AllowsNoMore (of_block_pruned s) (of_block_pruned u)

-- two blocks, of either edition each, that are read
abbrev pub BothRead : (first second : List ℕ) → Type 0
BothRead s u = (read_refusal s ≡ accepted) × (read_refusal u ≡ accepted)

-- "take two good tables that differ only in that the second sets further fence bits, dependency bits or annotations, or turns
-- RCpc into RCsc"
abbrev pub StrongerTests : Type 0
StrongerTests = (s u : List ℕ) → BothRead s u → stronger (decoded s) (decoded u) ≡ true → BlockAllowsNoMore s u

-- a table, of model 0 say, and the same table in model 1
abbrev pub StrongerModel : Type 0
StrongerModel = (s u : List ℕ) → BothRead s u → decoded u ≡ in_model rvtso (decoded s) → BlockAllowsNoMore s u
