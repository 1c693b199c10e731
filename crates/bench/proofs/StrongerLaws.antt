-- Two blocks of which the second is at least as strong as the first.
use Prim.Native.Nat.{ℕ}
use mathlib.Core.Path.{◌≡◌, sym, ap, ◌∙◌, subst}
use mathlib.Core.Bool.{Bool, true, false}
use mathlib.Core.List.{List}
use Rattle.lists.proofs.BoolLaws.{is_false, not-either}
use Rattle.table.specs.declared.Table.{Table}
use Rattle.decode.specs.Decoded.{decoded}
use Rattle.refusals.specs.Lines.{Refused, accepted, unless}
use Rattle.block.specs.Reading.{read_refusal}
use Rattle.model.specs.Witness.{stated_outcome, witness_for, witness}
use Rattle.model.specs.Prefixes.{clean}
use Rattle.model.specs.Settled.{unpruned}
use Rattle.stronger.specs.Statements.{NoMore}
use Rattle.stronger.proofs.StrongerLaws.{stronger-tables, stronger-model as model-one}
use Rattle.bench.specs.Search.{Searched, of_block_by, of_block, of_block_pruned}
use Rattle.bench.specs.Demands.{refusal, is_witness}
use Rattle.bench.specs.Stronger.{AllowsNoMore, BlockAllowsNoMore, BothRead, StrongerTests, StrongerModel}
use Rattle.bench.proofs.ReplyLaws.{Sound, block-sound, pruned-sound}
use Rattle.bench.proofs.Demand3Laws.{demand3}

-- where every witness of the second is one of the first
no_more : (q p : Searched) → Sound q → Sound p → ((gmo : List ℕ) → is_witness p gmo ≡ true → is_witness q gmo ≡ true) →
    AllowsNoMore q p
no_more q p sq sp only = record {
  witnesses = only;
  forbidden = none;
  called-forbidden = λ cs w f e. none (((demand3 q sq cs w).forbidden f).0 e);
  handed_out_lem = λ cs ds w v f gmo m. (demand3 q sq cs w).complete f gmo (only gmo (((demand3 p sp ds v).exact gmo).0 m).0);
}
  where
    none : ((gmo : List ℕ) → is_witness q gmo ≡ false) → (gmo : List ℕ) → is_witness p gmo ≡ false
    none f gmo = is_false (is_witness p gmo) (λ h. not-either (is_witness q gmo) (only gmo h) (f gmo))

-- a block that is read has the witnesses of its table, by whatever list it is searched
witness-read : (passes : Table → List ℕ → Bool) (s : List ℕ) → read_refusal s ≡ accepted → (gmo : List ℕ) →
    is_witness (of_block_by passes s) gmo ≡ witness (decoded s) gmo
unfolding is_witness refusal read_refusal witness
witness-read passes s ok gmo = ap (λ (r : Refused). unless r (witness_for (decoded s) (stated_outcome (decoded s)) gmo) false) ok

blocks-no-more : (s u : List ℕ) → BothRead s u → NoMore (decoded s) (decoded u) → BlockAllowsNoMore s u
blocks-no-more s u ok n = (
  no_more (of_block s) (of_block u) (block-sound s) (block-sound u) (only clean),
  no_more (of_block_pruned s) (of_block_pruned u) (pruned-sound s) (pruned-sound u) (only unpruned),
)
  where
    only : (passes : Table → List ℕ → Bool) (gmo : List ℕ) →
        is_witness (of_block_by passes u) gmo ≡ true → is_witness (of_block_by passes s) gmo ≡ true
    only passes gmo h = witness-read passes s ok.0 gmo ∙ n.witnesses gmo (sym (witness-read passes u ok.1 gmo) ∙ h)

-- "Stronger tests never allow more."
pub stronger-tests : StrongerTests
stronger-tests s u ok h = blocks-no-more s u ok (stronger-tables (decoded s) (decoded u) h)

-- model 1 never allows more than model 0 of the same table
pub stronger-model : StrongerModel
stronger-model s u ok e = blocks-no-more s u ok (subst (NoMore (decoded s)) (sym e) (model-one (decoded s)))
