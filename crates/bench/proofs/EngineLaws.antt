-- Two searches of the same bytes for the same outcome, each along its own list of prefixes.
use Prim.Native.Nat.{ℕ}
use mathlib.Core.Path.{◌≡◌, refl, sym, ◌∙◌}
use mathlib.Core.Bool.{true}
use mathlib.Core.List.{List}
use Rattle.lists.proofs.AscendingLaws.{ascending-same}
use Rattle.bench.specs.Search.{Searched, of_block, of_block_pruned}
use Rattle.bench.specs.Demands.{refusal, is_witness, Call, handed_out, is_finished, Demand3, BothEngines}
use Rattle.bench.proofs.ReplyLaws.{block-sound, pruned-sound}
use Rattle.bench.proofs.Demand3Laws.{demand3}

-- once both are finished, they have handed out the same orders in the same order
same-orders : (q p : Searched) (cs ds : List Call) → Demand3 q cs → Demand3 p ds →
    ((gmo : List ℕ) → is_witness q gmo ≡ is_witness p gmo) →
    is_finished cs ≡ true → is_finished ds ≡ true → handed_out cs ≡ handed_out ds
same-orders q p cs ds a b same f g =
    ascending-same (handed_out cs) (handed_out ds) a.ascending b.ascending
    (λ gmo m. b.complete g gmo (sym (same gmo) ∙ ((a.exact gmo).0 m).0))
    (λ gmo m. a.complete f gmo (same gmo ∙ ((b.exact gmo).0 m).0))

-- "Walked from the beginning until none are left, both engines hand out the same witnesses in the same order."
pub both-engines : BothEngines
unfolding is_witness refusal
both-engines s cs ds w v =
    same-orders (of_block s) (of_block_pruned s) cs ds
    (demand3 (of_block s) (block-sound s) cs w) (demand3 (of_block_pruned s) (pruned-sound s) ds v) (λ gmo. refl)
