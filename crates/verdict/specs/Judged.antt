-- The code's verdict in the paper's words: allowed, or an axiom with its place; and a reply: a refusal, or a verdict.
use Rattle.std.specs.Prelude.{Result, Ok, Err}
use Rattle.lists.specs.Reply.{Reply, refused, answered}
use Rattle.refusals.specs.Lines as lines
use Rattle.refusals.specs.declared.Refusal.{Refusal}
use Rattle.refusals.specs.Refusals.{refusal_of}
use Rattle.model.specs.Verdict as model
use Rattle.rule_sets.specs.RuleMask.{rules_in}
use Rattle.verdict.specs.declared.Axiom.{Axiom}
use Rattle.verdict.specs.declared.Axiom.TheVariants.{PreservedOrder, LoadValue, Atomicity, ValueRead, FinalValue}
use Rattle.verdict.specs.declared.Verdict.{Verdict}
use Rattle.verdict.specs.declared.Verdict.TheVariants.{Allowed, Broken}

-- the axiom that is broken, with its place
abbrev pub axiom_of : Axiom → model.Verdict
axiom_of (PreservedOrder a b set) = model.broken_ppo a.0 b.0 (rules_in set)
axiom_of (LoadValue reader) = model.broken_load_value reader.0
axiom_of (Atomicity lr writer) = model.broken_atomicity lr.0 writer.0
axiom_of (ValueRead reader) = model.broken_value_read reader.0
axiom_of (FinalValue location) = model.broken_final_value location.0

abbrev pub judged_of : Verdict → model.Verdict
judged_of Allowed = model.allowed
judged_of (Broken a) = axiom_of a

-- a reply: a refusal, or the verdict
abbrev pub judged_by : Result Verdict Refusal → Reply lines.Refused model.Verdict
judged_by (Ok v) = answered (judged_of v)
judged_by (Err r) = refused (refusal_of r)
