use Prim.Native.Nat.{ℕ}
use mathlib.Core.List.{List}
use mathlib.Core.Path.{◌≡◌, ap}
use Rattle.table.specs.declared.EventNo.{EventNo}
use Rattle.table.specs.declared.LocationNo.{LocationNo}
use Rattle.table.specs.declared.Table.{Table}
use Rattle.model.specs.Verdict.{Verdict, verdict}
use Rattle.verdict.proofs.JudgeLaws.{at_pair, at_load, at-atomicity, at_read, at-final}
use Rattle.verdict.proofs.JudgeLaws.{past-pair, past-load, past-atomicity, past-read, past-final}
use Rattle.verdict.proofs.JudgeLaws.{load_line, atomicity_line, read_line, final_line}
use borrow.Author.Rules.{rules}
use Rattle.verdict.proofs.judge.Goals as goal
use Rattle.verdict.proofs.judge.Goals.{In_default, In_default-lowest_load_value, In_default-lowest_lr, In_default-lowest_value_read}

-- past each line that is kept: what the rest says is the verdict
abbrev Skips : Table → List ℕ → List ℕ → (Table → List ℕ → List ℕ → Verdict) → Type 0
Skips t rf gmo rest = (v : Verdict) → v ≡ rest t rf gmo → v ≡ verdict t rf gmo

skip-1 : (c : In_default) → Skips c.args.t c.args.rf.now c.args.gmo.now load_line
skip-1 c v h = past-pair _ _ _ v c.in_default.ensures h

skip-2 : (c : In_default-lowest_load_value) → Skips c.args.t c.args.rf.now c.args.gmo.now load_line
    → Skips c.args.t c.args.rf.now c.args.gmo.now atomicity_line
skip-2 c skip v h = skip v (past-load _ _ _ v c.in_default-lowest_load_value.ensures h)

skip-3 : (c : In_default-lowest_lr) → Skips c.args.t c.args.rf.now c.args.gmo.now atomicity_line
    → Skips c.args.t c.args.rf.now c.args.gmo.now read_line
skip-3 c skip v h = skip v (past-atomicity _ _ _ v c.in_default-lowest_lr.ensures h)

skip-4 : (c : In_default-lowest_value_read) → Skips c.args.t c.args.rf.now c.args.gmo.now read_line
    → Skips c.args.t c.args.rf.now c.args.gmo.now (λ t rf gmo. final_line t gmo)
skip-4 c skip v h = skip v (past-read _ _ _ v c.in_default-lowest_value_read.ensures h)

pub rule_set-set-requires : goal.rule_set-set-requires
rule_set-set-requires c = let found = c.in-Some.ensures in (found.below, found.within, search rules, search rules)

pub returns-in-Some : goal.returns-in-Some
returns-in-Some c = at_pair _ _ _ _ _ _ c.in-Some.ensures c.rule_set-set.ensures

pub returns-in-Some-lowest_load_value : goal.returns-in-Some-lowest_load_value
returns-in-Some-lowest_load_value c = let p = goal.at.returns-in-Some-lowest_load_value c in
    let found = c.in-Some-lowest_load_value.ensures in
    skip-1 p.In_default _ (at_load _ _ _ _ found.0 (ap (λ (r : EventNo). r.0) found.1))

pub returns-in-Some-lowest_lr : goal.returns-in-Some-lowest_lr
returns-in-Some-lowest_lr c = let p = goal.at.returns-in-Some-lowest_lr c in
    let found = c.in-Some-lowest_lr.ensures in
    skip-2 p.In_default-lowest_load_value (skip-1 p.In_default) _
    (at-atomicity _ _ _ _ _ found.0 (ap (λ (l : EventNo). l.0) found.1) c.atomicity_writer-w.ensures)

pub returns-in-Some-lowest_value_read : goal.returns-in-Some-lowest_value_read
returns-in-Some-lowest_value_read c = let p = goal.at.returns-in-Some-lowest_value_read c in
    let found = c.in-Some-lowest_value_read.ensures in
    skip-3 p.In_default-lowest_lr (skip-2 p.In_default-lowest_load_value (skip-1 p.In_default)) _
    (at_read _ _ _ _ found.0 (ap (λ (r : EventNo). r.0) found.1))

pub lowest_final_value-requires : goal.lowest_final_value-requires
lowest_final_value-requires c = c.requires.1

pub returns-in-Some-lowest_final_value : goal.returns-in-Some-lowest_final_value
returns-in-Some-lowest_final_value c = let p = goal.at.returns-in-Some-lowest_final_value c in
    let found = c.in-Some-lowest_final_value.ensures in
    skip-4 p.In_default-lowest_value_read (skip-3 p.In_default-lowest_lr (skip-2 p.In_default-lowest_load_value (skip-1 p.In_default))) _
    (at-final _ _ _ found.0 (ap (λ (x : LocationNo). x.0) found.1))

pub returns : goal.returns
returns c = let p = goal.at.returns c in
    skip-4 p.In_default-lowest_value_read (skip-3 p.In_default-lowest_lr (skip-2 p.In_default-lowest_load_value (skip-1 p.In_default))) _
    (past-final _ _ c.in_default-lowest_final_value.ensures)
