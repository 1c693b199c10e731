use native.Mathlib.Omega.{arith}
use mathlib.Core.Path.{◌∙◌}
use Prim.Native.Nat.{◌<◌}
use lib.ListN.{length}
use Rattle.condition_reader.specs.Words.{atom_of}
use borrow.Author.Rules.{rules}
use Rattle.std.specs.Prelude.{Err}
use Rattle.condition_reader.specs.Steps.{Goes, lettered}
use Rattle.condition_reader.proofs.AtomLaws.{lettered-at, put-node}
use Rattle.condition_reader.proofs.put_atom.Goals as goal

pub returns-in_err-atom : goal.returns-in_err-atom
returns-in_err-atom c =
    let a = c.args in
    let q = c.in_err-atom.ensures in
    let e : Goes a.text.now a.words.now a.words.now (lettered a.returned) a.step (Err c.in_err-atom.field-0.0) =
    (lettered-at _ _ _ c.requires.1 ∙ q.0, q.1) in
    search rules

pub returns : goal.returns
returns c =
    let a = c.args in
    let r = c.requires.0 in
    let q = c.in_ok-atom.ensures in
    let p = c.push.ensures in
    let o = atom_of a.returned q.0 q.1 in
    let room : a.step.len < length a.words.now = omega (arith, q.3, q.4, r.short, r.long, r.fed) in (
      o,
      rw p.1 (lettered-at _ _ _ c.requires.1 ∙ q.2),
      rw (p.0, p.2) (put-node a.words.now a.step.len c.in_ok-atom.atom.word o room q.5),
      omega (arith, p.1, q.3),
      omega (arith, p.1, p.2, q.4),
    )
