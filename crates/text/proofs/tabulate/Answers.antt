use native.Mathlib.Omega.{arith}
use lib.Dec.{ltb}
use borrow.Author.Tests.{ltb-false}
use Rattle.lists.proofs.BoolLaws.{or_l, or_r}
use Rattle.edition.specs.Limits.{max_harts, max_locations}
use Rattle.text.proofs.JudgeLaws.{judged-5, judged-same}
use Rattle.text.proofs.TableLaws.{count-over, fields-over, table-made}
use Rattle.text.proofs.tabulate.Goals as goal

pub returns-then-count-gt-EVENTS : goal.returns-then-count-gt-EVENTS
returns-then-count-gt-EVENTS c = judged-5 _ _ _ (count-over _ _ _ _ c.if-count-gt-EVENTS.true)

pub returns-then-fields-locations : goal.returns-then-fields-locations
returns-then-fields-locations c = let f = c.least-fields.ensures in
    judged-5 _ _ _
    (fields-over _ _ _ _ _ _ _ f.harts_value c.larger-locations.ensures f.locations_value c.if-fields-locations.true)

pub overflow_cast-t : goal.overflow_cast-t
overflow_cast-t c = let harts = c.least-fields.result.harts in
    let h = or_l (ltb max_harts harts) (ltb max_locations c.larger-locations.result) c.if-fields-locations.false in
    let few = ltb-false max_harts harts h in omega (arith, few)

pub overflow_cast-t-2 : goal.overflow_cast-t-2
overflow_cast-t-2 c = let locations = c.larger-locations.result in
    let h = or_r (ltb max_harts c.least-fields.result.harts) (ltb max_locations locations) c.if-fields-locations.false in
    let few = ltb-false max_locations locations h in omega (arith, few)

pub returns : goal.returns
returns c = let f = c.least-fields.ensures in
    judged-same _ _ _ _ _ (table-made _ _ _ _ _ _ _ f.harts_value c.larger-locations.ensures f.locations_value) c.judge.ensures
