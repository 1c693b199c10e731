use mathlib.Core.List.{[]}
use mathlib.Core.Path.{subst}
use lib.ListN.{length}
use Rattle.witness_walk.specs.Running.{Follows, LeftOf}
use Rattle.engine.specs.State.{Began, LoadedAs}
use Rattle.witness_walk.proofs.FollowLaws.{holds-fitting}
use Rattle.search.proofs.CallLaws.{begins-unclean, begins-cut, begins-at}
use Rattle.search.proofs.begin.Goals as goal
use Rattle.search.proofs.begin.Goals.{In_ok-masks}

-- the start that was read
began : (c : In_ok-masks) → let a = c.args in
    Began a.pred.now a.mem a.start.now c.load.new.order (length a.start.now) c.in_ok-masks.masks.placed c.in_ok-masks.masks.can
began c = subst (LoadedAs _ _ _ _) c.in_ok-masks.was c.load.ensures

pub follow-requires : goal.follow-requires
follow-requires c = let h = holds-fitting c.requires.0 (began (goal.at.follow-requires c).In_ok-masks).holds in (h.0, h.1, c.requires.2)

pub returns-in_err-masks : goal.returns-in_err-masks
returns-in_err-masks c =
    rw c.from_residual.ensures (begins-unclean _ [] [] (subst (LoadedAs _ _ _ _) c.in_err-masks.was c.load.ensures))

pub returns-in_err-later : goal.returns-in_err-later
returns-in_err-later c = let f = c.follow in
    rw c.from_residual-in_err-later.ensures
    (begins-cut f.new.goods (began (goal.at.returns-in_err-later c).In_ok-masks) (subst (Follows _ _ _ _ _ _) c.in_err-later.was f.ensures.follows))

pub returns : goal.returns
returns c = let f = c.follow in
    begins-at f.new.goods (began (goal.at.returns c).In_ok-masks) (subst (Follows _ _ _ _ _ _) c.in_ok-later.was f.ensures.follows)
    (subst (LeftOf _) c.in_ok-later.was f.ensures.left_of.0) f.ensures.left_of.1
