use Prim.Native.Nat.{ℕ, ◌-◌, ◌<◌}
use mathlib.Core.Path.{◌≡◌}
use mathlib.Core.Bool.{true}
use mathlib.Core.List.{List}
use native.Mathlib.Omega.{arith}
use borrow.Author.Tests.{lt-ltb}
use Rattle.masks.proofs.GatherLaws.{gather-start, gather-more, gather-end}
use Rattle.masks.proofs.SortLaws.{sort-start, sort-one, sort-end}
use Rattle.edition.specs.Limits.{max_harts, max_locations}
use Rattle.table.specs.Events.{event, hart, location}
use Rattle.table.proofs.EventTests.{of_events}
use Rattle.event_sets.specs.declared.Sets.{Sets}
use Rattle.event_sets.specs.Sets.{sets_of}
use Rattle.event_sets.proofs.of_table.Goals as goal

-- sets with the same fields are the same
sets_same : {r r' w w' a a' l l' s s' o o' : ℕ} {h h' x x' : List ℕ} →
    r ≡ r' → w ≡ w' → a ≡ a' → l ≡ l' → s ≡ s' → o ≡ o' → h ≡ h' → x ≡ x' →
    ◌≡◌ {A = Sets}
    (record { readers = r; writers = w; acquires = a; releases = l; rcscs = s; reserving = o; harts = h; locations = x })
    (record { readers = r'; writers = w'; acquires = a'; releases = l'; rcscs = s'; reserving = o'; harts = h'; locations = x' })
sets_same p q d e f g i j = cc

pub loop-k-init : goal.loop-k-init
loop-k-init c = let t = c.args.t in
    record {
      readers-so-far = gather-start _ _;
      writers-so-far = gather-start _ _;
      acquires-so-far = gather-start _ _;
      releases-so-far = gather-start _ _;
      rcscs-so-far = gather-start _ _;
      reserving-so-far = gather-start _ _;
      harts-so-far = sort-start (λ e. true) (hart t) max_harts t.count;
      locations-so-far = sort-start (λ e. true) (location t) max_locations t.count;
    }

pub bounds-harts-h : goal.bounds-harts-h
unfolding hart event
bounds-harts-h c = c.requires.each-hart c.loop-k.k c.loop-k-test.true

pub bounds-locations-x : goal.bounds-locations-x
unfolding location event
bounds-locations-x c = c.requires.each-location c.loop-k.k c.loop-k-test.true

pub bounds-harts-h-in-loop-k : goal.bounds-harts-h-in-loop-k
unfolding hart event
bounds-harts-h-in-loop-k c = c.requires.each-hart c.loop-k.k c.loop-k-test.true

pub bounds-locations-x-in-loop-k : goal.bounds-locations-x-in-loop-k
unfolding location event
bounds-locations-x-in-loop-k c = c.requires.each-location c.loop-k.k c.loop-k-test.true

pub loop-k-preserved : goal.loop-k-preserved
unfolding of_events
loop-k-preserved c = let t = c.args.t in
    let k = c.loop-k.k in
    let v = c.loop-k.invariant in
    let small = c.requires in
    let l : k < t.count = c.loop-k-test.true in
    record {
      readers-so-far = gather-more _ _ _ _ _ v.readers-so-far l (rw c.reads.ensures at c.one_if-readers.ensures);
      writers-so-far = gather-more _ _ _ _ _ v.writers-so-far l (rw c.writes.ensures at c.one_if-writers.ensures);
      acquires-so-far =
          gather-more _ _ _ _ _ v.acquires-so-far l
          (rw (c.acquires.ensures, c.annotations-flags.ensures) at c.one_if-acquires.ensures);
      releases-so-far =
          gather-more _ _ _ _ _ v.releases-so-far l
          (rw (c.releases.ensures, c.annotations-flags.ensures) at c.one_if-releases.ensures);
      rcscs-so-far =
          gather-more _ _ _ _ _ v.rcscs-so-far l
          (rw (c.rcsc.ensures, c.annotations-flags.ensures) at c.one_if-rcscs.ensures);
      reserving-so-far = gather-more _ _ _ _ _ v.reserving-so-far l c.one_if-reserving.ensures;
      harts-so-far =
          sort-one (λ e. true) (hart t) _ _ _ _ v.harts-so-far l _ (lt-ltb _ _ (small.each-hart k l)) c.one-bit.ensures;
      locations-so-far =
          sort-one (λ e. true) (location t) _ _ _ _ v.locations-so-far l _ (lt-ltb _ _ (small.each-location k l))
          c.one-bit.ensures;
    }

pub returns : goal.returns
unfolding sets_of
returns c = let t = c.args.t in
    let v = c.loop-k.invariant in
    sets_same
    (gather-end _ _ _ _ v.readers-so-far (omega arith))
    (gather-end _ _ _ _ v.writers-so-far (omega arith))
    (gather-end _ _ _ _ v.acquires-so-far (omega arith))
    (gather-end _ _ _ _ v.releases-so-far (omega arith))
    (gather-end _ _ _ _ v.rcscs-so-far (omega arith))
    (gather-end _ _ _ _ v.reserving-so-far (omega arith))
    (sort-end (λ e. true) (hart t) _ _ _ _ v.harts-so-far (omega arith))
    (sort-end (λ e. true) (location t) _ _ _ _ v.locations-so-far (omega arith))
