-- The buffers of a run are queues.
use Prim.Native.Nat.{ℕ, ◌-◌, ◌<◌}
use native.Mathlib.Omega.{arith}
use mathlib.Core.Path.{◌≡◌, refl, sym, ap, ◌∙◌}
use mathlib.Core.Bool.{Bool, true, false, cond, ◌&&◌, and-true, and-false, or-false}
use mathlib.Core.List.{List, [], ◌∷◌, ◌++◌, append-nil}
use lib.Dec.{eqb}
use borrow.Author.Tests.{eqb-true, eq-eqb, ne_eqb}
use Rattle.lists.specs.Below.{below}
use Rattle.lists.specs.Lists.{has}
use Rattle.lists.proofs.BoolLaws.{and_l, and_r, and_right, is_false, not-either}
use Rattle.lists.proofs.KeepLaws.{keep-none}
use Rattle.lists.proofs.MemberLaws.{has-append, has_here}
use Rattle.lists.proofs.QueueLaws.{queue-same, queue-enters, queue-leaves}
use Rattle.edition.specs.Limits.{max_harts}
use Rattle.table.specs.declared.Table.{Table}
use Rattle.table.specs.Events.{kind, hart, reads, writes, reading_kind, writing_kind, amo}
use Rattle.table.proofs.ProgramOrderLaws.{po-less, is-po}
use Rattle.model.specs.Rules.{may_order, static_ppo}
use Rattle.placing.specs.Guards.{ready}
use Rattle.placing.proofs.GuardLaws.{within-at}
use Rattle.machine.specs.Machine.{State, start, buffered, may_issue, enter, perform, drain, event_of, accepts, stepped, is_run}
use Rattle.machine.specs.Statements.{state, buffer, BuffersRight}
use Rattle.machine.proofs.TsoLaws.{TsoTable, static-writes}
use Rattle.machine.proofs.OrderLaws.{placed_in}
use Rattle.machine.proofs.StateLaws.{Reached, Next, Oldest, stores, store-memory, store-reads, reads-memory, buffered-is, issued-earlier, next-away}
use Rattle.machine.proofs.IssueLaws.{issue-is}
use Rattle.machine.proofs.StepLaws.{issue-parts, drain-parts, reached-start}
use Rattle.machine.proofs.RunLaws.{reached-run}
use Rattle.machine.proofs.MachineLaws.{run-snoc, after-snoc}

module _ (t : Table) (s : State) (e : ℕ) where
  -- a step changes the place of its own event only
  pub enter-other : (x : ℕ) → eqb x e ≡ false → buffered t (enter s e) x ≡ buffered t s x
  unfolding buffered enter
  enter-other x q = rw q

  pub drain-other : (x : ℕ) → eqb x e ≡ false → buffered t (drain s e) x ≡ buffered t s x
  unfolding buffered drain
  drain-other x q = rw (has-append x s.gmo (e ∷ []), q, or-false (has x s.gmo))

  pub perform-other : (x : ℕ) → eqb x e ≡ false → buffered t (perform t s e) x ≡ buffered t s x
  unfolding buffered perform
  perform-other x q = rw (has-append x s.gmo (e ∷ []), q, or-false (has x s.gmo))

  -- where its event is then
  pub enter-own : has e s.gmo ≡ false → buffered t (enter s e) e ≡ stores t e
  unfolding buffered enter
  enter-own q = rw (eq-eqb e e refl, q) (and-true (stores t e && true) ∙ and-true (stores t e))

  pub drain-own : buffered t (drain s e) e ≡ false
  unfolding buffered drain
  drain-own = rw (has_here s.gmo [] e) (and-false (stores t e && has e s.issued))

  -- the test by which hart h's buffer is kept
  abbrev on : State → ℕ → ℕ → Bool
  on u h x = eqb (hart t x) h && buffered t u x

  -- where e is on another hart, or in neither state buffered, the buffer stays
  buffer-same : (u : State) (h : ℕ) → ((x : ℕ) → eqb x e ≡ false → buffered t u x ≡ buffered t s x) → on u h e ≡ on s h e →
      buffer t u h ≡ buffer t s h
  unfolding buffer
  buffer-same u h other own = queue-same (on u h) (on s h) t.count (λ x. go x (eqb x e) refl)
    where
      go : (x : ℕ) (b : Bool) → eqb x e ≡ b → on u h x ≡ on s h x
      go x true q = ap (on u h) (eqb-true x e q) ∙ own ∙ ap (on s h) (sym (eqb-true x e q))
      go x false q = ap (λ (b : Bool). eqb (hart t x) h && b) (other x q)

  elsewhere : (u : State) (h : ℕ) → eqb (hart t e) h ≡ false → on u h e ≡ on s h e
  elsewhere u h q = rw q

  module _ (r : Reached t s) where
    -- a store enters
    enter-buffer : Next t s e → (h : ℕ) → buffer t (enter s e) h ≡ buffer t s h ++ cond (eqb (hart t e) h && stores t e) (e ∷ []) []
    unfolding buffer
    enter-buffer n h = go (eqb (hart t e) h) refl (stores t e) refl
      where
        was : buffered t s e ≡ false
        was = is_false _ (λ q. not-either _ (buffered-is t s e q).issued n.new)

        now : buffered t (enter s e) e ≡ stores t e
        now = enter-own (next-away t s r e n)

        later : eqb (hart t e) h ≡ true → (x : ℕ) → e < x → on s h x ≡ false
        later q x l = is_false _ (λ p. not-either _
            (r.down e x (buffered-is t s x (and_r (eqb (hart t x) h) _ p)).issued
            (is-po t e x l (eqb-true _ h q ∙ sym (eqb-true _ h (and_l _ (buffered t s x) p))))) n.new)

        apart : (x : ℕ) → (x ≡ e → ⊥) → on (enter s e) h x ≡ on s h x
        apart x q = ap (λ (b : Bool). eqb (hart t x) h && b) (enter-other x (ne_eqb x e q))

        go : (a : Bool) → eqb (hart t e) h ≡ a → (c : Bool) → stores t e ≡ c →
            buffer t (enter s e) h ≡ buffer t s h ++ cond (a && c) (e ∷ []) []
        go true p true q =
            queue-enters (on s h) (on (enter s e) h) e (rw (p) was) (rw (p) (now ∙ q)) t.count n.inside
            (λ x l. sym (apart x (λ d. absurd (omega arith))))
            (λ x l. (later p x l, apart x (λ d. absurd (omega arith)) ∙ later p x l))
        go true p false q = buffer-same (enter s e) h enter-other (rw (now, q, was)) ∙ sym (append-nil (buffer t s h))
        go false p c q = buffer-same (enter s e) h enter-other (elsewhere (enter s e) h p) ∙ sym (append-nil (buffer t s h))

    -- a reader changes nothing
    perform-buffer : reads t e ≡ true → (h : ℕ) → buffer t (perform t s e) h ≡ buffer t s h
    perform-buffer g h =
        let off : (u : State) → buffered t u e ≡ false =
        λ u. is_false _ (λ q. not-either _ g (store-reads t e (buffered-is t u e q).stored)) in
        buffer-same (perform t s e) h perform-other (rw (off (perform t s e), off s))

    -- the oldest leaves
    drain-buffer : Oldest t s e → (h : ℕ) → buffer t s h ≡ cond (eqb (hart t e) h) (e ∷ []) [] ++ buffer t (drain s e) h
    unfolding buffer
    drain-buffer o h = go (eqb (hart t e) h) refl
      where
        earlier : eqb (hart t e) h ≡ true → (x : ℕ) → x < e → on s h x ≡ false
        earlier q x l = is_false _ (λ p. not-either _ (and_r (eqb (hart t x) h) _ p)
            (o.first x (is-po t x e l (eqb-true _ h (and_l _ (buffered t s x) p) ∙ sym (eqb-true _ h q)))))

        apart : (x : ℕ) → (x ≡ e → ⊥) → on (drain s e) h x ≡ on s h x
        apart x q = ap (λ (b : Bool). eqb (hart t x) h && b) (drain-other x (ne_eqb x e q))

        go : (a : Bool) → eqb (hart t e) h ≡ a → buffer t s h ≡ cond a (e ∷ []) [] ++ buffer t (drain s e) h
        go true p =
            queue-leaves (on s h) (on (drain s e) h) e (rw p o.held) (rw p drain-own) t.count o.inside
            (λ x l. (earlier p x l, apart x (λ d. absurd (omega arith)) ∙ earlier p x l))
            (λ x l. sym (apart x (λ d. absurd (omega arith))))
        go false p = sym (buffer-same (drain s e) h drain-other (elsewhere (drain s e) h p))

    -- where an AMO issues, its hart's buffer is empty: rule 6
    amo-buffer : TsoTable t → Next t s e → may_issue t s e ≡ true → kind t e ≡ amo → buffer t s (hart t e) ≡ []
    unfolding buffer ready may_order reads writes
    amo-buffer k n may q = keep-none (on s (hart t e)) (below t.count) (λ x m. is_false _ (λ p.
        let b = buffered-is t s x (and_r (eqb (hart t x) (hart t e)) _ p) in
        let o = issued-earlier t s r x e n b.issued (eqb-true _ _ (and_l _ (buffered t s x) p)) in
        not-either _ (within-at t (placed_in t s.gmo) (λ a. static_ppo t a e) steady x (omega (arith, po-less t x e o, n.inside))
        (static-writes k x e (rw (o, store-memory t x b.stored) (reads-memory t e g)) (ap writing_kind q))) b.away))
      where
        g : reads t e ≡ true
        g = ap reading_kind q

        steady : ready t (placed_in t s.gmo) e ≡ true
        steady = and_l _ _ (sym (issue-is k r e n g) ∙ may)

pub buffers-right : {t : Table} → TsoTable t → BuffersRight t
unfolding stepped
buffers-right {t} k = record {
  issues = λ bs b run i h.
      let p = issue-parts t (state t bs) b (takes bs b run) i in
      let e = event_of t (state t bs) b in
      ap (λ (u : State). buffer t u h) (after-snoc t (start t) bs b) ∙ rw i (issue bs b run p.0 p.1 h (reads t e) refl);
  drains = λ bs b run i h.
      let p = drain-parts t (state t bs) b (takes bs b run) i in
      let e = event_of t (state t bs) b in
      drain-buffer t (state t bs) e (so_far bs b run) p.0 h
      ∙ ap (λ (x : ℕ). cond (eqb x h) (e ∷ []) [] ++ buffer t (drain (state t bs) e) h) p.1
      ∙ ap (λ (u : State). cond (eqb (b - max_harts) h) (e ∷ []) [] ++ buffer t u h) (sym (after-snoc t (start t) bs b ∙ rw i));
  amos = λ bs b run i q.
      let p = issue-parts t (state t bs) b (takes bs b run) i in
      ap (buffer t (state t bs)) (sym p.1) ∙ amo-buffer t (state t bs) (event_of t (state t bs) b) (so_far bs b run) k p.0 p.2 q;
}
  where
    takes : (bs : List ℕ) (b : ℕ) → is_run t (start t) (bs ++ (b ∷ [])) ≡ true → accepts t (state t bs) b ≡ true
    takes bs b run = and_r (is_run t (start t) bs) _ (sym (run-snoc t (start t) bs b) ∙ run)

    so_far : (bs : List ℕ) (b : ℕ) → is_run t (start t) (bs ++ (b ∷ [])) ≡ true → Reached t (state t bs)
    so_far bs b run =
        reached-run k (start t) bs (reached-start t) (and_l _ (accepts t (state t bs) b) (sym (run-snoc t (start t) bs b) ∙ run))

    issue : (bs : List ℕ) (b : ℕ) → is_run t (start t) (bs ++ (b ∷ [])) ≡ true →
        let e = event_of t (state t bs) b in Next t (state t bs) e → hart t e ≡ b → (h : ℕ) (c : Bool) → reads t e ≡ c →
        buffer t (cond c (perform t (state t bs) e) (enter (state t bs) e)) h
        ≡ buffer t (state t bs) h ++ cond (eqb b h && stores t e) (e ∷ []) []
    issue bs b run n q h true g =
        perform-buffer t (state t bs) (event_of t (state t bs) b) (so_far bs b run) g h
        ∙ sym (append-nil (buffer t (state t bs) h))
        ∙ ap (λ (x : Bool). buffer t (state t bs) h ++ cond x (event_of t (state t bs) b ∷ []) [])
        (sym (and_right (eqb b h) _ (is_false _ (λ i. not-either _ g (store-reads t (event_of t (state t bs) b) i)))))
    issue bs b run n q h false g =
        enter-buffer t (state t bs) (event_of t (state t bs) b) (so_far bs b run) n h
        ∙ ap (λ (x : ℕ). let e = event_of t (state t bs) b in buffer t (state t bs) h ++ cond (eqb x h && stores t e) (e ∷ []) []) q
