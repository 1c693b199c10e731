-- The facts of a table are those of the table with the fences of a set turned: none is about flags.
use Prim.Native.Nat.{ℕ, ◌<◌}
use mathlib.Core.Path.{◌≡◌, refl, sym, ap, ap₂, ◌∙◌, subst, fun_ext}
use mathlib.Core.Bool.{Bool, true, false, ◌&&◌, ◌||◌, not}
use mathlib.Core.List.{List}
use lib.ListN.{get_or}
use lib.Dec.{eqb, ltb}
use Rattle.lists.specs.Below.{below, some}
use Rattle.lists.specs.Lists.{keep}
use Rattle.masks.specs.Bit.{bit}
use Rattle.masks.specs.MaskOf.{mask_of}
use Rattle.edition.specs.Limits.{max_harts, max_locations}
use Rattle.table.specs.declared.Event.{Event}
use Rattle.table.specs.declared.Table.{Table}
use Rattle.table.specs.Events.{event, hart, location, reads, writes, memory, same_location, po, between, reserves, paired, reading_kind, writing_kind, store, lr, sc}
use Rattle.table.specs.Annotations.{address_depends, data_depends}
use Rattle.model.specs.Returns.{initial_value}
use Rattle.placing.specs.Guards.{own, depends, rereads}
use Rattle.placing.specs.GoodTable.{GoodTable}
use Rattle.order_facts.specs.Facts.{mask_by, own_writer, needed, opens, grounds, guards, here, right, good, peers, wrong, unmet}
use Rattle.fact_rows.specs.FactRows.{Facts, masks_by}
use Rattle.advice.specs.Advice.{turned, with_fences}
use Rattle.advice.proofs.FenceLaws.{field-stays, kinds-stay}

abbrev Numbers : Type 0
Numbers = ℕ → ℕ

abbrev Test : Type 0
Test = ℕ → Bool

abbrev Relation : Type 0
Relation = ℕ → ℕ → Bool

-- functions of equal functions
ap₃ : {A B C D : Type 0} (f : A → B → C → D) {a a' : A} {b b' : B} {c c' : C} → a ≡ a' → b ≡ b' → c ≡ c' → f a b c ≡ f a' b' c'
ap₃ f {a} {a'} {b} {b'} {c} {c'} p q r = ap₂ (f a) q r ∙ ap (λ g. g b' c') (ap f p)

at : {f g : Relation} → f ≡ g → (a b : ℕ) → f a b ≡ g a b
at e a b = ap (λ (h : Relation). h a b) e

module _ (t : Table) (s : List ℕ) where
  abbrev u : Table
  u = with_fences t s

  -- Fields of the events,
  harts-stay : hart u ≡ hart t
  unfolding hart
  harts-stay = fun_ext (field-stays t s (λ e. e.hart) same)
    where
      same : (b : Bool) (e : Event) → (turned b e).hart ≡ e.hart
      same true e = refl
      same false e = refl

  locations-stay : location u ≡ location t
  unfolding location
  locations-stay = fun_ext (field-stays t s (λ e. e.location.0) same)
    where
      same : (b : Bool) (e : Event) → (turned b e).location.0 ≡ e.location.0
      same true e = refl
      same false e = refl

  addresses-stay : ◌≡◌ {A = Numbers} (λ k. (event u k).addr) (λ k. (event t k).addr)
  addresses-stay = fun_ext (field-stays t s (λ e. e.addr) same)
    where
      same : (b : Bool) (e : Event) → (turned b e).addr ≡ e.addr
      same true e = refl
      same false e = refl

  datas-stay : ◌≡◌ {A = Numbers} (λ k. (event u k).«data») (λ k. (event t k).«data»)
  datas-stay = fun_ext (field-stays t s (λ e. e.«data») same)
    where
      same : (b : Bool) (e : Event) → (turned b e).«data» ≡ e.«data»
      same true e = refl
      same false e = refl

  read-stay : ◌≡◌ {A = Numbers} (λ k. (event u k).read) (λ k. (event t k).read)
  read-stay = fun_ext (field-stays t s (λ e. e.read) same)
    where
      same : (b : Bool) (e : Event) → (turned b e).read ≡ e.read
      same true e = refl
      same false e = refl

  written-stay : ◌≡◌ {A = Numbers} (λ k. (event u k).written) (λ k. (event t k).written)
  written-stay = fun_ext (field-stays t s (λ e. e.written) same)
    where
      same : (b : Bool) (e : Event) → (turned b e).written ≡ e.written
      same true e = refl
      same false e = refl

  -- and what is told by them.
  reads-stay : reads u ≡ reads t
  unfolding reads
  reads-stay = ap {B = Test} (λ (k : Numbers) e. reading_kind (k e)) (kinds-stay t s)

  writes-stay : writes u ≡ writes t
  unfolding writes
  writes-stay = ap {B = Test} (λ (k : Numbers) e. writing_kind (k e)) (kinds-stay t s)

  memory-stays : memory u ≡ memory t
  unfolding memory
  memory-stays = ap₂ {C = Test} (λ (r w : Test) e. r e || w e) reads-stay writes-stay

  po-stays : po u ≡ po t
  unfolding po
  po-stays = ap {B = Relation} (λ (h : Numbers) a b. ltb a b && eqb (h a) (h b)) harts-stay

  same-stays : same_location u ≡ same_location t
  unfolding same_location
  same-stays = ap {B = Relation} (λ (x : Numbers) a b. eqb (x a) (x b)) locations-stay

  depends-stay : depends u ≡ depends t
  unfolding depends address_depends data_depends
  depends-stay = ap₂ {C = Relation} (λ (a d : Numbers) b e. bit (a b) e || bit (d b) e) addresses-stay datas-stay

  paired-stay : paired u ≡ paired t
  unfolding paired reserves between with_fences
  paired-stay = ap₂ {C = Relation} (λ (k : Numbers) (p : Relation) a b. p a b && eqb (k a) lr && eqb (k b) sc
      && not (some t.count (λ m. p a m && p m b && (eqb (k m) lr || eqb (k m) sc)))) (kinds-stay t s) po-stays

  own-stays : own u ≡ own t
  unfolding own
  own-stays = ap₃ {D = Relation} (λ (w : Test) (x p : Relation) r v. w v && x v r && p v r) writes-stay same-stays po-stays

  rereads-stay : rereads u ≡ rereads t
  unfolding rereads reads writes between with_fences
  rereads-stay = ap₃ {D = Relation} (λ (k : Numbers) (p x : Relation) a b. p a b && reading_kind (k a) && reading_kind (k b) && x a b
      && not (some t.count (λ m. p a m && p m b && writing_kind (k m) && x m a))) (kinds-stay t s) po-stays same-stays

  -- The facts.
  own-writers-stay : own_writer u ≡ own_writer t
  unfolding own_writer
  own-writers-stay = ap₂ {C = Relation} (λ (r : Test) (o : Relation) e w. r e && o e w) reads-stay own-stays

  needs_stay : needed u ≡ needed t
  unfolding needed
  needs_stay = ap₂ {C = Relation} (λ (d : Relation) (k : Numbers) w a. d w a || not (eqb (k w) store) && eqb a w) depends-stay (kinds-stay t s)

  windows-stay : opens u ≡ opens t
  unfolding opens
  windows-stay = ap₃ {D = Relation} (λ (w : Test) (r p : Relation) v b. not (w v) && r v b || p b v) writes-stay rereads-stay paired-stay

  grounds-stay : grounds u ≡ grounds t
  unfolding grounds with_fences
  grounds-stay = ap₃ {D = Relation} (λ (w : Test) (o p : Relation) v a. not (w v) && o v a || some t.count (λ l. p l v && o l a)) writes-stay own-writers-stay paired-stay

  guards-stay : guards u ≡ guards t
  unfolding guards with_fences
  guards-stay = ap₃ {D = Relation} (λ (f x o : Relation) a b. f a b && not (x a b) && some t.count (o b)) writers-at harts-same windows-stay
    where
      writers-at : ◌≡◌ {A = Relation} (λ a b. writes u a && same_location u a b) (λ a b. writes t a && same_location t a b)
      writers-at = ap₂ {C = Relation} (λ (w : Test) (x : Relation) a b. w a && x a b) writes-stay same-stays

      harts-same : ◌≡◌ {A = Relation} (λ a b. eqb (hart u a) (hart u b)) (λ a b. eqb (hart t a) (hart t b))
      harts-same = ap {B = Relation} (λ (h : Numbers) a b. eqb (h a) (h b)) harts-stay

  here-stays : here u ≡ here t
  unfolding here
  here-stays = ap₃ {D = Relation} (λ (w r : Test) (x : Relation) a b. w a && r b && x a b) writes-stay reads-stay same-stays

  right-stays : right u ≡ right t
  unfolding right
  right-stays = ap₃ {D = Relation} (λ (h : Relation) (v r : Numbers) a b. h a b && eqb (v a) (r b)) here-stays written-stay read-stay

  good-stays : good u (initial_value u) ≡ good t (initial_value t)
  unfolding good initial_value with_fences
  good-stays = ap₃ {D = Test} (λ (r : Test) (x v : Numbers) e. not (r e) || eqb (get_or t.initial (x e) 0) (v e)) reads-stay locations-stay read-stay

  peers-stay : peers u ≡ peers t
  unfolding peers
  peers-stay = ap₂ {C = Relation} (λ (w : Test) (x : Relation) a b. w a && w b && x b a && not (eqb b a)) writes-stay same-stays

  wrong_stays : wrong u ≡ wrong t
  unfolding wrong with_fences
  wrong_stays = ap₃ {D = Test} (λ (w : Test) (x v : Numbers) e. w e && bit t.stated (x e) && not (eqb (v e) (get_or t.finals (x e) 0))) writes-stay locations-stay written-stay

  unmet-stays : unmet u ≡ unmet t
  unfolding unmet initial_value with_fences
  unmet-stays = ap₂ {C = Test} (λ (w : Test) (x : Numbers) y. bit t.stated y && not (some t.count (λ e. w e && eqb (x e) y))
      && not (eqb (get_or t.initial y 0) (get_or t.finals y 0))) writes-stay locations-stay

  table_stays : GoodTable t → GoodTable u
  unfolding with_fences
  table_stays g = record {
    small = record {
      events = g.small.events;
      locations = g.small.locations;
      each-hart = subst (λ (h : Numbers). (k : ℕ) → k < t.count → h k < max_harts) (sym harts-stay) g.small.each-hart;
      each-location = subst (λ (x : Numbers). (k : ℕ) → k < t.count → x k < max_locations) (sym locations-stay) g.small.each-location;
    };
    located = subst (λ (x : Numbers). (e : ℕ) → e < t.count → x e < t.locations) (sym locations-stay) g.located;
    named = λ b a i j h.
        let r = g.named b a i j (sym (at depends-stay b a) ∙ h) in
        (at po-stays a b ∙ r.0, ap (λ (m : Test). m a) memory-stays ∙ r.1);
    pairs = λ l k i j h. at same-stays l k ∙ g.pairs l k i j (sym (at paired-stay l k) ∙ h);
  }

  -- so they need be made once
  pub facts-stay : {facts : List (List ℕ)} → Facts t facts → Facts u facts
  unfolding with_fences mask_by
  facts-stay f = record {
    table = table_stays f.table;
    own = f.own ∙ row own-writers-stay;
    needs = f.needs ∙ row needs_stay;
    windows = f.windows ∙ row windows-stay;
    grounds = f.grounds ∙ row grounds-stay;
    guards = f.guards ∙ row guards-stay;
    here = f.here ∙ row here-stays;
    right = f.right ∙ row right-stays;
    peers = f.peers ∙ row peers-stay;
    good = f.good ∙ sym (ap (mask_by t) good-stays);
    wrong = f.wrong ∙ sym (ap (mask_by t) wrong_stays);
    unmet = f.unmet ∙ sym (ap (λ (g : Test). mask_of (keep g (below t.locations))) unmet-stays);
  }
    where
      row : {f g : Relation} → g ≡ f → masks_by t f ≡ masks_by t g
      row e = sym (ap (masks_by t) e)
