-- What covers a list of numbers; and the rows that are kept, all of them if there is room.
use Prim.Native.Nat.{ℕ, suc, max, ◌+◌, ◌≤◌, ◌<◌}
use mathlib.Core.Path.{◌≡◌, refl, sym, ap, ◌∙◌}
use mathlib.Core.List.Memᴰ
use mathlib.Core.List.{List, [], ◌∷◌, ◌++◌, map}
use native.Mathlib.Numerals.{add-one}
use native.Mathlib.Omega.{arith}
use lib.ListN.{length, get_or, take, length-map, get_or-map}
use lib.Seq.{take-suc, length-take-le, get_or-take, ext_get_or}
use Rattle.lists.specs.Lists.{◌∈◌}
use Rattle.lists.specs.Filled.{up_to}
use Rattle.lists.proofs.FilledLaws.{length-up_to, get_or-up_to}
use Rattle.table.specs.declared.Event.{Event}
use Rattle.table.specs.Events.{no_event}
use Rattle.text_lines.specs.Lines.{event_of, hart_field, location_field}
use Rattle.text.specs.Texts.{column, covering}

-- it covers each of them, and is the least that does
pub covers : (l : List ℕ) (x : ℕ) → x ∈ l → x < covering l
covers [] x m = elim m [ ]
covers (v ∷ l) x (Memᴰ.head e) = omega (arith, e)
covers (v ∷ l) x (Memᴰ.tail m) = omega (arith, covers l x m)

pub least-covers : (l : List ℕ) (n : ℕ) → ((x : ℕ) → x ∈ l → x < n) → covering l ≤ n
least-covers [] n h = omega arith
least-covers (v ∷ l) n h = omega (arith, h v (Memᴰ.head refl), least-covers l n (λ x m. h x (Memᴰ.tail m)))

covering-last : (l : List ℕ) (x : ℕ) → covering (l ++ (x ∷ [])) ≡ max (covering l) (suc x)
covering-last [] x = omega arith
covering-last (v ∷ l) x = omega (arith, covering-last l x)

map-append : {A B : Type 0} (f : A → B) (l m : List A) → map f (l ++ m) ≡ map f l ++ map f m
map-append f [] m = refl
map-append f (x ∷ l) m = ap (λ (r : List _). f x ∷ r) (map-append f l m)

-- one event more
pub cover-more : (f : Event → ℕ) (l : List Event) (k v w : ℕ) → k < length l → v ≡ covering (map f (take k l))
    → w ≡ max v (f (get_or l k no_event) + 1) → w ≡ covering (map f (take (k + 1) l))
cover-more f l k v w h e q =
    let n = f (get_or l k no_event) in
    let same : covering (map f (take (k + 1) l)) ≡ covering (map f (take k l) ++ (n ∷ [])) =
    ap (λ (m : List Event). covering (map f m)) (ap (λ (j : ℕ). take j l) (add-one k) ∙ take-suc l k no_event h)
    ∙ ap covering (map-append f (take k l) (get_or l k no_event ∷ [])) in
    omega (arith, e, q, same, covering-last (map f (take k l)) n)

-- with room for all rows, those that are kept are all
pub all-kept : {A B : Type 0} (f : B → A) (b : B) (m : ℕ) (rows : List B) → length rows ≤ m
    → take (length rows) (up_to m (λ k. f (get_or rows k b))) ≡ map f rows
all-kept f b m rows h =
    let long = length-up_to m (λ k. f (get_or rows k b)) in
    let taken = length-take-le (length rows) (up_to m (λ k. f (get_or rows k b))) (omega (arith, h, long)) in
    ext_get_or (f b) (take (length rows) (up_to m (λ k. f (get_or rows k b)))) (map f rows) (taken ∙ sym (length-map rows f))
    (λ k i. get_or-take (length rows) (up_to m (λ k. f (get_or rows k b))) k (f b) (omega (arith, i, taken))
    ∙ get_or-up_to m (λ k. f (get_or rows k b)) k (f b) (omega (arith, i, taken, h))
    ∙ sym (get_or-map f rows k b))

-- the harts and locations of the events are those of the lines
pub harts-of : (ls : List (List ℕ)) → map (λ e. e.hart) (map event_of ls) ≡ column hart_field ls
unfolding event_of
harts-of [] = refl
harts-of (l ∷ ls) = ap (λ (r : List ℕ). get_or l hart_field 0 ∷ r) (harts-of ls)

pub locations-of : (ls : List (List ℕ)) → map (λ e. e.location.0) (map event_of ls) ≡ column location_field ls
unfolding event_of
locations-of [] = refl
locations-of (l ∷ ls) = ap (λ (r : List ℕ). get_or l location_field 0 ∷ r) (locations-of ls)
