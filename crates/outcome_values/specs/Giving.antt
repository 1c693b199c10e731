-- What is written of an order, of every table that has these facts.
use Rattle.std.specs.Prelude.{ℕ, ◌%◌, ◌<◌, ◌≡◌, true, cond, List, get_or, take, ltb}
use Rattle.masks.specs.Bit.{bit}
use Rattle.masks.specs.MaskOf.{mask_of}
use Rattle.table.specs.declared.Table.{Table}
use Rattle.table.specs.Events.{reads}
use Rattle.model.specs.Following.{returned_value, end_value}
use Rattle.model.specs.Witness.{is_order}
use Rattle.model.specs.Prefixes.{clean}
use Rattle.placing.specs.Guards.{forwarder}
use Rattle.fact_rows.specs.FactRows.{Facts}
use Rattle.fact_rows.specs.ValueRows.{Values}
use Rattle.order_values.specs.Following.{LeftOf}
use Rattle.outcomes.specs.Outcomes.{readers, outcome_of, outcome_length}

-- room for the values of any order: one for each event, and one for each location
abbrev pub row_length : ℕ
row_length = 40

-- the value told of event or location k, in 16 bits
abbrev pub value_in : (told : List ℕ) → (k : ℕ) → ℕ
value_in told k = get_or told k 0 % 65536

-- the value of reader e behind those placed: what its forwarder leaves, else what is at its location
abbrev pub NowBy : (facts : List (List ℕ)) → (left : List ℕ) → (placed e here r : ℕ) → Type 0
NowBy facts left placed e here r =
    (t : Table) → Facts t facts → e < t.count → reads t e ≡ true →
    r ≡ cond (ltb (forwarder t (bit placed) e) t.count) (get_or left (forwarder t (bit placed) e) 0) here

-- what holds of each table that has these facts, and of which gmo is a clean order
abbrev pub Always : (facts : List (List ℕ)) → (gmo : List ℕ) → (Table → Type 0) → Type 0
Always facts gmo claim =
    (t : Table) → Facts t facts → Values t facts → is_order t gmo ≡ true → clean t gmo ≡ true → claim t

-- where left has what each write leaves: returned has what each reader returns
abbrev pub ReturnsIn : (facts : List (List ℕ)) → (left gmo returned : List ℕ) → Type 0
ReturnsIn facts left gmo returned =
    Always facts gmo (λ t. LeftOf t gmo left →
    (e : ℕ) → e < t.count → reads t e ≡ true → get_or returned e 0 ≡ returned_value t gmo e)

-- and at what each location ends at
abbrev pub EndsIn : (facts : List (List ℕ)) → (left gmo at : List ℕ) → Type 0
EndsIn facts left gmo at =
    Always facts gmo (λ t. LeftOf t gmo left → (x : ℕ) → x < t.locations → get_or at x 0 ≡ end_value t gmo x)

-- the first r values are what gmo gives, if the mask is that of the readers and there are so many locations
abbrev pub Outcome : Table → (gmo : List ℕ) → (mask locations r : ℕ) → (values : List ℕ) → Type 0
Outcome t gmo mask locations r values =
    mask ≡ mask_of (readers t) → locations ≡ t.locations → (take r values ≡ outcome_of t gmo) × (r ≡ outcome_length t)

-- the same of each table, where left has what each write leaves
abbrev pub GivesBy : (facts : List (List ℕ)) → (left gmo : List ℕ) → (mask locations r : ℕ) → (values : List ℕ) → Type 0
GivesBy facts left gmo mask locations r values =
    Always facts gmo (λ t. LeftOf t gmo left → Outcome t gmo mask locations r values)

-- the same of each table
abbrev pub Gives : (facts : List (List ℕ)) → (gmo : List ℕ) → (mask locations r : ℕ) → (values : List ℕ) → Type 0
Gives facts gmo mask locations r values = Always facts gmo (λ t. Outcome t gmo mask locations r values)
