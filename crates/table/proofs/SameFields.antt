-- Events with the same fields are the same, and so are tables.
use Prim.Native.Nat.{ℕ}
use mathlib.Core.Path.{◌≡◌}
use mathlib.Core.List.{List}
use Rattle.table.specs.declared.Event.{Event}
use Rattle.table.specs.declared.Table.{Table}

pub event-same : (d e : Event) → d.kind ≡ e.kind → d.hart ≡ e.hart → d.location.0 ≡ e.location.0 → d.flags ≡ e.flags
    → d.addr ≡ e.addr → d.«data» ≡ e.«data» → d.ctrl ≡ e.ctrl → d.read ≡ e.read → d.written ≡ e.written
    → d.operation ≡ e.operation → d.operand ≡ e.operand → d ≡ e
event-same d e a b f g i j k l m n o =
    let same : made d.kind d.hart d.location.0 d.flags d.addr d.«data» d.ctrl d.read d.written d.operation d.operand
    ≡ made e.kind e.hart e.location.0 e.flags e.addr e.«data» e.ctrl e.read e.written e.operation e.operand = cc in
    same
  where
    made : (k h x f a d c r w p o : ℕ) → Event
    made k h x f a d c r w p o =
        record { kind = k; hart = h; location = record { 0 = x }; flags = f; addr = a; «data» = d; ctrl = c; read = r; written = w; operation = p; operand = o }

pub table_same : (t u : Table) → t.harts ≡ u.harts → t.locations ≡ u.locations → t.count ≡ u.count → t.stated ≡ u.stated
    → t.model ≡ u.model → t.initial ≡ u.initial → t.events ≡ u.events → t.finals ≡ u.finals → t ≡ u
table_same t u a b d e f g h i =
    let same : made t.harts t.locations t.count t.stated t.model t.initial t.events t.finals
    ≡ made u.harts u.locations u.count u.stated u.model u.initial u.events u.finals = cc in
    same
  where
    made : (h l c s m : ℕ) → List ℕ → List Event → List ℕ → Table
    made h l c s m i e f = record { harts = h; locations = l; count = c; stated = s; model = m; initial = i; events = e; finals = f }
