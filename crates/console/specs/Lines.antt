-- A line that is put together before it is written.
use Rattle.std.specs.Prelude.{ℕ, ◌+◌, ◌≤◌, List, ◌++◌, ◌≡◌, length, take}
use Rattle.console.specs.declared.line.Line.{Line}

-- How many bytes are kept.
abbrev pub room : ℕ
room = 512

-- What is kept of a line.
abbrev pub kept : Line → List ℕ
kept l = take l.len l.bytes

-- r is the line l and then the text, where there is room for both.
unfoldable pub AddsTo : Line → List ℕ → Line → Type 0
AddsTo l text r = l.len + length text ≤ room → (r.len ≡ l.len + length text) × (kept r ≡ kept l ++ text)
