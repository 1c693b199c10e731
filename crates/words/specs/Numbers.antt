-- The number by which a refusal is named in words.
use Rattle.std.specs.Prelude.{ℕ}
use Rattle.refusals.specs.Lines.{Refused, accepted, by_line, by_record, by_place}

-- 0 is no refusal.
abbrev pub number_of : Refused → ℕ
number_of accepted = 0
number_of (by_line n) = n
number_of (by_record n k) = n
number_of (by_place n p) = n
