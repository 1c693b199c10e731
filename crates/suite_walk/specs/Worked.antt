-- Cases of the walk, worked by hand from the paper.
use Rattle.std.specs.Prelude.{ℕ, ◌≡◌, List, [], ◌∷◌, ◌++◌, replicate, take}
use Rattle.suite_walk.specs.Tests.{test_length_at, next_block, tests}

abbrev zeros : ℕ → List ℕ
zeros n = replicate n 0

-- the header block of an edition 2 test: one hart, one location, one event; the check is 733
abbrev pub header : List ℕ
header = 0x52 ∷ 0x56 ∷ 0x54 ∷ 0x31 ∷ 2 ∷ 1 ∷ 1 ∷ 1 ∷ (zeros 500 ++ (0xdd ∷ 0x02 ∷ 0 ∷ 0 ∷ []))

-- a store of 1 to location 0, in the first block of records; the check is 21
abbrev pub records : List ℕ
records = 2 ∷ (zeros 17 ++ (1 ∷ (zeros 489 ++ (21 ∷ 0 ∷ 0 ∷ 0 ∷ []))))

-- the whole test: the second block of records has none
abbrev pub good : List ℕ
good = header ++ records ++ zeros 512

-- a suite has its tests at these blocks, so long
pub data Claim : Type 0 where
  begin : List ℕ → List ℕ → Claim
  has_bytes : List ℕ → ℕ → ℕ → Claim
  is_next : List ℕ → ℕ → ℕ → Claim

abbrev pub Right : Claim → Type 0
Right (begin s ks) = tests s ≡ ks
Right (has_bytes s k n) = test_length_at s k ≡ n
Right (is_next s k n) = next_block s k ≡ n

abbrev pub Every : List Claim → Type 0
Every [] = Unit {0}
Every (c ∷ cs) = Right c × Every cs

abbrev pub worked : List Claim
worked =
    begin [] []
    ∷ begin (zeros 1025) (0 ∷ 1 ∷ 2 ∷ [])
    ∷ has_bytes (zeros 1025) 2 1
    ∷ has_bytes (zeros 1025) 3 0
    ∷ is_next (zeros 1025) 3 3
    -- "a good edition 2 test moves the walk by three blocks, anything else (refused, too few bytes left: 1) by one"
    ∷ begin (good ++ take 700 good) (0 ∷ 3 ∷ 4 ∷ [])
    ∷ has_bytes (good ++ take 700 good) 0 1536
    ∷ has_bytes (good ++ take 700 good) 3 700
    -- refused by 7: the record has no kind
    ∷ begin (header ++ zeros 1024) (0 ∷ 1 ∷ 2 ∷ [])
    ∷ has_bytes (header ++ zeros 1024) 0 1536
    ∷ []
