-- "In: up to 4 harts, 8 locations, 16 events." "A test is one block of 512 bytes." "Edition 2 is three blocks": the limits of
-- both editions.
use Rattle.std.specs.Prelude.{ℕ, ◌*◌}

abbrev pub max_harts : ℕ
max_harts = 4

abbrev pub max_locations : ℕ
max_locations = 8

abbrev pub block_length : ℕ
block_length = 512

pub data Edition : Type 0 where
  one : Edition
  two : Edition

-- how a block states its edition
abbrev pub edition_number : Edition → ℕ
edition_number one = 1
edition_number two = 2

-- "Events run from 1 to 30; edition 1 keeps 16."
abbrev pub most_events : Edition → ℕ
most_events one = 16
most_events two = 30

-- the blocks of a test
abbrev pub blocks_of : Edition → ℕ
blocks_of one = 1
blocks_of two = 3

-- the bytes of a test
abbrev pub test_length : Edition → ℕ
test_length e = block_length * blocks_of e
