-- Decisions worked by hand. x and y are locations 0 and 1; orders are event numbers.
use Rattle.std.specs.Prelude.{ℕ, ◌≡◌, List, [], ◌∷◌}
use Rattle.std.proofs.Math.Option.{Option, none, some}
use Rattle.table.specs.declared.Table.{Table}
use Rattle.model.specs.Claims.{x, y, loads, stores, reserved, conditional, plain_test, in_model, Passes}
use Rattle.states.specs.Decisions.{next_witness}

-- what a decision from a start answers, of a table that passes lines 5 to 11 and 21
pub data Claim : Type 0 where
  decides : Table → (start : List ℕ) → Option (List ℕ) → Claim

abbrev pub Right : Claim → Type 0
Right (decides t p w) = Passes t × (next_witness t p ≡ w)

abbrev pub Every : List Claim → Type 0
Every [] = Unit {0}
Every (c ∷ cs) = Right c × Every cs

-- the definition that a case computes by, besides the model's
unfoldable pub computes : Unit {0}
unfolding next_witness
computes = tt

-- store buffering: both loads read 0. The witnesses are the six orders with 1 before 2 and 3 before 0.
abbrev buffering : Table
buffering = plain_test 2 2 (stores 0 x 1 ∷ loads 0 y 0 ∷ stores 1 y 1 ∷ loads 1 x 0 ∷ [])

-- message passing: the flag is seen, the value isn't
abbrev passing : Table
passing = plain_test 2 2 (stores 0 x 1 ∷ stores 0 y 1 ∷ loads 1 y 1 ∷ loads 1 x 0 ∷ [])

abbrev pub decide_cases : List Claim
decide_cases =
    -- the least of all; called again with it, the next one
    decides buffering [] (some (1 ∷ 2 ∷ 3 ∷ 0 ∷ []))
    ∷ decides buffering (1 ∷ 2 ∷ 3 ∷ 0 ∷ []) (some (1 ∷ 3 ∷ 0 ∷ 2 ∷ []))
    ∷ decides buffering (1 ∷ 3 ∷ 2 ∷ 0 ∷ []) (some (3 ∷ 0 ∷ 1 ∷ 2 ∷ []))
    -- behind the last there is none
    ∷ decides buffering (3 ∷ 1 ∷ 2 ∷ 0 ∷ []) none
    -- any list may be the start: a beginning, one with an event twice, with numbers of no event, longer than an order
    ∷ decides buffering (1 ∷ 3 ∷ []) (some (1 ∷ 3 ∷ 0 ∷ 2 ∷ []))
    ∷ decides buffering (1 ∷ 1 ∷ 200 ∷ []) (some (1 ∷ 2 ∷ 3 ∷ 0 ∷ []))
    ∷ decides buffering (3 ∷ 0 ∷ 1 ∷ 2 ∷ 0 ∷ []) (some (3 ∷ 1 ∷ 0 ∷ 2 ∷ []))
    ∷ decides buffering (4 ∷ []) none
    -- a witness of the model
    ∷ decides passing [] (some (1 ∷ 2 ∷ 3 ∷ 0 ∷ []))
    ∷ decides (in_model 1 passing) [] none
    -- an LR and its SC: the store may not stand between them
    ∷ decides (plain_test 2 1 (reserved 0 x 0 ∷ conditional 0 x 1 ∷ stores 1 x 2 ∷ [])) [] (some (0 ∷ 1 ∷ 2 ∷ []))
    ∷ decides (plain_test 2 1 (reserved 0 x 0 ∷ conditional 0 x 1 ∷ stores 1 x 2 ∷ [])) (0 ∷ 1 ∷ 2 ∷ []) none
    ∷ []
