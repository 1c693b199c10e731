-- All worked cases, one list under one statement: `Every worked`.
use Rattle.std.specs.Prelude.{List, [], ◌∷◌, ◌++◌}
use Rattle.model.specs.Claims.{Claim}
use Rattle.model.specs.Cases.{litmus_cases}
use Rattle.model.specs.RuleCases.{may_order_cases, rule1_cases, rule2_cases, rule3_cases, rule4_cases, rule5_cases, rule6_cases, rule7_cases}
use Rattle.model.specs.RuleCases.{rule8_cases, rule9_cases, rule10_cases, rule11_cases, rule12_cases, rule13_cases}
use Rattle.model.specs.AxiomCases.{load_value_cases, atomicity_cases, stated_cases, verdict_cases, order_cases, prefix_cases}
use Rattle.model.specs.PrunedCases.{settled_cases, spoiled_cases, pruned_cases}
use Rattle.model.specs.FollowingCases.{following_cases, condition_cases, unknown_cases, unused_cases}
use Rattle.model.specs.LineCases.{line5_cases, line6_cases, line7_cases, text_line7_cases, line8_cases, line9_cases}
use Rattle.model.specs.LineCases.{line10_cases, line11_cases, line21_cases, line_order_cases}
use Rattle.model.specs.TsoCases.{tso_cases, tso_rule_cases, tso_line_cases}

-- the claims of each heading, one heading after the other
abbrev pub together : List (List Claim) → List Claim
together [] = []
together (cs ∷ rest) = cs ++ together rest

abbrev pub headings : List (List Claim)
headings =
    litmus_cases ∷ may_order_cases ∷ rule1_cases ∷ rule2_cases ∷ rule3_cases ∷ rule4_cases ∷ rule5_cases ∷ rule6_cases ∷ rule7_cases ∷ rule8_cases
    ∷ rule9_cases ∷ rule10_cases ∷ rule11_cases ∷ rule12_cases ∷ rule13_cases ∷ load_value_cases ∷ atomicity_cases ∷ stated_cases ∷ verdict_cases
    ∷ order_cases ∷ prefix_cases ∷ settled_cases ∷ spoiled_cases ∷ pruned_cases ∷ following_cases ∷ condition_cases
    ∷ unknown_cases ∷ unused_cases ∷ line5_cases ∷ line6_cases ∷ line7_cases ∷ text_line7_cases ∷ line8_cases
    ∷ line9_cases ∷ line10_cases ∷ line11_cases ∷ line21_cases ∷ line_order_cases ∷ tso_cases ∷ tso_rule_cases ∷ tso_line_cases ∷ []

abbrev pub worked : List Claim
worked = together headings
