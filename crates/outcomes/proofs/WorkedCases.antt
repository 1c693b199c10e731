-- All worked cases hold of the definitions, by computation.
use mathlib.Core.Path.{refl}
use Rattle.model.specs.Computes.{computes as model-computes}
use Rattle.outcomes.specs.Worked.{computes, Every, outcome_cases, call_cases}

pub outcomes-right : Every outcome_cases
unfolding computes model-computes
outcomes-right =
    ((refl, refl, refl), ((refl, refl, refl), ((refl, refl, refl), ((refl, refl, refl), ((refl, refl, refl), ((refl, refl, refl), tt))))))

pub calls-right : Every call_cases
unfolding computes model-computes
calls-right =
    ((refl, refl), ((refl, refl), ((refl, refl), ((refl, refl), ((refl, refl), ((refl, refl), ((refl, refl), ((refl, refl), ((refl, refl), ((refl, refl), tt))))))))))
