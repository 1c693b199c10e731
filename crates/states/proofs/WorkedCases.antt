-- All worked cases hold of the definitions, by computation.
use mathlib.Core.Path.{refl}
use Rattle.model.specs.Computes.{computes as model-computes}
use Rattle.states.specs.Worked.{computes, Every, decide_cases}

pub decides-right : Every decide_cases
unfolding computes model-computes
decides-right =
    ((refl, refl), ((refl, refl), ((refl, refl), ((refl, refl), ((refl, refl), ((refl, refl), ((refl, refl), ((refl, refl), ((refl, refl), ((refl, refl), ((refl, refl), ((refl, refl), tt))))))))))))
