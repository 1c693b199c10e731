-- All worked cases hold of the definitions, by computation.
use mathlib.Core.Path.{refl}
use Rattle.model.specs.Computes.{computes as model-computes}
use Rattle.advice.specs.Worked.{computes, Every, set_cases, fence_cases, advice_cases}

pub sets-right : Every set_cases
unfolding computes model-computes
sets-right = (refl, (refl, (refl, tt)))

pub fences-right : Every fence_cases
unfolding computes model-computes
fences-right = ((refl, refl, refl), ((refl, refl, refl), ((refl, refl, refl), ((refl, refl, refl), ((refl, refl, refl), ((refl, refl), ((refl, refl), ((refl, refl), tt))))))))

pub advice-right : Every advice_cases
unfolding computes model-computes
advice-right = ((refl, refl), ((refl, refl), ((refl, refl), ((refl, refl), ((refl, refl), ((refl, refl), ((refl, refl), ((refl, refl), ((refl, refl), ((refl, refl), ((refl, refl), ((refl, refl), ((refl, refl), ((refl, refl), ((refl, refl), ((refl, refl), tt))))))))))))))))
