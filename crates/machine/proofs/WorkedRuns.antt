-- All worked runs hold of the definitions, by computation.
use mathlib.Core.Path.{refl}
use Rattle.model.specs.Computes.{computes as model-computes}
use Rattle.machine.specs.Worked.{computes, Every, step_cases, steady_cases, forward_cases, return_cases, drain_cases, complete_cases}

pub step_right : Every step_cases
unfolding computes model-computes
step_right = (refl, (refl, refl), (refl, (refl, refl), (refl, (refl, refl), (refl, (refl, refl), (refl, (refl, refl), (refl, (refl, refl), (refl, (refl, refl), (refl, (refl, refl), (refl, refl, (refl, refl, (refl, refl, (refl, refl, (refl, refl, (refl, refl, (refl, refl, (refl, refl, (refl, refl, (refl, refl, (refl, (refl, refl), (refl, (refl, refl), (refl, (refl, refl), (refl, (refl, refl), (refl, (refl, refl), (refl, refl, tt))))))))))))))))))))))))

pub steady-right : Every steady_cases
unfolding computes model-computes
steady-right = (refl, refl, (refl, (refl, refl), (refl, refl, (refl, refl, (refl, (refl, refl), (refl, (refl, refl), (refl, (refl, refl), (refl, (refl, refl), (refl, (refl, refl), (refl, (refl, refl), (refl, (refl, refl), (refl, refl, tt))))))))))))

pub forward-right : Every forward_cases
unfolding computes model-computes
forward-right = (refl, refl, (refl, (refl, refl), (refl, refl, (refl, (refl, refl), (refl, refl, (refl, refl, (refl, refl, (refl, (refl, refl), (refl, (refl, refl), (refl, (refl, refl), (refl, (refl, refl), (refl, refl, (refl, refl, tt)))))))))))))

pub return-right : Every return_cases
unfolding computes model-computes
return-right = (refl, (refl, refl), (refl, (refl, refl), (refl, (refl, refl), (refl, (refl, refl), (refl, (refl, refl), (refl, refl, (refl, (refl, refl), (refl, (refl, refl), (refl, (refl, refl), (refl, (refl, refl), (refl, (refl, refl), tt)))))))))))

pub drain-right : Every drain_cases
unfolding computes model-computes
drain-right = (refl, refl, (refl, (refl, refl), (refl, refl, (refl, (refl, refl), (refl, (refl, refl), (refl, (refl, refl), (refl, refl, (refl, (refl, refl), tt))))))))

pub complete-right : Every complete_cases
unfolding computes model-computes
complete-right = (refl, (refl, refl), (refl, (refl, refl), (refl, (refl, refl), (refl, (refl, refl), (refl, (refl, refl), tt)))))
