-- All worked pairs are related, or aren't, by computation.
use mathlib.Core.Path.{refl}
use Rattle.model.specs.Computes.{computes as model-computes}
use Rattle.stronger.specs.Worked.{computes, Every, fence_cases, annotation_cases, dependency_cases, only_cases}

pub fence-right : Every fence_cases
unfolding computes model-computes
fence-right = ((refl, refl), refl, ((refl, refl), refl, ((refl, refl), refl, ((refl, refl), refl, ((refl, refl), refl, ((refl, refl), refl, ((refl, refl), refl, ((refl, refl), refl, tt))))))))

pub annotation-right : Every annotation_cases
unfolding computes model-computes
annotation-right = ((refl, refl), refl, ((refl, refl), refl, ((refl, refl), refl, ((refl, refl), refl, ((refl, refl), refl, ((refl, refl), refl, ((refl, refl), refl, ((refl, refl), refl, ((refl, refl), refl, ((refl, refl), refl, ((refl, refl), refl, ((refl, refl), refl, ((refl, refl), refl, ((refl, refl), refl, ((refl, refl), refl, ((refl, refl), refl, tt))))))))))))))))

pub dependency-right : Every dependency_cases
unfolding computes model-computes
dependency-right = ((refl, refl), refl, ((refl, refl), refl, ((refl, refl), refl, ((refl, refl), refl, ((refl, refl), refl, ((refl, refl), refl, ((refl, refl), refl, ((refl, refl), refl, ((refl, refl), refl, ((refl, refl), refl, tt))))))))))

pub only-right : Every only_cases
unfolding computes model-computes
only-right = ((refl, refl), refl, ((refl, refl), refl, ((refl, refl), refl, ((refl, refl), refl, ((refl, refl), refl, ((refl, refl), refl, ((refl, refl), refl, ((refl, refl), refl, ((refl, refl), refl, ((refl, refl), refl, ((refl, refl), refl, ((refl, refl), refl, ((refl, refl), refl, ((refl, refl), refl, tt))))))))))))))
