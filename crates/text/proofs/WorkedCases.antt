-- The worked texts are as stated.
use mathlib.Core.Path.{refl}
use Rattle.text.specs.WorkedTexts.{Every, computes, worked}

pub worked-right : Every worked
unfolding computes
worked-right = ((refl, refl, refl, refl), ((refl, refl, refl, refl), ((refl, refl, refl, refl), ((refl, refl, refl, refl), (refl, (refl, (refl, (refl, (refl, (refl, (refl, (refl, (refl, (refl, (refl, (refl, (refl, (refl, (refl, (refl, (refl, (refl, (refl, (refl, (refl, (refl, (refl, (refl, ((refl, refl, refl, refl), (refl, (refl, tt)))))))))))))))))))))))))))))))
