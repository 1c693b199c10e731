-- The worked cases are right.
use mathlib.Core.Path.{refl}
use mathlib.Core.Bool.{xor}
use Rattle.lists.specs.Below.{up_from}
use Rattle.masks.specs.MaskOf.{mask_of}
use Rattle.operation.specs.Operation.{anded, ored, xored, larger, smaller, applied}
use Rattle.operation.specs.Worked.{Every, worked}

pub right : Every worked
unfolding applied anded ored xored larger smaller mask_of up_from xor
right = (refl, (refl, (refl, (refl, (refl, (refl, (refl, (refl, (refl, (refl, (refl, (refl, (refl, (refl, (refl, (refl, (refl, (refl, (refl, (refl, (refl, tt)))))))))))))))))))))
