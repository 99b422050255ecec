-- The numbers in numerals.
use mathlib.Core.Path.{refl}
use Rattle.refusals.specs.Numbers.{NumberLaws}

pub number_laws : NumberLaws
number_laws = record { numbers = refl }
