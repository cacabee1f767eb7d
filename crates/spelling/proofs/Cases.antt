-- Cases: the largest number printed, and a template, computed from the definitions. Assumes nothing.
use mathlib.Core.Path.{◌≡◌, refl}
use Rattle.spelling.specs.Pieces.{bytes, digits_within, digits, rows, blanks, spelled, filled}

large : digits 4294967295 ≡ bytes "4294967295"
unfolding digits_within digits
large = refl

every-blank : filled (blanks 8 10 205) (bytes "N X Y Z W T;\n") ≡ bytes "10 205 0 0 8 7;\n"
unfolding digits_within digits rows spelled
every-blank = refl
