-- Cases: the lines, computed from the definitions. Assumes nothing.
use mathlib.Core.Path.{◌≡◌, refl}
use Rattle.meaning.specs.declared.Cause.TheVariants as cause
use Rattle.meaning.specs.Refusals.{refusal}
use Rattle.spelling.specs.Pieces.{bytes, blanks, digits_within, digits, rows, spelled, filled}
use Rattle.console.specs.Messages.{refused_line, no_list_line}

refusal-line : refused_line (refusal cause.TermValue 1) ≡ bytes "refused 5 at 1\n"
unfolding digits_within digits rows spelled refused_line
refusal-line = refl

-- No letter of the other line is a blank. `no_list` cites it.
pub no_blank : filled (blanks 1 0 0) (bytes "not a number list\n") ≡ no_list_line
unfolding rows spelled no_list_line
no_blank = refl
