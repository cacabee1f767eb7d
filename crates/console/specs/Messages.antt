-- Messages: the two lines that the program prints in the place of a text. Definitions only.
-- docs/READING.md: "The Verilog text". Read after: spelling's `Pieces`, meaning's `Refusals`. Assumes nothing.
use Rattle.std.specs.Prelude.{ℕ, List}
use Rattle.meaning.specs.declared.Refusal.{Refusal}
use Rattle.meaning.specs.Refusals.{cause_number}
use Rattle.spelling.specs.Pieces.{bytes, blanks, filled}

-- A refusal: its number and its place.
unfoldable pub refused_line : Refusal → List ℕ
refused_line r = filled (blanks 1 (cause_number r.cause) r.place) (bytes "refused N at X\n")

-- What is no list of numbers.
unfoldable pub no_list_line : List ℕ
no_list_line = bytes "not a number list\n"
