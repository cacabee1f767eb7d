-- Lists: which bytes are a list of decimal numbers, and which numbers they are. Definitions only.
-- docs/READING.md: "The Verilog text". Read after: meaning's `Choices`. Assumes nothing.
use Rattle.std.specs.Prelude.{ℕ, ◌+◌, ◌*◌, ◌-◌, ◌^◌, ◌≤◌, ◌≡◌, Bool, List, [], ◌∷◌, ◌++◌, eqb, ltb, leb, length}
use Rattle.std.specs.Prelude.{Option, Some, None, unwrap_or, option_map, option_to_list}
use Prim.Native.Char.{code}
use Rattle.meaning.specs.Choices.{pick, and, or, padded}
use Rattle.numbers.specs.declared.Listed.{Listed}

-- Digits make numbers; spaces and newlines stand between them; no other byte is welcome.
abbrev pub is_digit : ℕ → Bool
is_digit c = and (leb (code "0") c) (leb c (code "9"))

abbrev pub is_gap : ℕ → Bool
is_gap c = or (eqb c (code " ")) (eqb c (code "\n"))

-- What is read so far: the numbers that have ended, and the number to which the last byte belongs, if that is a digit.
pub record Progress : Type 0 where
  pub ended : List ℕ
  pub current : Option ℕ

abbrev pub progress : List ℕ → Option ℕ → Progress
progress ns v = record { ended = ns; current = v }

abbrev pub begun : Progress
begun = progress [] None

-- The numbers, with the one that a gap or the end of the text ends.
abbrev pub closed : Progress → List ℕ
closed p = p.ended ++ option_to_list p.current

abbrev pub after_gap : Progress → Progress
after_gap p = progress (closed p) None

-- One digit more, in front of which the number counts tenfold; where none is being read, 0 does.
abbrev pub grown : Option ℕ → ℕ → ℕ
grown v c = unwrap_or v 0 * 10 + (c - code "0")

abbrev pub after_digit : ℕ → Progress → Progress
after_digit c p = progress p.ended (Some (grown p.current c))

-- Byte by byte: the numbers, or nothing where the bytes are no list of numbers; a number over 4,294,967,295 is none.
unfoldable pub read_from : List ℕ → Progress → Option (List ℕ)
read_from [] p = Some (closed p)
read_from (c ∷ l) p =
    pick (is_digit c)
    (pick (ltb (grown p.current c) (2 ^ 32)) (read_from l (after_digit c p)) None)
    (pick (is_gap c) (read_from l (after_gap p)) None)

-- 1 to 1,025 numbers, in at most 16,384 bytes.
abbrev pub limited : Option (List ℕ) → Option (List ℕ)
limited (Some ns) = pick (and (leb 1 (length ns)) (leb (length ns) 1025)) (Some ns) None
limited None = None

unfoldable pub numbers_in : List ℕ → Option (List ℕ)
numbers_in l = pick (leb (length l) 16384) (limited (read_from l begun)) None

-- The answer: the count and the numbers in an array of 1,025; nothing where there is no list.
abbrev pub listed_as : List ℕ → Listed
listed_as ns = record { count = length ns; numbers = padded 1025 ns }

unfoldable pub listed_in : List ℕ → Option Listed
listed_in l = option_map listed_as (numbers_in l)

-- These numbers are listed, and no more than the array has room for.
pub record Holds (ns : List ℕ) (L : Listed) : Type 0 where
  pub few : length ns ≤ 1025
  pub held : L ≡ listed_as ns
