-- Results: a run that starts at one cycle and has until another, and what it leaves. Definitions only.
-- docs/READING.md: "Cycles". Assumes nothing.
use Rattle.std.specs.Prelude.{ℕ, ◌-◌, ◌≡◌, ◌++◌, take, Option, Some, None}
use Rattle.meaning.specs.Choices.{padded}
use Rattle.meaning.specs.Words.{Words}
use Rattle.meaning.specs.Cycles.{Result as Run, unfinished, ended, Evaluator, later}

-- A run that starts at one cycle and has until another.
abbrev pub run_from : Evaluator → ℕ → ℕ → Words → Run
run_from E start limit x = later start (E (limit - start) x)

-- How a run is told: the cycle at which it ended, if it did.
abbrev pub end_of : Run → Option ℕ
end_of unfinished = None
end_of (ended c ws) = Some c

-- A run leaves its end, and where it ended its words in an array of 16; of what an unfinished run leaves there nothing is said.
pub record Leaves (r : Run) (e : Option ℕ) (array : Words) : Type 0 where
  pub end : e ≡ end_of r
  pub words : (c : ℕ) (ws : Words) → r ≡ ended c ws → array ≡ padded 16 ws

-- The first n words of one array, then those of another, 16 in all.
abbrev pub side_by_side : Words → ℕ → Words → Words
side_by_side x n y = take n x ++ take (16 - n) y
