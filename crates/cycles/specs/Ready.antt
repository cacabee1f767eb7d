-- Ready: what holds where wires are computed without a check, and what registers then show. Definitions only.
-- docs/READING.md: "The simulator". Read after: circuit's `Netlists`, `Simulated`. Assumes nothing.
use Rattle.std.specs.Prelude.{ℕ, ◌≡◌, true, List, length, Option, Some, None}
use Rattle.std.specs.Borrow.{Bor}
use Rattle.meaning.specs.Choices.{at}
use Rattle.meaning.specs.Refusals.{passed}
use Rattle.circuit.specs.Cells.{cell_count}
use Rattle.circuit.specs.Netlists.{netlist_verdict}
use Rattle.circuit.specs.Clock.{Held, starting}
use Rattle.circuit.specs.Simulated.{inputs_given}

-- The netlist is checked, its input cells name some of the words given, and there is room for its wires.
pub record Ready (w : ℕ) (net : List ℕ) (given room : ℕ) : Type 0 where
  pub checked : netlist_verdict w net ≡ passed
  pub named : inputs_given net given (cell_count net) ≡ true
  pub fitting : room ≡ cell_count net

-- After the first cycle there is a wire of the cycle before for every cell.
abbrev pub Past : Option (Bor (List ℕ)) → List ℕ → Type 0
Past before net = (earlier : Bor (List ℕ)) → before ≡ Some earlier → length earlier.now ≡ cell_count net

-- What a register shows: where it starts, and afterwards its wire x of the cycle before.
abbrev pub register_shows : Option (Bor (List ℕ)) → ℕ → ℕ → ℕ
register_shows None start x = start
register_shows (Some earlier) start x = at earlier.now x

-- What all registers hold, where those of words start at `start`.
abbrev pub held_by : Option (Bor (List ℕ)) → ℕ → Held
held_by before start n k x = register_shows before (starting (λ m. start) n k x) x
