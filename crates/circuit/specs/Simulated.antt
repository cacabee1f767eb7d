-- Simulated: what the simulator answers and writes. Definitions only.
-- docs/READING.md: "The simulator", "Refusal numbers". Read after: `Netlists`, `Clock`. Assumes nothing.
use Rattle.std.specs.Prelude.{ℕ, zero, suc, ◌^◌, Bool, true, List, eqb, ltb, leb, length, Err}
use Rattle.meaning.specs.declared.Cause.TheVariants as cause
use Rattle.meaning.specs.Choices.{pick, and, at, all_below}
use Rattle.meaning.specs.Words.{Words}
use Rattle.meaning.specs.Refusals.{Check, Verdict, passed, refused, on_verdict}
use Rattle.meaning.specs.Checks.{first_refusal}
use Rattle.circuit.specs.Cells.{cell_number, kind_at, cell_count, bit_kind}
use Rattle.circuit.specs.Netlists.{netlist_verdict}
use Rattle.circuit.specs.Clock.{power_up, step}

-- The input cells among the first n name words that are given, of which there are m.
unfoldable pub inputs_given : List ℕ → ℕ → ℕ → Bool
inputs_given net m zero = true
inputs_given net m (suc n) =
    and (inputs_given net m n) (pick (eqb (kind_at net n) 8) (ltb (cell_number net n 1) m) true)

-- 11: at most 16 words, each below 2 ^ w, and every input cell's among them.
abbrev pub inputs_verdict : ℕ → List ℕ → Words → Verdict
inputs_verdict w net words =
    pick (and (leb (length words) 16) (and (inputs_given net (length words) (cell_count net)) (all_below (2 ^ w) words)))
    passed (refused cause.InputWords 0)

-- 18: wire n of a cycle is at most 1 for a bit, below 2 ^ w for a word.
abbrev pub wire_refusal : ℕ → List ℕ → List ℕ → ℕ → Check
wire_refusal w net earlier n =
    pick (pick (bit_kind (kind_at net n)) (leb (at earlier n) 1) (ltb (at earlier n) (2 ^ w))) passed (Err cause.WireValue)

-- At power-up: 1, 12 to 16, 17, 11. `room` is the length of the buffer for the wires.
unfoldable pub power_up_verdict : ℕ → List ℕ → Words → ℕ → Verdict
power_up_verdict w net words room =
    on_verdict (netlist_verdict w net)
    (pick (eqb room (cell_count net)) (inputs_verdict w net words) (refused cause.WireRoom 0))
    Err

-- At a step: 1, 12 to 16, 17 of both buffers, 18, 11.
unfoldable pub step_verdict : ℕ → List ℕ → List ℕ → Words → ℕ → Verdict
step_verdict w net earlier words room =
    on_verdict (netlist_verdict w net)
    (pick (and (eqb (length earlier) (cell_count net)) (eqb room (cell_count net)))
    (first_refusal (wire_refusal w net earlier) (cell_count net) 0 (inputs_verdict w net words))
    (refused cause.WireRoom 0))
    Err

-- The wires afterwards: those of the cycle, or as they were where the call is refused. Word registers start 0.
unfoldable pub wires_at_start : ℕ → List ℕ → Bool → Words → List ℕ → List ℕ
wires_at_start w net load words buffer =
    on_verdict (power_up_verdict w net words (length buffer)) (power_up w (λ n. 0) net load words) (λ r. buffer)

unfoldable pub wires_after : ℕ → List ℕ → List ℕ → Bool → Words → List ℕ → List ℕ
wires_after w net earlier load words buffer =
    on_verdict (step_verdict w net earlier words (length buffer)) (step w net earlier load words) (λ r. buffer)
