-- Writing: refusal 20, and what the writer answers and writes. Definitions only.
-- docs/READING.md: "Refusal numbers", "The Verilog text". Read after: `Texts`, ports' `Interface`, circuit's `Netlists`. Assumes nothing.
use Rattle.std.specs.Prelude.{ℕ, List, [], ◌∷◌, ◌++◌, leb, length, drop, Result, Ok, Err}
use Rattle.meaning.specs.declared.Cause.TheVariants as cause
use Rattle.meaning.specs.declared.Refusal.{Refusal}
use Rattle.meaning.specs.Choices.{pick}
use Rattle.meaning.specs.Refusals.{refusal_numbers, Verdict, passed, refused, on_verdict}
use Rattle.circuit.specs.Netlists.{netlist_verdict}
use Rattle.ports.specs.Interface.{ports_fit}
use Rattle.verilog.specs.Texts.{text_of}

-- 1, 12 to 16, 19, and 20: a buffer of `room` bytes holds the text.
unfoldable pub write_verdict : ℕ → List ℕ → ℕ → ℕ → ℕ → List ℕ → ℕ → Verdict
write_verdict w net i o d outs room =
    on_verdict (netlist_verdict w net)
    (pick (ports_fit net i o d outs)
    (pick (leb (length (text_of w net i o d outs)) room) passed (refused cause.TextRoom 0))
    (refused cause.Ports 0))
    Err

-- The answer: the text's length.
unfoldable pub written_of : ℕ → List ℕ → ℕ → ℕ → ℕ → List ℕ → ℕ → Result ℕ Refusal
written_of w net i o d outs room =
    on_verdict (write_verdict w net i o d outs room) (Ok (length (text_of w net i o d outs))) Err

-- The buffer afterwards: the text and what stood past it, or as it was where the call is refused.
unfoldable pub text_after : ℕ → List ℕ → ℕ → ℕ → ℕ → List ℕ → List ℕ → List ℕ
text_after w net i o d outs buffer =
    on_verdict (write_verdict w net i o d outs (length buffer))
    (text_of w net i o d outs ++ drop (length (text_of w net i o d outs)) buffer)
    (λ r. buffer)

-- The answer as three numbers: refusal number, place, length.
abbrev pub written_numbers : Result ℕ Refusal → List ℕ
written_numbers (Ok n) = 0 ∷ 0 ∷ n ∷ []
written_numbers (Err r) = refusal_numbers r ++ 0 ∷ []
