-- Interface: which ports fit a netlist: refusal 19. Definitions only.
-- docs/READING.md: "Refusal numbers". Read after: circuit's `Netlists`, `Simulated`. Assumes nothing.
use Rattle.std.specs.Prelude.{ℕ, zero, suc, Bool, true, List, eqb, ltb}
use Rattle.meaning.specs.Choices.{pick, and, at}
use Rattle.meaning.specs.Checks.{few_words}
use Rattle.circuit.specs.Cells.{kind_at, cell_count, bit_kind, word_kind}
use Rattle.circuit.specs.Simulated.{inputs_given}

-- A wire that is there and that a cell of these kinds drives.
abbrev pub wire_of : (ℕ → Bool) → List ℕ → ℕ → Bool
wire_of kinds net n = and (ltb n (cell_count net)) (kinds (kind_at net n))

-- The first n of 16 outputs: each of the first o is a word wire, each past them is 0.
unfoldable pub outputs_fit : List ℕ → ℕ → List ℕ → ℕ → Bool
outputs_fit net o outs zero = true
outputs_fit net o outs (suc n) =
    and (outputs_fit net o outs n) (pick (ltb n o) (wire_of word_kind net (at outs n)) (eqb (at outs n) 0))

-- 19: i and o are 1 to 16, every input cell names a word below i, done is a bit wire, the outputs fit.
unfoldable pub ports_fit : List ℕ → ℕ → ℕ → ℕ → List ℕ → Bool
ports_fit net i o d outs =
    and (few_words i)
    (and (few_words o)
    (and (inputs_given net i (cell_count net))
    (and (wire_of bit_kind net d)
    (outputs_fit net o outs 16))))
