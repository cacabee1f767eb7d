-- `rows::inputs` meets its contract: each cell is an input. Mathematics in `proofs.Turns`.
use Rattle.std.proofs.Common.{ap}
use Rattle.circuit.specs.Cells.{input_cell}
use Rattle.circuit.specs.Gates.{cell_of}
use Rattle.pieces.proofs.Turns.{inputs-row}
use Rattle.pieces.proofs.rows.inputs.Goals as goal

pub returns : goal.returns
returns c = rw (inputs-row c.args.n) at (c.place_each.ensures input_cell (λ j x h p. ap cell_of p))
