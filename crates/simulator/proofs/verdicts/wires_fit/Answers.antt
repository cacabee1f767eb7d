-- A wire past its range stops the scan (`cells.proofs.Scan`).
use Rattle.std.proofs.Common.{rules, arith}
use Rattle.meaning.specs.Refusals.{passed}
use Rattle.circuit.specs.Cells.{cell_count}
use Rattle.circuit.specs.Simulated.{wire_refusal}
use Rattle.cells.proofs.Scan.{going-stop}
use Rattle.simulator.proofs.verdicts.wires_fit.Goals as goal

pub returns-in_err-map_err : goal.returns-in_err-map_err
returns-in_err-map_err c =
    let net = c.args.netlist.now in
    let stops = going-stop (wire_refusal c.args.width.bits net c.args.wires.now) (cell_count net) passed c.loop-n.n c.loop-n.invariant
    (omega (arith, c.loop-n-test.true, c.count-n-end.ensures)) in
    search rules
