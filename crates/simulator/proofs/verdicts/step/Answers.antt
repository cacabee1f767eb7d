-- A checked netlist has at most 4,096 cells.
use Rattle.std.proofs.Common.{sym, arith}
use Rattle.circuit.proofs.Checked.{checked}
use Rattle.simulator.proofs.verdicts.step.Goals as goal

pub wires_fit-requires : goal.wires_fit-requires
wires_fit-requires c =
    let k = checked _ c.args.netlist.now (sym c.in_ok-check.ensures) in
    (k.some.1, omega arith)
