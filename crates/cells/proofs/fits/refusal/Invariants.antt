-- The test that each call asks of the numbers.
use Rattle.circuit.specs.Netlists.{number_fits, wire_fits, sort_fits}
use Rattle.cells.proofs.fits.refusal.Given as goal

abbrev pub ghost-all_ports : goal.ghost-all_ports
ghost-all_ports a = number_fits a.test.0.now.bits

abbrev pub ghost-all_ports-2 : goal.ghost-all_ports-2
ghost-all_ports-2 a = wire_fits a.test.0.now a.test.1.now

abbrev pub ghost-all_ports-3 : goal.ghost-all_ports-3
ghost-all_ports-3 a = sort_fits a.netlist.now
