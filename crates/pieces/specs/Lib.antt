-- What is promised of cells written into lent memory. Definitions only.
-- Letters: p place in the netlist, s start wire, words wires in an array of 16.
pub mod Writing
pub mod Seams
