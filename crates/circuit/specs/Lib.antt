-- Netlists: their cells, their checks, their emission from a term, their clock, and the promise. In reading order. Definitions only.
-- Letters: w width, t table or cycle, net netlist, n wire or cell, b first wire of a block, s start wire, d done wire, xs input wires.
pub mod Cells
pub mod Gates
pub mod Netlists
pub mod Pieces
pub mod Blocks
pub mod Compiling
pub mod Clock
pub mod Simulated
pub mod Promise
