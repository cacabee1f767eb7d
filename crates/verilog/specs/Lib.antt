-- Text: the Verilog text of a netlist, and what the writer answers. In reading order. Definitions only.
-- Letters: w width, net netlist, n wire or cell, i o input and output words, d done wire, outs output wires.
pub mod Lines
pub mod Texts
pub mod Writing
