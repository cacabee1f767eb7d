-- The ports that a caller names for a netlist. Definitions only.
-- Letters: net netlist, n wire or output, i o input and output words, d done wire, outs output wires.
pub mod Interface
