-- What the compiler's parts promise: the blocks of terms in lent memory. Definitions only.
-- Letters: t table, k term, p place in the netlist, s start wire, words wires in an array of 16.
pub mod Building
