-- Laws of a cycle's wires: which words input cells name, what cells read, and how a pass fills a buffer.
pub mod Inputs
pub mod Reading
pub mod Passing
