-- What is shown of the definitions, in order. The crate `promise` joins it to the theorems.
-- How many cells and wires there are, and where the parts of a block stand.
pub mod Naming
pub mod Lengths
pub mod Places
pub mod Gives
pub mod Sized
pub mod Totals
-- Blocks as functions of the cycle, which behave as the terms that they are made of, and keep the promise where runs start them.
pub mod Streams
pub mod Behaves
pub mod LeafBlock
pub mod SeqBlock
pub mod ParBlock
pub mod Branching
pub mod IteBlock
pub mod Loop
pub mod Round
pub mod RecBlock
pub mod Start
-- Emitted blocks, where every wire obeys its cell.
pub mod Equations
pub mod Wired
pub mod Whole
-- The checks 12 to 16, and that every wire obeys its cell where they pass.
pub mod Indexed
pub mod Passes
pub mod Refusals
pub mod Checked
pub mod Clocked
-- Emitted cells pass, and wires stay in range.
pub mod PassPieces
pub mod PassBlocks
pub mod PassBranches
pub mod InRange
pub mod Simulates
