-- What is shown of the checks and the sizes: the facts of a table, what a kind makes of a term, a size over its operands, and that
-- the two sizings agree.
pub mod Facts
pub mod Parts
pub mod Sizes
pub mod Whole
pub mod Agreement
pub mod Unique
