-- What a table of terms is and means, in reading order. Definitions only.
-- Letters: w width, t table, k term's number or kind, T f g e terms, x v ws words, n m budget or count, c cycles.
pub mod Choices
pub mod Words
pub mod Kinds
pub mod Terms
pub mod Counts
pub mod Refusals
pub mod Checks
pub mod Cycles
pub mod Published
pub mod Answers
