-- The laws that the proofs of the term evaluator share: what a term's run leaves, by its parts', and the parts of a term.
pub mod Turns
pub mod Parts
