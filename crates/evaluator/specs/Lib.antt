-- What the evaluator says of an accepted table. Definitions only.
pub mod Answered
