-- The laws of the evaluator's answer, and that the answer is one.
pub mod Answered
pub mod Unique
