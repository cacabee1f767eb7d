-- What the term evaluator is asked, and the run that it makes. Definitions only.
pub mod Runs
