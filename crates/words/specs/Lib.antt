-- What the operations are called. Definitions only.
pub mod Operations
