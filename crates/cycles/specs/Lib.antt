-- What the calls of a cycle need, and what its cells read. Definitions only.
pub mod Ready
pub mod Reads
