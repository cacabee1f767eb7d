-- What the benchmark's call leaves in its buffers. Definitions only.
pub mod Pairs
