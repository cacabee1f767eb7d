-- Laws of the simulator: what its checks find, what is ready where they pass, and that its answers are unique.
pub mod Judging
pub mod Accepting
pub mod Unique
