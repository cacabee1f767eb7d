-- What is shown of the compiler's parts.
pub mod Typing
pub mod Leaves
pub mod Pairs
pub mod Forking
pub mod Loops
pub mod Terms
pub mod Circuits
pub mod Unique
