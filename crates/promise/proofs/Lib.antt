-- The theorems, what follows from them, circuits that break the promise, and small runs. The promise is `promise-holds` in `Holds`.
pub mod Holds
pub mod Unique
pub mod Corollaries
pub mod Traps
pub mod Cases
