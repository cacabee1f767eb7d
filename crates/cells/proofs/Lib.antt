-- Laws of the cell checks, for this crate, and of scans and chains over places, for the crates above too.
pub mod Scan
pub mod Checks
pub mod Places
pub mod Unique
