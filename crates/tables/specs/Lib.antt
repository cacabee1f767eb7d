-- What is found of a term, and what the scan of a table answers, in reading order. Definitions only.
pub mod Readings
pub mod Scans
