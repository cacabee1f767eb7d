-- What is shown of the scan: shapes of terms from those of their operands, an array filled in order, and where the scan ends.
pub mod Filled
pub mod Combined
pub mod Scan
