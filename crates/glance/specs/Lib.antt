-- What one look at a cell asks and tells. Definitions only.
pub mod Asked
pub mod Sound
