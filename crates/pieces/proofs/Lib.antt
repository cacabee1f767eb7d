-- What is shown of cells written into lent memory.
pub mod Placing
pub mod Turns
pub mod Operations
pub mod Seaming
