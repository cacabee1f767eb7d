-- What is shown of the definitions.
pub mod Cases
pub mod Placing
pub mod Digits
pub mod Spells
pub mod Unique
