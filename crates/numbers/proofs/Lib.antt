-- What is shown of the definitions.
pub mod Cases
pub mod ByteByByte
pub mod Underway
pub mod Unique
