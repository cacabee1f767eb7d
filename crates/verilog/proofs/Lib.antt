-- What is shown of the definitions.
pub mod Cases
pub mod Joining
pub mod Answering
pub mod Buffer
pub mod Unique
