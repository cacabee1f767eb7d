-- What the program prints. In reading order. Definitions only.
pub mod Messages
pub mod Response
