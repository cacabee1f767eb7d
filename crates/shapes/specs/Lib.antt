-- What a combinator makes of its operands. Definitions only.
pub mod Shapes
