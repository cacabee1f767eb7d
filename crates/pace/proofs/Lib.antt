-- Laws of pairs of steps.
pub mod Taking
