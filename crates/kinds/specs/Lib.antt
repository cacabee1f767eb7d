-- The refusals that a term's own numbers decide. Definitions only.
pub mod Early
