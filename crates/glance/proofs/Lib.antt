-- Laws of one look: what a sound cell is made of, and that a step whose cells are sound is accepted.
pub mod Soundness
pub mod Accepting
