-- What is shown of what a run leaves, and of the words of two sides.
pub mod Joined
pub mod Left
