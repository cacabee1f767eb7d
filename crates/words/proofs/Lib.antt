-- What is shown of words: sums and differences that wrap, once over the width.
pub mod Wrapping
