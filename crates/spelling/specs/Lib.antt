-- Text: how numbers are spelled, templates filled in, and pieces written one after the other. Definitions only.
-- Letters: l a buffer's bytes, t a template, c a byte, b blanks, i an index.
pub mod Pieces
