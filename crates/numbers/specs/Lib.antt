-- Lists of decimal numbers, as they stand in text. Definitions only.
-- Letters: l bytes, c a byte, ns numbers, p what is read so far.
pub mod Lists
