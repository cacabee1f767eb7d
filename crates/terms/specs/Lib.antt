-- What is asked of a table, and of an array that says how many words its terms take and give. Definitions only.
-- Letters: t table, k term.
pub mod Judged
