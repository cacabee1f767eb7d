-- What is shown of kinds: how many operands each has, and that check 6 is a fact of each operand.
pub mod Joining
