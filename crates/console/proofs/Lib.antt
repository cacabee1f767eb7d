-- What is shown of what the program prints.
pub mod Cases
pub mod Printing
pub mod Listing
