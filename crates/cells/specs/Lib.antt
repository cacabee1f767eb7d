-- The numbers of a cell, each as what it is. Definitions only.
pub mod Numbers
