-- What only the contracts of private functions cite.
pub mod Insertion
pub mod Marks
