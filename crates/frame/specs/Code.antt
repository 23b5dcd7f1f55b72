-- What only the contracts of the code's inner functions cite.
pub mod Leaves
