-- Laws on Boolean tests and on lists.
pub mod Bools
pub mod Lists
