pub mod Bitwise
pub mod Threes
pub mod Wides
