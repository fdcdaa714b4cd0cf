pub mod Bitmaps
pub mod Choosing
pub mod Inputs
pub mod Parts
pub mod Spelling
pub mod Lawful
pub mod Standing
pub mod Spelled
