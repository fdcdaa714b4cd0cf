pub mod Stills
pub mod Alike
pub mod Reading
pub mod Lawful
pub mod Cells
pub mod Entries
pub mod Tables
