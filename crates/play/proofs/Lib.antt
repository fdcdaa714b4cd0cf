pub mod Prefixes
pub mod Runs
pub mod Parts
pub mod Induction
pub mod Marks
pub mod Ends
pub mod Stranded
pub mod Example
