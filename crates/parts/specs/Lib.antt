pub mod Values
pub mod Plays
pub mod Claims
pub mod Tables
