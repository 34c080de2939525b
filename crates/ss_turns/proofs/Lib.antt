pub mod Counting
pub mod Keeps
pub mod Rotates
pub mod Holds
pub mod Moves
pub mod Ends
