pub mod Fired
pub mod Kept
