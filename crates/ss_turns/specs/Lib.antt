pub mod View
pub mod Rule
pub mod Plays
pub mod Values
pub mod Fits
pub mod Stands
pub mod Examples
