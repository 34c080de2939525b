pub mod Graph
pub mod Needs
pub mod Starts
