mod Depots
mod Examples
pub mod PieceLists
pub mod Places
