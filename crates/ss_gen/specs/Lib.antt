pub mod Draws
pub mod Events
pub mod Job
pub mod Rows
pub mod Texts
