pub mod ActsAgain
pub mod Examples
pub mod Names
pub mod Said
pub mod Traces
pub mod Vertices
pub mod Words
