pub mod Paged
pub mod Standing
