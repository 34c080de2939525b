pub mod Cutting
pub mod Dependence
pub mod Laws
pub mod Limit
pub mod Plan
pub mod Steps
pub mod Streams
