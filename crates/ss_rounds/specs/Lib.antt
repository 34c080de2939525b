pub mod Measure
pub mod Whole
pub mod Laws
pub mod Examples
