pub mod Numbers
pub mod Images
pub mod Faults
pub mod NumberLaws
pub mod Laws
