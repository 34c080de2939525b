pub mod Spellings
pub mod Lengths
pub mod Fronts
