pub mod DigitsGrow
pub mod NameBytes
pub mod Parts
pub mod Values
