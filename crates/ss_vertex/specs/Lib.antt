pub mod Inst
pub mod Arriving
pub mod Standing
pub mod Calls
pub mod Kept
pub mod Known
pub mod Laws
