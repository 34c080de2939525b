pub mod Frames
pub mod Plans
pub mod Within
pub mod Snapshot
pub mod Ranges
pub mod First
pub mod Laws
pub mod Examples
