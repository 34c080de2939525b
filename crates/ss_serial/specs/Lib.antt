pub mod Drives
pub mod Ends
pub mod Headway
pub mod Stored
