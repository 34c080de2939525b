pub mod BadKey
pub mod Key
pub mod KeyOrder
pub mod Line
pub mod NotNext
pub mod OutList
pub mod Rows
pub mod Validity
