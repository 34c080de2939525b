pub mod Examples
pub mod KeyNumbers
pub mod KeyOrder
