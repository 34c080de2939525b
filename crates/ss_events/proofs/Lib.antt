pub mod RecordsLeft
pub mod DigitsGrow
pub mod Padding
pub mod Rows
pub mod WholeLists
mod WorkedFiles
