pub mod Acts
pub mod Decimal
pub mod Lines
pub mod Name
pub mod SaidLine
pub mod Scripts
