pub mod ReadAgain
pub mod Stepping
pub mod SessionCounts
