pub mod FaultText
pub mod Joined
pub mod ReadAgain
pub mod StateText
pub mod Status
pub mod TraceText
pub mod WhyText
