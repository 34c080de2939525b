pub mod Held
pub mod States
pub mod ImageTests
pub mod ImageLaws
pub mod ImageExamples
