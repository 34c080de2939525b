pub mod States
pub mod ImageTests
pub mod ImageLaws
pub mod ExceptStates
pub mod SessionHeld
pub mod SessionSteps
pub mod SessionImageExamples
