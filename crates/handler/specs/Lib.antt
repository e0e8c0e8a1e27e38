pub mod AnswerText
pub mod RequestSteps
pub mod Arguments
pub mod Responds
pub mod Sessions
