pub mod Answer
pub mod AnswerText
pub mod FaultText
pub mod RefusalText
