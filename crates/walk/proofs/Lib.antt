pub mod Frames
pub mod AnswerLaws
