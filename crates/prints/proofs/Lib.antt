pub mod Verdicts
pub mod SheetTexts
pub mod Texts
pub mod AnswerWords
pub mod Made
pub mod Runs
pub mod Input
