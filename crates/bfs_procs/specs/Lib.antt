pub mod Answers
pub mod Borrowed
pub mod Renaming
