pub mod Answers
pub mod Walk
pub mod WalkLaws
pub mod OnlyLaws
pub mod Judged
pub mod Rules
pub mod Codes
