pub mod Outcome
pub mod Inside
