pub mod Rules
pub mod Tries
pub mod Once
